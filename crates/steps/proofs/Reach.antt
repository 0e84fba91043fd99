-- How far a list reaches: neither its end nor the place of a refusal lies beyond the greatest list, and a legal one has all its items. Assumes nothing.
use Prim.Native.Nat.{ℕ, zero, suc, ◌+◌, ◌*◌, ◌≤◌}
use native.Mathlib.Nat.{suc-mul, mul-le-mul_right}
use native.Mathlib.Omega.{arith}
use mathlib.Core.Path.{◌≡◌, refl, ap, ◌∙◌}
use mathlib.Core.Bool.{Bool, true, false, cond}
use mathlib.Core.List.{List}
use lib.ListN.{length, take, drop}
use lib.Dec.{leb, eqb}
use borrow.Author.Tests.{leb-true, eqb-true}
use Rattle.faults.specs.declared.Refusal.{Refusal}
use Rattle.faults.specs.Faults.{short}
use Rattle.wire.specs.Bytes.{be}
use Rattle.wire.specs.Layout.{Rule, free, listed, fixed, length_to, count_to, allows, breach, Layout, stop, no_arm, arm, number, plain, buffer, one}
use Rattle.wire.specs.Records.{Part, num, tag, span, Ans, found, refused, next, left, Parsed}
use Rattle.wire.specs.Reading.{also, piece, field, walk, list, end_of, read}
use Rattle.wire.specs.Writing.{whole}
use Rattle.wire.proofs.Steps.{found_same, next_found, when_found}
use Rattle.codes.specs.Codes.{alg, curve}
use Rattle.format.specs.declared.list.ListOf.{ListOf}
use Rattle.format.specs.Kinds.{tpmt_ha, tpms_pcr_selection, tpms_alg_property, tpms_tagged_property, tpms_tagged_policy, tpms_act_data, item_layout, most_items}
use Rattle.format.proofs.Bounds.{digest_holds}
use Rattle.format.proofs.Lists.{greatest_item, greatest_list, list_small}

-- an answer that ends, or fails, not beyond the place n
abbrev Within : Ans ℕ → ℕ → Type 0
Within (found e) n = e ≤ n
Within (refused f) n = f.place ≤ n

within_more : (a : Ans ℕ) {m n : ℕ} → Within a m → m ≤ n → Within a n
within_more (found e) h g = omega arith
within_more (refused f) h g = omega arith

end_next : {A : Type 0} (a : Ans A) (k : A → Ans Parsed) → end_of (next a k) ≡ next a (λ x. end_of (k x))
end_next (found x) k = refl
end_next (refused f) k = refl

also_end : (p : Part) (a : Ans Parsed) → end_of (also p a) ≡ end_of a
also_end p (found r) = refl
also_end p (refused f) = refl

-- a number that its rule does not allow is refused where it stands
breach_place : (r : Rule) (at n : ℕ) → (breach r at n).place ≡ at
breach_place free at n = refl
breach_place (listed p) at n = refl
breach_place (fixed p) at n = refl
breach_place (length_to m) at n = refl
breach_place (count_to m) at n = refl

module _ (src : List ℕ) (at n : ℕ) (here : at ≤ n) where
  field_within : (w : ℕ) (r : Rule) (k : ℕ → Ans ℕ) → ((m : ℕ) → allows r m ≡ true → Within (k m) n) → Within (next (field w r src at) k) n
  unfolding field piece
  field_within w r k g = by (leb w (left src at)) (take w (drop at src))
    where
      test : (b : Bool) (m : ℕ) → allows r m ≡ b → Within (next (cond b (found m) (refused (breach r at m))) k) n
      test true m e = g m e
      test false m e = rw (breach_place r at m) here

      by : (b : Bool) (xs : List ℕ) → Within (next (next (cond b (found xs) (refused (short at w (left src at)))) (λ xs. cond (allows r (be xs)) (found (be xs)) (refused (breach r at (be xs))))) k) n
      by true xs = test (allows r (be xs)) (be xs) refl
      by false xs = here

  piece_within : (m : ℕ) (k : List ℕ → Ans ℕ) → ((xs : List ℕ) → Within (k xs) n) → Within (next (piece m src at) k) n
  unfolding piece
  piece_within m k g = by (leb m (left src at))
    where
      by : (b : Bool) → Within (next (cond b (found (take m (drop at src))) (refused (short at m (left src at)))) k) n
      by true = g (take m (drop at src))
      by false = here

-- the reader of a layout, wherever it begins, reaches no further than m bytes on
record Reaching (l : Layout) (m : ℕ) : Type 0 where
  pub reaches : (src : List ℕ) (at : ℕ) → Within (end_of (read l src at)) (at + m)

reaching_more : {l : Layout} {m n : ℕ} → m ≤ n → Reaching l m → Reaching l n
reaching_more {l} h g = record { reaches = λ src at. within_more (end_of (read l src at)) (g.reaches src at) (omega arith) }

stop_reaching : Reaching stop 0
unfolding read
stop_reaching = record { reaches = λ src at. omega arith }

no_arm_reaching : (m v : ℕ) → Reaching (no_arm v) m
unfolding read
no_arm_reaching m v = record { reaches = λ src at. omega arith }

arm_reaching : (m v t : ℕ) (l : Layout) → Reaching l m → Reaching (arm v t l) m
unfolding read
arm_reaching m v t l h = record { reaches = λ src at. rw (also_end (tag t) (read l src at)) (h.reaches src at) }

number_reaching : (w m : ℕ) (r : Rule) {k : ℕ → Layout} → ((n : ℕ) → Reaching (k n) m) → Reaching (number w r k) (w + m)
unfolding read
number_reaching w m r {k} h = record {
  reaches = λ src at.
      rw (end_next (field w r src at) _)
      (field_within src at (at + (w + m)) (omega arith) w r _
      (λ n a. rw (also_end (num n) (read (k n) src (at + w))) (within_more (end_of (read (k n) src (at + w))) ((h n).reaches src (at + w)) (omega arith))));
}

plain_reaching : (n m : ℕ) {l : Layout} → Reaching l m → Reaching (plain n l) (n + m)
unfolding read
plain_reaching n m {l} h = record {
  reaches = λ src at.
      rw (end_next (piece n src at) _)
      (piece_within src at (at + (n + m)) (omega arith) n _
      (λ xs. rw (also_end (span at n) (read l src (at + n))) (within_more (end_of (read l src (at + n))) (h.reaches src (at + n)) (omega arith))));
}

buffer_reaching : (w m k : ℕ) {l : Layout} → Reaching l k → Reaching (buffer w m l) (w + m + k)
unfolding read
buffer_reaching w m k {l} h = record {
  reaches = λ src at.
      rw (end_next (field w (length_to m) src at) _)
      (field_within src at (at + (w + m + k)) (omega arith) w (length_to m) _
      (λ n e. let small : n ≤ m = leb-true n m e in
      rw (end_next (piece n src (at + w)) _)
      (piece_within src (at + w) (at + (w + m + k)) (omega arith) n _
      (λ xs. rw (also_end (span (at + w) n) (read l src (at + w + n))) (within_more (end_of (read l src (at + w + n))) (h.reaches src (at + w + n)) (omega arith))))));
}

one_reaching : (w : ℕ) (r : Rule) → Reaching (one w r) (w + 0)
one_reaching w r = number_reaching w 0 r (λ n. stop_reaching)

ha_reaching : Reaching tpmt_ha 66
unfolding tpmt_ha
ha_reaching =
    number_reaching 2 64 alg
    (digest_holds (λ l. Reaching l 64) (no_arm_reaching 64) (arm_reaching 64)
    (λ n h. reaching_more (omega arith) (plain_reaching n 0 stop_reaching)) (reaching_more (omega arith) stop_reaching))

-- a line a list: no item reaches further than the greatest
item_within : (i : ListOf) → Reaching (item_layout i) (greatest_item i)
unfolding tpms_pcr_selection tpms_alg_property tpms_tagged_property tpms_tagged_policy tpms_act_data
item_within ListOf.AlgProperty = number_reaching 2 4 alg (λ n. one_reaching 4 free)
item_within ListOf.Handle = one_reaching 4 free
item_within ListOf.Cca = one_reaching 4 free
item_within ListOf.Cc = one_reaching 4 free
item_within ListOf.PcrSelection = number_reaching 2 5 alg (λ n. buffer_reaching 1 4 0 stop_reaching)
item_within ListOf.TaggedTpmProperty = number_reaching 4 4 free (λ n. one_reaching 4 free)
item_within ListOf.EccCurve = one_reaching 2 curve
item_within ListOf.TaggedPolicy = number_reaching 4 66 free (λ n. ha_reaching)
item_within ListOf.ActData = number_reaching 4 8 free (λ n. number_reaching 4 4 free (λ n. one_reaching 4 free))

walk_by : (a : Ans Parsed) (k : ℕ → Ans ℕ) (m n : ℕ) → Within (end_of a) m → m ≤ n → ((e : ℕ) → e ≤ m → Within (k e) n) → Within (next a (λ r. k r.stops)) n
walk_by (found r) k m n h g f = f r.stops h
walk_by (refused q) k m n h g f = omega arith

module _ (i : ListOf) where
  abbrev items : (n : ℕ) (src : List ℕ) (at : ℕ) → Ans ℕ
  items n src at = walk (λ s a. read (item_layout i) s a) n src at

  walk_within : (n : ℕ) (src : List ℕ) (at : ℕ) → Within (items n src at) (at + n * greatest_item i)
  walk_within zero src at = omega arith
  walk_within (suc n) src at =
      walk_by (read (item_layout i) src at) (λ e. items n src e) (at + greatest_item i) (at + suc n * greatest_item i) ((item_within i).reaches src at) (omega (arith, more))
      (λ e h. within_more (items n src e) (walk_within n src e) (omega (arith, more)))
    where
      more : suc n * greatest_item i ≡ n * greatest_item i + greatest_item i
      more = suc-mul n (greatest_item i)

  list_within : (xs : List ℕ) → Within (list (most_items i) (λ s a. read (item_layout i) s a) xs 0) (greatest_list i)
  unfolding list
  list_within xs =
      field_within xs 0 (greatest_list i) (omega arith) 4 (count_to (most_items i)) _
      (λ m e. let few : m ≤ most_items i = leb-true m (most_items i) e in
      within_more (items m xs 4) (walk_within m xs 4) (omega (arith, mul-le-mul_right (greatest_item i) few)))

  module _ (xs : List ℕ) where
    pub list_near : {e : ℕ} → found e ≡ list (most_items i) (λ s a. read (item_layout i) s a) xs 0 → e ≤ 0x10000
    list_near p = omega (arith, list_small i, rw (← p) at (list_within xs))

    pub list_place : {f : Refusal} → refused f ≡ list (most_items i) (λ s a. read (item_layout i) s a) xs 0 → f.place ≤ 0x10000
    list_place p = omega (arith, list_small i, rw (← p) at (list_within xs))

-- ---- a legal list: it ends with its bytes, and has as many items as it counts

module _ (which : ListOf) (xs : List ℕ) where
  pub ends_list : {ys : List ℕ} → whole (most_items which) (item_layout which) xs ≡ found ys → list (most_items which) (λ s a. read (item_layout which) s a) xs 0 ≡ found (length xs)
  unfolding whole
  ends_list w =
      let (e, l, q) = next_found (list (most_items which) (λ s a. read (item_layout which) s a) xs 0) _ w in
      let (t, same) = when_found (eqb e (length xs)) _ _ q in
      l ∙ ap found (eqb-true e (length xs) t)

  -- its count is allowed, and so many items are there
  items_there : {ys : List ℕ} → whole (most_items which) (item_layout which) xs ≡ found ys
      → (be (take 4 xs) ≤ most_items which) × (walk (λ s a. read (item_layout which) s a) (be (take 4 xs)) xs 4 ≡ found (length xs))
  unfolding list field piece
  items_there w =
      let (n, f, r) = next_found (field 4 (count_to (most_items which)) xs 0) _ (ends_list w) in
      let (zs, g, h) = next_found (piece 4 xs 0) _ f in
      let (t, is) = when_found (allows (count_to (most_items which)) (be zs)) _ _ h in
      let (u, v) = when_found (leb 4 (left xs 0)) _ _ g in
      let same : be (take 4 xs) ≡ be zs = ap be (found_same v) in
      (rw same (leb-true (be zs) (most_items which) t), ap (λ k. walk (λ s a. read (item_layout which) s a) k xs 4) (same ∙ found_same is) ∙ r)

  pub items_legal : {n : ℕ} {ys : List ℕ} → whole (most_items which) (item_layout which) xs ≡ found ys → n ≡ be (take 4 xs) → walk (λ s a. read (item_layout which) s a) n xs 4 ≡ found (length xs)
  items_legal w same = ap (λ k. walk (λ s a. read (item_layout which) s a) k xs 4) same ∙ (items_there w).1

  pub count_few : {ys : List ℕ} → whole (most_items which) (item_layout which) xs ≡ found ys → be (take 4 xs) ≤ most_items which
  count_few w = (items_there w).0
