-- The item with an index: the walk to it, and where it stands in the source that its list is a part of. Assumes nothing.
use Prim.Native.Nat.{ℕ, zero, suc, ◌+◌, ◌-◌, ◌≤◌, ◌<◌}
use native.Mathlib.Nat.{zero-add}
use native.Mathlib.Omega.{arith}
use mathlib.Core.Path.{◌≡◌, refl, sym, ap, ◌∙◌, subst}
use mathlib.Core.List.{List, [], ◌∷◌}
use denote.Ref.{Bor}
use lib.ListN.{length, take, drop}
use lib.Seq.{take-take, drop-drop}
use borrow.Author.Tests.{le-leb}
use Rattle.std.specs.Prelude.{Ok, Err, Result}
use Rattle.faults.specs.declared.Refusal.{Refusal}
use Rattle.faults.specs.Faults.{placed_at, no_field}
use Rattle.wire.specs.declared.span.Span.{Span}
use Rattle.wire.specs.Answers.{start_of, len_of, span_part}
use Rattle.wire.specs.Bytes.{Bytes, be}
use Rattle.wire.specs.Records.{Part, num, tag, span, Ans, found, refused, next, Parsed}
use Rattle.wire.specs.Reading.{Reader, walk, end_of, read}
use Rattle.wire.specs.Writing.{cut, whole, further, moved}
use Rattle.wire.specs.Fields.{pick_field, part_of}
use Rattle.wire.specs.Items.{pick_item, item_of}
use Rattle.wire.specs.Places.{StandsAt, start_if, start_at, place_of, item_start}
use Rattle.wire.proofs.Cuts.{cut_length}
use Rattle.wire.proofs.Steps.{found_refused, found_same, refused_same, next_found}
use Rattle.format.specs.declared.list.ListOf.{ListOf}
use Rattle.format.specs.Kinds.{item_layout, most_items}
use Rattle.steps.specs.declared.walk.Walk.{Walk}
use Rattle.steps.specs.Steps.{Items, spell_step}
use Rattle.steps.specs.Walks.{after, seek_answer, seek_start}
use Rattle.steps.proofs.Found.{found_seen, none_seen}
use Rattle.lists.specs.Items.{item_answer, item_from, ItemInside, ItemBehind}
use Rattle.items.proofs.Items.{item_ends}
use Rattle.lists.proofs.Lists.{IsList}

-- ---- the walk

module _ (item : Reader Parsed) (xs : List ℕ) (asked : ℕ) where
  -- the item with the index i is the one behind i items
  pick_from : (n i at : ℕ) {start : ℕ} → i < n → found start ≡ walk item i xs at → pick_item item n i asked xs at ≡ next (end_of (item xs start)) (λ e. found (take (e - start) (drop start xs)))
  pick_from zero i at h p = absurd (omega arith)
  pick_from (suc n) zero at {start} h p = rw (found_same p) (by (item xs at))
    where
      by : (a : Ans Parsed) → next a (λ r. found (take (r.stops - at) (drop at xs))) ≡ next (end_of a) (λ e. found (take (e - at) (drop at xs)))
      by (found r) = refl
      by (refused f) = refl
  pick_from (suc n) (suc i) at h p =
      let (r, q, s) = next_found (item xs at) _ (sym p) in
      ap (λ a. next a (λ r. pick_item item n i asked xs r.stops)) q ∙ pick_from n i r.stops (omega arith) (sym s)

  -- behind an item that is refused there is none
  pick_lost : (n i at : ℕ) {f : Refusal} → i < n → refused f ≡ walk item i xs at → refused f ≡ pick_item item n i asked xs at
  pick_lost zero i at h p = absurd (omega arith)
  pick_lost (suc n) zero at h p = absurd (found_refused p)
  pick_lost (suc n) (suc i) at {f} h p = by (item xs at) p (λ r q. pick_lost n i r.stops (omega arith) q)
    where
      by : (a : Ans Parsed) → refused f ≡ next a (λ r. walk item i xs r.stops) → ((r : Parsed) → refused f ≡ walk item i xs r.stops → refused f ≡ pick_item item n i asked xs r.stops)
          → refused f ≡ next a (λ r. pick_item item n i asked xs r.stops)
      by (found r) q on = on r q
      by (refused g) q on = ap refused (refused_same q)

  -- nor behind the last
  pick_none : (n i at : ℕ) {e : ℕ} → n ≤ i → walk item n xs at ≡ found e → refused (no_field asked) ≡ pick_item item n i asked xs at
  pick_none zero i at h p = refl
  pick_none (suc n) zero at h p = absurd (omega arith)
  pick_none (suc n) (suc i) at h p =
      let (r, q, s) = next_found (item xs at) _ p in
      pick_none n i r.stops (omega arith) s ∙ ap (λ a. next a (λ r. pick_item item n i asked xs r.stops)) (sym q)

-- a span that is made of a start and a length
abbrev cut_at : List ℕ → Part → Ans (List ℕ)
cut_at src (num n) = found []
cut_at src (tag t) = found []
cut_at src (span start len) = cut src start len 0

abbrev start_of_part : Part → ℕ
start_of_part (num n) = 0
start_of_part (tag t) = 0
start_of_part (span start len) = start

abbrev end_of_part : Part → ℕ
end_of_part (num n) = 0
end_of_part (tag t) = 0
end_of_part (span start len) = start + len

-- its start and its length, as they were worked out
pub new_span : {v : Span} {a b k m start len : ℕ} → span_part v ≡ span (a + b) k → a ≡ start → b ≡ m → k ≡ len → span_part v ≡ span (start + m) len
new_span e p q r = rw (← p, ← q, ← r) e

-- ---- an item of a list that was judged

-- the item with the index i of the n items of xs, or why there is none
abbrev pub Picked : (which : ListOf) (xs : List ℕ) (n i : ℕ) → Result Span Refusal → Type 0
Picked which xs n i a = (item_answer a xs ≡ pick_item (λ s a. read (item_layout which) s a) n i i xs 4) × ItemInside a xs × ItemBehind a which i xs

module _ (which : ListOf) (xs : List ℕ) (n i : ℕ) where
  pub item_there : {start e : ℕ} (t : Span) → Bytes xs → i < n → found start ≡ walk (λ s a. read (item_layout which) s a) i xs 4 → found e ≡ end_of (read (item_layout which) xs start) → span_part t ≡ span start (e - start) → Picked which xs n i (Ok t)
  unfolding cut
  item_there {start} {e} t b h p q is =
      let (ahead, inside) = item_ends which xs start b q in
      let shown : cut xs start (e - start) 0 ≡ found (take (e - start) (drop start xs)) = rw (le-leb (start + (e - start)) (length xs) (omega arith)) in
      (ap (cut_at xs) is ∙ shown ∙ ap (λ a. next a (λ e. found (take (e - start) (drop start xs)))) q ∙ sym (pick_from (λ s a. read (item_layout which) s a) xs i n i 4 h p), omega (arith, ap end_of_part is), ap (λ y. found (start_of_part y)) is ∙ p)

  pub item_bad : {start : ℕ} {f : Refusal} → i < n → found start ≡ walk (λ s a. read (item_layout which) s a) i xs 4 → refused f ≡ end_of (read (item_layout which) xs start) → Picked which xs n i (Err f)
  item_bad {start} h p q = (ap (λ a. next a (λ e. found (take (e - start) (drop start xs)))) q ∙ sym (pick_from (λ s a. read (item_layout which) s a) xs i n i 4 h p), tt, tt)

  pub item_lost : {f : Refusal} → i < n → refused f ≡ walk (λ s a. read (item_layout which) s a) i xs 4 → Picked which xs n i (Err f)
  item_lost h p = (pick_lost (λ s a. read (item_layout which) s a) xs i n i 4 h p, tt, tt)

  pub item_none : {e : ℕ} {f : Refusal} → n ≤ i → walk (λ s a. read (item_layout which) s a) n xs 4 ≡ found e → f ≡ no_field i → Picked which xs n i (Err f)
  item_none h w is = (ap refused is ∙ pick_none (λ s a. read (item_layout which) s a) xs i n i 4 h w, tt, tt)

-- ---- the item's place

-- the item with the index i of a list with the parts ls, and where it starts
abbrev pub Placed : (which : ListOf) (ls : List Part) (i : ℕ) (src : List ℕ) → Result Span Refusal → Type 0
Placed which ls i src a = (item_answer a src ≡ item_of (most_items which) (item_layout which) ls i src) × (item_from a src ≡ item_start (most_items which) (item_layout which) ls i src)

-- an item that is refused starts nowhere
no_start : (which : ListOf) (ls : List Part) (i : ℕ) (src : List ℕ) {f : Refusal} → refused f ≡ item_of (most_items which) (item_layout which) ls i src → Placed which ls i src (Err f)
unfolding item_start
no_start which ls i src p = (p, rw (← p))

drop_take : (a n : ℕ) (l : List ℕ) → drop a (take n l) ≡ take (n - a) (drop a l)
drop_take zero n l = let e : n ≡ n - 0 = omega arith in ap (λ k. take k l) e
drop_take (suc a) zero l = let e : 0 ≡ 0 - suc a = omega arith in ap (λ k. take k (drop (suc a) l)) e
drop_take (suc a) (suc n) [] = empty (suc n - suc a)
  where
    empty : (k : ℕ) → ◌≡◌ {A = List ℕ} [] (take k [])
    empty zero = refl
    empty (suc k) = refl
drop_take (suc a) (suc n) (x ∷ l) = let e : n - a ≡ suc n - suc a = omega arith in drop_take a n l ∙ ap (λ k. take k (drop a l)) e

module _ (which : ListOf) (t : Span) (src : List ℕ) {xs : List ℕ} (is : IsList which t src xs) where
  size : length xs ≡ len_of t
  size = ap length is.same ∙ cut_length src (start_of t) (len_of t) 0 is.inside

  -- what lies in the list lies in the source
  pub in_source : (a n : ℕ) → a + n ≤ length xs → start_of t + a + n ≤ length src
  in_source a n h = omega (arith, size, is.inside)

  -- a part of the list is a part of the source
  cut_of_part : (a n : ℕ) → a + n ≤ length xs → cut src (start_of t + a) n 0 ≡ cut xs a n 0
  unfolding cut
  cut_of_part a n h =
      let bytes : take n (drop a xs) ≡ take n (drop (start_of t + a) src) =
      ap (λ l. take n (drop a l)) is.same ∙ ap (λ l. take n l) (drop_take a (len_of t) (drop (start_of t) src)) ∙ take-take n (len_of t - a) (drop a (drop (start_of t) src)) (omega (arith, size))
      ∙ ap (λ l. take n l) (drop-drop a (start_of t) src) in
      rw (le-leb (start_of t + a + n) (length src) (in_source a n h), le-leb (a + n) (length xs) h) (ap found (sym bytes))

  items_of : (i : ℕ) {n : ℕ} → n ≡ be (take 4 xs) → item_of (most_items which) (item_layout which) (span_part t ∷ []) i src ≡ pick_item (λ s a. read (item_layout which) s a) n i i xs 4
  unfolding item_of cut
  items_of i count = rw (le-leb (start_of t + len_of t) (length src) is.inside, ← is.same, is.legal, count)

  module _ (i : ℕ) {n : ℕ} (count : n ≡ be (take 4 xs)) where
    -- the item s that was walked to, as the part v of the source
    module _ (s v : Span) (walked : Picked which xs n i (Ok s)) (new : span_part v ≡ span (start_of t + start_of s) (len_of s)) where
      item_same : cut src (start_of v) (len_of v) 0 ≡ item_of (most_items which) (item_layout which) (span_part t ∷ []) i src
      item_same = ap (cut_at src) new ∙ cut_of_part (start_of s) (len_of s) walked.1 ∙ walked.0 ∙ sym (items_of i count)

      -- it starts behind the items ahead of it
      item_behind : start_of v ≡ start_at (span_part t ∷ []) 0 src + place_of (walk (λ s a. read (item_layout which) s a) i (part_of (pick_field (span_part t ∷ []) 0 i src)) 4)
      unfolding cut
      item_behind = ap start_of_part new ∙ rw (le-leb (start_of t + len_of t) (length src) is.inside, ← is.same) (ap (λ x. start_of t + place_of x) walked.2)

      pub item_found : Placed which (span_part t ∷ []) i src (Ok v)
      unfolding item_start
      item_found = (item_same, ap (λ x. start_if x (start_of v)) item_same ∙ ap (λ n. start_if (item_of (most_items which) (item_layout which) (span_part t ∷ []) i src) n) item_behind)

    pub item_refused : {f : Refusal} → Picked which xs n i (Err f) → Placed which (span_part t ∷ []) i src (Err f)
    item_refused walked = no_start which (span_part t ∷ []) i src (walked.0 ∙ sym (items_of i count))

-- a list that is refused has no items
module _ (which : ListOf) (t : Span) (src : List ℕ) (i : ℕ) {f : Refusal} (judged : refused f ≡ after 0 (spell_step (Items which t) src 0)) where
  not_listed : refused f ≡ item_of (most_items which) (item_layout which) (span_part t ∷ []) i src
  unfolding spell_step item_of
  not_listed = by (cut src (start_of t) (len_of t) 0) judged
    where
      here : (g : Refusal) → g ≡ further 0 g
      here g = ap (λ n. placed_at n g) (sym (zero-add g.place))

      walked : (a : Ans (List ℕ)) (k : List ℕ → Ans (List ℕ)) → refused f ≡ after 0 (moved 0 a) → refused f ≡ next a k
      walked (found xs) k q = absurd (found_refused q)
      walked (refused g) k q = ap refused (refused_same q ∙ sym (here g))

      by : (a : Ans (List ℕ)) → refused f ≡ after 0 (next a (λ xs. moved 0 (whole (most_items which) (item_layout which) xs)))
          → refused f ≡ next a (λ xs. next (whole (most_items which) (item_layout which) xs) (λ ys. pick_item (λ s a. read (item_layout which) s a) (be (take 4 ys)) i i ys 4))
      by (found xs) q = walked (whole (most_items which) (item_layout which) xs) _ q
      by (refused g) q = ap refused (refused_same q)

  pub no_items : Placed which (span_part t ∷ []) i src (Err f)
  no_items = no_start which (span_part t ∷ []) i src not_listed

-- ---- the items of the list that a walk found

-- what is answered of an item depends on the list alone
of_the_list : (which : ListOf) (ls ms : List Part) (i : ℕ) (src : List ℕ) → pick_field ls 0 i src ≡ pick_field ms 0 i src → item_of (most_items which) (item_layout which) ls i src ≡ item_of (most_items which) (item_layout which) ms i src
unfolding item_of
of_the_list which ls ms i src p = ap (λ a. next a (λ xs. next (whole (most_items which) (item_layout which) xs) (λ ys. pick_item (λ s a. read (item_layout which) s a) (be (take 4 ys)) i i ys 4))) p

-- and where it starts on the list's start too
of_the_start : (which : ListOf) (ls ms : List Part) (i : ℕ) (src : List ℕ) → pick_field ls 0 i src ≡ pick_field ms 0 i src → start_at ls 0 src ≡ start_at ms 0 src
    → item_start (most_items which) (item_layout which) ls i src ≡ item_start (most_items which) (item_layout which) ms i src
unfolding item_start
of_the_start which ls ms i src p q = rw (of_the_list which ls ms i src p, q, p)

module _ (which : ListOf) (w : Walk) (src : List ℕ) (i : ℕ) (ls : List Part) (sought : pick_field ls 0 i src ≡ seek_answer w i src) where
  same_field : (t : Span) → w.mode ≡ 5 → span_part t ≡ span w.at w.value → pick_field (span_part t ∷ []) 0 i src ≡ pick_field ls 0 i src
  same_field t m e = ap (λ y. y.0) (found_seen w src i t m e) ∙ sym sought

  none_sought : (w.mode ≡ 5 → ⊥) → pick_field [] 0 i src ≡ pick_field ls 0 i src
  none_sought h = ap (λ y. y.0) (none_seen w src i h) ∙ sym sought

  -- where it stands
  module _ (starts : start_at ls 0 src ≡ seek_start w src) {s r : Bor (List ℕ)} where
    pub item_stands : (t : Span) {n : ℕ} → w.mode ≡ 5 → span_part t ≡ span w.at w.value → n ≡ item_start (most_items which) (item_layout which) (span_part t ∷ []) i src
        → StandsAt s r n → StandsAt s r (item_start (most_items which) (item_layout which) ls i src)
    item_stands t m e p there =
        subst (λ n. StandsAt s r n) (p ∙ of_the_start which (span_part t ∷ []) ls i src (same_field t m e) (ap (λ y. y.1) (found_seen w src i t m e) ∙ sym starts)) there

    pub none_stands : (w.mode ≡ 5 → ⊥) → StandsAt s r 0 → StandsAt s r (item_start (most_items which) (item_layout which) ls i src)
    unfolding item_of
    none_stands h there = subst (λ n. StandsAt s r n) (no_start which ls i src (of_the_list which [] ls i src (none_sought h))).1 there

-- f is what is asked of the item: its bytes, or how many there are
module _ {B : Type 0} (f : Ans (List ℕ) → B) (which : ListOf) (w : Walk) (src : List ℕ) (i : ℕ) (ls : List Part) (sought : pick_field ls 0 i src ≡ seek_answer w i src) where
  pub list_item : (t : Span) {a : Ans (List ℕ)} (z : B) → w.mode ≡ 5 → span_part t ≡ span w.at w.value → a ≡ item_of (most_items which) (item_layout which) (span_part t ∷ []) i src
      → z ≡ f a → z ≡ f (item_of (most_items which) (item_layout which) ls i src)
  list_item t z m e p s = s ∙ ap f (p ∙ of_the_list which (span_part t ∷ []) ls i src (same_field which w src i ls sought t m e))

  pub no_item : (z : B) → (w.mode ≡ 5 → ⊥) → z ≡ f (refused (no_field i)) → z ≡ f (item_of (most_items which) (item_layout which) ls i src)
  unfolding item_of
  no_item z h s = s ∙ ap f (of_the_list which [] ls i src (none_sought which w src i ls sought h))
