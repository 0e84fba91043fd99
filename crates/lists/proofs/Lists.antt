-- Lists: one item behind the other, read, judged and listed. Assumes nothing.
use Prim.Native.Nat.{ℕ, zero, suc, ◌+◌, ◌-◌, ◌≤◌, ◌<◌}
use native.Mathlib.Omega.{arith}
use mathlib.Core.Path.{◌≡◌, refl, sym, ap, ◌∙◌}
use mathlib.Core.Bool.{Bool, true, false, cond}
use mathlib.Core.Logic.{◌⊎◌, inl, inr, ⊎_elim}
use mathlib.Core.List.{List, [], ◌∷◌, ◌++◌}
use lib.ListN.{length, take, drop}
use lib.Dec.{leb, eqb}
use borrow.Author.Tests.{leb-true, eq-eqb, ne_eqb}
use Rattle.std.specs.Prelude.{Err, Ok, Result}
use Rattle.faults.specs.declared.Refusal.{Refusal}
use Rattle.faults.specs.Faults.{short, trailing}
use Rattle.wire.specs.declared.span.Span.{Span}
use Rattle.wire.specs.Answers.{start_of, len_of, measure_answer}
use Rattle.wire.specs.Bytes.{Bytes, be}
use Rattle.wire.specs.Layout.{free, one}
use Rattle.wire.specs.Lines.{line, a_number, lines, of_read}
use Rattle.wire.specs.Records.{Part, num, tag, span, Ans, found, refused, next, left, Parsed, parsed}
use Rattle.wire.specs.Reading.{Reader, piece, field, walk, list, end_of, read}
use Rattle.wire.specs.Writing.{cut, whole, moved, further}
use Rattle.wire.specs.Fields.{part_of, size_of}
use Rattle.wire.proofs.Cuts.{sized_part, unsized}
use Rattle.wire.proofs.Rest.{told}
use Rattle.wire.proofs.Sound.{list_sound, read_sound}
use Rattle.wire.proofs.Stand.{stands_left, stands_bytes}
use Rattle.wire.proofs.Steps.{found_refused, found_same, parsed_same, next_found, when_found}
use Rattle.wire.proofs.Then.{whole_same}
use Rattle.wire.proofs.Written.{moved_found, cut_found}
use Rattle.format.specs.declared.list.ListOf.{ListOf}
use Rattle.format.specs.Kinds.{item_layout, most_items}
use Rattle.steps.specs.declared.walk.Walk.{Walk}
use Rattle.steps.specs.Steps.{Items, spell_step, left_lines, step_lines}
use Rattle.steps.specs.Near.{Near}
use Rattle.steps.specs.Walks.{Here, here, refusing, finding, putting, after, judged, judge_step, Moves, put_step, seek_span, seek_step, put_line, put_lines, to_place, lines_once, line_step, Goes}
use Rattle.steps.proofs.Judged.{sized_length}
use Rattle.steps.proofs.Leaves.{step_judged, step_far, step_put, step_line, step_list, step_sought}
use Rattle.steps.proofs.Lined.{put_lines_append, lines_far, lines_good, lines_bad}
use Rattle.steps.proofs.Reach.{list_near, ends_list}
use Rattle.items.specs.Items.{ItemLined}

-- ---- one item behind the other

module _ (item : Reader Parsed) (src : List ℕ) where
  walk_next : (n at : ℕ) → walk item (suc n) src at ≡ next (end_of (item src at)) (λ e. walk item n src e)
  walk_next n at = by (item src at)
    where
      by : (a : Ans Parsed) → next a (λ r. walk item n src r.stops) ≡ next (end_of a) (λ e. walk item n src e)
      by (found r) = refl
      by (refused f) = refl

  module _ (n i at : ℕ) where
    rest : i < n → n - i ≡ suc (n - (i + 1))
    rest h = omega arith

    -- an item was found: the rest is walked from its end
    pub walk_on : {e : ℕ} → i < n → found e ≡ end_of (item src at) → walk item (n - (i + 1)) src e ≡ walk item (n - i) src at
    walk_on h p = rw (rest h) (ap (λ a. next a (λ e. walk item (n - (i + 1)) src e)) p ∙ sym (walk_next (n - (i + 1)) at))

-- ---- the lines of items

-- how far a walk over items goes
pub items_ahead : (which : ListOf) (n : ℕ) (src : List ℕ) (at : ℕ) {e : ℕ} → Bytes src → walk (λ s a. read (item_layout which) s a) n src at ≡ found e → at ≤ e
items_ahead which zero src at b p = omega (arith, found_same p)
items_ahead which (suc n) src at b p =
    let (r, q, s) = next_found (read (item_layout which) src at) _ p in
    omega (arith, items_ahead which n src r.stops b s, (read_sound (item_layout which) src at r b q).ends)

-- what is left to list: so many items are legal, to the end of xs, and their lines lead from h to z
pub record Left (which : ListOf) (n : ℕ) (xs : List ℕ) (at place : ℕ) (h z : Here) : Type 0 where
  pub legal : walk (λ s a. read (item_layout which) s a) n xs at ≡ found (length xs)
  pub puts : z ≡ put_lines (left_lines which n xs at place) h

module _ (which : ListOf) (xs : List ℕ) (place : ℕ) where
  left_next : (n at : ℕ) {f : ℕ} {h k z : Here} → ItemLined (item_layout which) xs at place h k f → Left which (suc n) xs at place h z → Left which n xs f place k z
  left_next n at {f} {h} {k} lined w =
      let (r, q, s) = next_found (read (item_layout which) xs at) _ w.legal in
      let stops : f ≡ r.stops = lined.ends q in
      let ls = lines (item_layout which) r.parts xs (place + at) in
      let ms = left_lines which n xs r.stops place in
      let all : left_lines which (suc n) xs at place ≡ ls ++ ms = ap (λ a. of_read a (λ r. lines (item_layout which) r.parts xs (place + at) ++ left_lines which n xs r.stops place)) q in
      record {
        legal = ap (λ e. walk (λ s a. read (item_layout which) s a) n xs e) stops ∙ s;
        puts = w.puts ∙ ap (λ l. put_lines l h) all ∙ put_lines_append ls ms h ∙ ap (λ x. put_lines ms x) (sym (lined.puts q)) ∙ ap (λ e. put_lines (left_lines which n xs e place) k) (sym stops);
      }

  module _ (n i at : ℕ) {h z : Here} where
    pub left_on : {f : ℕ} {k : Here} → i < n → ItemLined (item_layout which) xs at place h k f → Left which (n - i) xs at place h z → Left which (n - (i + 1)) xs f place k z
    left_on less lined w = let more : n - i ≡ suc (n - (i + 1)) = omega arith in left_next (n - (i + 1)) at lined (rw more at w)

    pub left_none : n ≤ i → Left which (n - i) xs at place h z → h ≡ z
    unfolding put_lines
    left_none done w = let none : n - i ≡ 0 = omega arith in sym (rw none at w.puts)

-- ---- a list ends in the bytes that it was found in

pub list_inside : (which : ListOf) (xs : List ℕ) {e : ℕ} → Bytes xs → found e ≡ list (most_items which) (λ s a. read (item_layout which) s a) xs 0 → e ≤ length xs
list_inside which xs b p =
    let d = list_sound (most_items which) (item_layout which) (read_sound (item_layout which)) xs 0 b (sym p) in
    omega (arith, d.ends, stands_left d.stands)

-- the bytes of a span are bytes
pub part_bytes : (src : List ℕ) (start len at : ℕ) {xs : List ℕ} → xs ≡ part_of (cut src start len at) → Bytes src → Bytes xs
part_bytes src start len at same b = rw same (by (cut src start len at) refl)
  where
    by : (a : Ans (List ℕ)) → cut src start len at ≡ a → Bytes (part_of a)
    by (found xs) e = stands_bytes b (cut_found src start len at e).1
    by (refused f) e = tt

-- ---- a list in the part that its span shows

-- what judging it at a place answered
abbrev pub Judged : (which : ListOf) (t : Span) (src : List ℕ) (at : ℕ) → Result ℕ Refusal → Type 0
Judged which t src at m = (measure_answer m ≡ after at (spell_step (Items which t) src at)) × Near m at

module _ (which : ListOf) (t : Span) (src : List ℕ) (at : ℕ) where
  module _ {n : ℕ} {xs : List ℕ} (p : found n ≡ size_of (cut src (start_of t) (len_of t) at)) (q : xs ≡ part_of (cut src (start_of t) (len_of t) 0)) where
    pub list_size : length xs ≡ n
    list_size = ap length q ∙ (sized_length src (start_of t) (len_of t) at p).1 ∙ sym (sized_length src (start_of t) (len_of t) at p).0

    pub list_good : {e : ℕ} → found e ≡ list (most_items which) (λ s a. read (item_layout which) s a) xs 0 → e ≡ n → found (at + e) ≡ after at (spell_step (Items which t) src at)
    unfolding spell_step whole
    list_good {e} l same =
        rw (sized_part src (start_of t) (len_of t) at p, ← q, ← l, eq-eqb e (length xs) (same ∙ sym list_size)) (ap (λ k. found (at + k)) (same ∙ sym list_size))

    pub list_trailing : {e : ℕ} → found e ≡ list (most_items which) (λ s a. read (item_layout which) s a) xs 0 → (e ≡ n → ⊥) → refused (trailing (at + e) (n - e)) ≡ after at (spell_step (Items which t) src at)
    unfolding spell_step whole
    list_trailing {e} l other =
        rw (sized_part src (start_of t) (len_of t) at p, ← q, ← l, ne_eqb e (length xs) (λ same. other (same ∙ list_size))) (ap (λ k. refused (trailing (at + e) (k - e))) (sym list_size))

    pub list_no : {f : Refusal} → refused f ≡ list (most_items which) (λ s a. read (item_layout which) s a) xs 0 → refused (further at f) ≡ after at (spell_step (Items which t) src at)
    unfolding spell_step whole
    list_no l = rw (sized_part src (start_of t) (len_of t) at p, ← q, ← l)

  pub list_out : {f : Refusal} → refused f ≡ size_of (cut src (start_of t) (len_of t) at) → Judged which t src at (Err f)
  unfolding spell_step
  list_out p = (rw (unsized src (start_of t) (len_of t) at p), tt)

-- ---- a list that was judged

-- xs is what the span shows of the source, and is a list of such items
pub record IsList (which : ListOf) (t : Span) (src xs : List ℕ) : Type 0 where
  pub inside : start_of t + len_of t ≤ length src
  pub same : xs ≡ take (len_of t) (drop (start_of t) src)
  pub legal : whole (most_items which) (item_layout which) xs ≡ found xs

module _ (which : ListOf) (t : Span) (src : List ℕ) where
  pub is_list_lem : (at : ℕ) {e : ℕ} {xs : List ℕ} → found e ≡ after at (spell_step (Items which t) src at) → xs ≡ part_of (cut src (start_of t) (len_of t) 0) → IsList which t src xs
  unfolding spell_step cut
  is_list_lem at p part =
      let (bs, e, f) = next_found (next (cut src (start_of t) (len_of t) at) (λ xs. moved at (whole (most_items which) (item_layout which) xs))) _ (sym p) in
      let (ys, g, h) = next_found (cut src (start_of t) (len_of t) at) _ e in
      let (test, shown) = when_found (leb (start_of t + len_of t) (length src)) _ _ g in
      let there : start_of t + len_of t ≤ length src = leb-true (start_of t + len_of t) (length src) test in
      let is : _ ≡ take (len_of t) (drop (start_of t) src) = part ∙ rw test in
      let all : _ ≡ ys = is ∙ found_same shown in
      let w = moved_found at (whole (most_items which) (item_layout which) ys) h in
      record { inside = there; same = is; legal = rw all (w ∙ ap found (whole_same (most_items which) (item_layout which) ys w)) }

-- its count is there, and its items end with it
module _ (which : ListOf) (xs : List ℕ) where
  count_read : (b : Bool) → leb 4 (left xs 0) ≡ b → (read (one 4 free) xs 0 ≡ parsed (num (be (take 4 xs)) ∷ []) 4) ⊎ (whole (most_items which) (item_layout which) xs ≡ refused (short 0 4 (left xs 0)))
  unfolding read field piece whole list
  count_read true t = inl (rw t)
  count_read false t = inr (rw t)

  abbrev first : List Part → ℕ
  first [] = 0
  first (num m ∷ ps) = m
  first (tag m ∷ ps) = 0
  first (span a m ∷ ps) = 0

  pub count_is : {n e : ℕ} {ys : List ℕ} → whole (most_items which) (item_layout which) xs ≡ found ys → parsed (num n ∷ []) e ≡ read (one 4 free) xs 0 → n ≡ be (take 4 xs)
  count_is {n} w p = ⊎_elim (λ q. ap first (parsed_same (p ∙ q)).0) (λ q. absurd (found_refused (sym q ∙ w))) (count_read (leb 4 (left xs 0)) refl)

  pub count_there : {f : Refusal} {ys : List ℕ} → whole (most_items which) (item_layout which) xs ≡ found ys → refused f ≡ read (one 4 free) xs 0 → ⊥
  count_there w p = ⊎_elim (λ q. found_refused (p ∙ q)) (λ q. found_refused (sym q ∙ w)) (count_read (leb 4 (left xs 0)) refl)

  pub list_short : {ys : List ℕ} → whole (most_items which) (item_layout which) xs ≡ found ys → length xs ≤ 0x10000
  list_short w = list_near which xs (sym (ends_list which xs w))

-- ---- the lines of a list: that of its count, and those of its items

pub list_lines_lem : (which : ListOf) (t : Span) (src : List ℕ) (at n k : ℕ) (xs : List ℕ) (h i j : Here) → IsList which t src xs → n ≡ be (take 4 xs) → k ≡ n → i ≡ put_line (line at 4 (a_number k)) h → j ≡ put_lines (left_lines which n xs 4 at) i
    → j ≡ put_lines (step_lines (Items which t) src at) h
unfolding put_lines
list_lines_lem which t src at n k xs h i j is count same p q =
    q ∙ ap (λ g. put_lines (left_lines which n xs 4 at) g) (p ∙ ap (λ l. put_line (line at 4 (a_number l)) h) same)
    ∙ ap (λ l. put_lines (left_lines which l xs 4 at) (put_line (line at 4 (a_number l)) h)) count
    ∙ ap (λ ys. put_lines (left_lines which (be (take 4 ys)) ys 4 at) (put_line (line at 4 (a_number (be (take 4 ys)))) h)) is.same

module _ (which : ListOf) (t : Span) (src : List ℕ) (w : Walk) (old : List ℕ) where
  once : line_step (Items which t) src w old ≡ lines_once 0x10000 (Items which t) src w old
  unfolding line_step
  once = refl

  pub list_lines_far : 0x10000 < w.at → here w old ≡ line_step (Items which t) src w old
  list_lines_far h = lines_far (Items which t) 0x10000 src w old once h

  module _ {m : Result ℕ Refusal} (judge : Judged which t src w.at m) (near : w.at ≤ 0x10000) where
    pub list_lined : {stop n k : ℕ} {xs : List ℕ} {v u z : Walk} {mid last : List ℕ} → m ≡ Ok stop → IsList which t src xs → n ≡ be (take 4 xs) → k ≡ n → here v mid ≡ put_line (line w.at 4 (a_number k)) (here w old)
        → here u last ≡ put_lines (left_lines which n xs 4 w.at) (here v mid) → z ≡ to_place stop u → here z last ≡ line_step (Items which t) src w old
    list_lined {stop} {n} {k} {xs} {v} {u} {z} {mid} {last} e is count same p q r =
        lines_good (Items which t) 0x10000 src w old once m m refl judge near z u last stop e (list_lines_lem which t src w.at n k xs (here w old) (here v mid) (here u last) is count same p q) r

    pub list_not_lined : (z : Walk) {f : Refusal} → m ≡ Err f → z ≡ refusing f → here z old ≡ line_step (Items which t) src w old
    list_not_lined z {f} e q = lines_bad (Items which t) 0x10000 src w old once m m refl judge near z f e q

-- ---- the walk over a list, by what it is for

module _ (w : Walk) (which : ListOf) (t : Span) (src out : List ℕ) where
  pub list_judged : (m : Result ℕ Refusal) (r : Walk) → w.mode ≡ 0 → w.at ≤ 0x1000000 → Judged which t src w.at m → r ≡ judged (measure_answer m)
      → Goes (Items which t ∷ []) src (here w out) (here r out)
  unfolding judge_step
  list_judged m r e h told p = step_judged w (Items which t) t src out (λ u. refl) m r e h told p

  pub list_far : w.mode ≡ 0 → 0x1000000 < w.at → Goes (Items which t ∷ []) src (here w out) (here w out)
  unfolding judge_step
  list_far e h = step_far w (Items which t) t src out (λ u. refl) e h

  pub list_put : (z : Walk) (r : ℕ) (last : List ℕ) → w.mode ≡ 1 → z ≡ putting r → Moves (cut src (start_of t) (len_of t) w.at) w.at out r last → Goes (Items which t ∷ []) src (here w out) (here z last)
  unfolding put_step
  list_put z r last e q p = step_put w (Items which t) t src out (λ u. refl) z r last e q p

  pub list_listed : (r : Walk) (last : List ℕ) → w.mode ≡ 3 → (w.mode ≡ 3 → here r last ≡ line_step (Items which t) src w out) → Goes (Items which t ∷ []) src (here w out) (here r last)
  list_listed r last e p = step_line w (Items which t) src r last out e p

  pub list_finds : (r : Walk) → w.mode ≡ 4 → r ≡ finding t → Goes (Items which t ∷ []) src (here w out) (here r out)
  list_finds r e p = step_list w (Items which t) src r out e p

  pub list_sought : (r : Walk) → (w.mode ≡ 0 → ⊥) → (w.mode ≡ 1 → ⊥) → (w.mode ≡ 3 → ⊥) → (w.mode ≡ 4 → ⊥) → r ≡ cond (eqb w.mode 2) (seek_span t w.at) w → Goes (Items which t ∷ []) src (here w out) (here r out)
  unfolding seek_step
  list_sought r a b d f p = step_sought w (Items which t) t src out (λ u. refl) r a b d (λ e. absurd (f e)) p
