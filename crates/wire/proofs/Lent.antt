-- A lent buffer, written from its start: what the answer says of it, whatever was to be written; and what the size of that says of the
-- answer. Assumes nothing.
use Prim.Native.Nat.{ℕ, ◌-◌, ◌≤◌, ◌<◌}
use native.Mathlib.Nat.{zero-add}
use native.Mathlib.Omega.{arith}
use mathlib.Core.Path.{◌≡◌, refl, sym, ap, ◌∙◌}
use mathlib.Core.Logic.{◌⊎◌, inl, inr}
use mathlib.Core.Bool.{Bool, true, false}
use mathlib.Core.List.{List, [], ◌++◌, append-nil}
use lib.ListN.{length, take, drop, length-append, length-drop, take-append-drop, drop_of_length-le}
use lib.Seq.{drop_at, length-take-le, take-length}
use lib.Dec.{leb}
use borrow.Author.Tests.{le-leb, lt-leb, leb-true, leb-false}
use Rattle.faults.specs.declared.Refusal.{Refusal}
use Rattle.faults.specs.Faults.{no_room}
use Rattle.std.specs.Prelude.{Result}
use Rattle.wire.specs.Answers.{measure_answer}
use Rattle.wire.specs.Records.{Ans, found, refused}
use Rattle.wire.specs.Refusals.{HadFew}
use Rattle.wire.specs.Fields.{size_of}
use Rattle.wire.specs.Filling.{written, filled, roomed, lend}
use Rattle.wire.proofs.Answers.{measure_answer_once}
use Rattle.wire.proofs.Steps.{found_refused, found_same, refused_same}
use Rattle.wire.proofs.Had.{other, other_few, Tells}
use Rattle.wire.proofs.Filling.{fits_put, fits_not}

module _ (old : List ℕ) where
  -- bytes for which there is room are put at the front
  pub room_is_used : (a : Ans (List ℕ)) {bs : List ℕ} → a ≡ found bs → length bs ≤ length old
      → (written 0 a old ≡ found (length bs)) × (filled 0 a old ≡ bs ++ drop (length bs) old)
  room_is_used a {bs} e h =
      let (size, held) = fits_put 0 bs old refl (omega arith) (ap (λ n. bs ++ drop n old) (sym (zero-add (length bs)))) in
      (ap (λ a. written 0 a old) e ∙ sym size, ap (λ a. filled 0 a old) e ∙ sym held)

  -- bytes for which there is none are refused, and leave all as it was
  pub no_room_is_refused : (a : Ans (List ℕ)) {bs : List ℕ} → a ≡ found bs → length old < length bs
      → (written 0 a old ≡ refused (no_room 0 (length bs))) × (filled 0 a old ≡ old)
  no_room_is_refused a {bs} e h =
      let (answer, kept) = fits_not 0 bs old refl (omega arith) in
      (ap (λ a. written 0 a old) e ∙ sym answer, ap (λ a. filled 0 a old) e ∙ sym kept)

  -- there is room or there is none
  by_room : {C : Type 0} (bs : List ℕ) → (length bs ≤ length old → C) → (length old < length bs → C) → C
  by_room {C} bs some none = go (leb (length bs) (length old)) refl
    where
      go : (t : Bool) → leb (length bs) (length old) ≡ t → C
      go true e = some (leb-true (length bs) (length old) e)
      go false e = none (leb-false (length bs) (length old) e)

  -- a size that is answered is that of the bytes that were put
  pub size_is_of_bytes : (a : Ans (List ℕ)) {n : ℕ} → written 0 a old ≡ found n
      → (bs : List ℕ) × (a ≡ found bs) × (length bs ≡ n) × (n ≤ length old) × (filled 0 a old ≡ bs ++ drop n old)
  size_is_of_bytes (found bs) {n} p =
      by_room bs
      (λ h. let (size, held) = room_is_used (found bs) refl h in
      let same : length bs ≡ n = found_same (sym size ∙ p) in
      (bs, refl, same, omega arith, held ∙ ap (λ m. bs ++ drop m old) same))
      (λ h. absurd (found_refused (sym (no_room_is_refused (found bs) refl h).0 ∙ p)))
  size_is_of_bytes (refused f) p = absurd (found_refused p)

  -- a refusal is that of what was to be written, or there was no room for it
  pub refusal_or_no_room : (a : Ans (List ℕ)) {f : Refusal} → written 0 a old ≡ refused f
      → (a ≡ refused f) ⊎ ((bs : List ℕ) × (a ≡ found bs) × (length old < length bs) × (f ≡ no_room 0 (length bs)))
  refusal_or_no_room (found bs) p =
      by_room bs
      (λ h. absurd (found_refused (sym p ∙ (room_is_used (found bs) refl h).0)))
      (λ h. inr (bs, refl, h, refused_same (sym p ∙ (no_room_is_refused (found bs) refl h).0)))
  refusal_or_no_room (refused g) p = inl (ap refused (refused_same p))

  -- what is said of the refusals of what was to be written, and of NoRoom, is said of what was answered
  pub lent_tells : (P : Refusal → Type 0) (a : Ans (List ℕ)) → Tells P a → ((n : ℕ) → P (no_room 0 n)) → Tells P (written 0 a old)
  lent_tells P a h none f p = by (refusal_or_no_room a p)
    where
      by : (a ≡ refused f) ⊎ ((bs : List ℕ) × (a ≡ found bs) × (length old < length bs) × (f ≡ no_room 0 (length bs))) → P f
      by (inl e) = h f e
      by (inr (bs, there, short, same)) = rw same (none (length bs))

  -- NoRoom is not for want of bytes to read
  pub lent_had_few : (a : Ans (List ℕ)) → Tells HadFew a → Tells HadFew (written 0 a old)
  lent_had_few a h = lent_tells HadFew a h (λ n. other_few (other 7 refl refl))

  -- what is refused leaves all as it was
  pub refusal_changes_nothing : (a : Ans (List ℕ)) {f : Refusal} → written 0 a old ≡ refused f → filled 0 a old ≡ old
  refusal_changes_nothing (found bs) p =
      by_room bs
      (λ h. absurd (found_refused (sym p ∙ (room_is_used (found bs) refl h).0)))
      (λ h. (no_room_is_refused (found bs) refl h).1)
  refusal_changes_nothing (refused g) p = refl

  -- the buffer is as long as it was
  pub length_is_kept : (a : Ans (List ℕ)) → length (filled 0 a old) ≡ length old
  length_is_kept (found bs) =
      by_room bs
      (λ h. ap length (room_is_used (found bs) refl h).1 ∙ omega (arith, length-append bs (drop (length bs) old), length-drop (length bs) old))
      (λ h. ap length (no_room_is_refused (found bs) refl h).1)
  length_is_kept (refused f) = refl

  -- and as it was behind what was put
  pub rest_is_kept : (a : Ans (List ℕ)) {n : ℕ} → written 0 a old ≡ found n → drop n (filled 0 a old) ≡ drop n old
  rest_is_kept a {n} p =
      let (bs, e, size, room, held) = size_is_of_bytes a p in
      ap (λ l. drop n l) held ∙ drop_at bs (drop n old) n size

-- ---- the size of what is to be written

-- a size is that of bytes, and a refusal that of what was to be written
pub size_of_bytes : (a : Ans (List ℕ)) {n : ℕ} → size_of a ≡ found n → (bs : List ℕ) × (a ≡ found bs) × (length bs ≡ n)
size_of_bytes (found bs) p = (bs, refl, found_same p)
size_of_bytes (refused f) p = absurd (found_refused p)

pub size_of_refused : (a : Ans (List ℕ)) {f : Refusal} → size_of a ≡ refused f → a ≡ refused f
size_of_refused (found bs) p = absurd (found_refused (sym p))
size_of_refused (refused g) p = ap refused (refused_same p)

-- what the code answered of a size, in the definitions' terms, and back
module _ (a : Ans (List ℕ)) (m : Result ℕ Refusal) (answer : measure_answer m ≡ size_of a) where
  pub size_told : {x : Result ℕ Refusal} → m ≡ x → size_of a ≡ measure_answer x
  size_told e = sym answer ∙ ap measure_answer e

  pub size_answers : (x : Result ℕ Refusal) → size_of a ≡ measure_answer x → m ≡ x
  size_answers x e = measure_answer_once m x (answer ∙ e)

-- what a writer answers is the size, with room for it
pub written_is_roomed : (a : Ans (List ℕ)) (old : List ℕ) → written 0 a old ≡ roomed (length old) (size_of a)
written_is_roomed (found bs) old = let all : length old - 0 ≡ length old = omega arith in rw all
written_is_roomed (refused f) old = refl

-- as many bytes lent as are needed, or all where there are fewer, are as good as all
module _ (old : List ℕ) where
  pub lent_is_as_good : (a : Ans (List ℕ)) {k : ℕ} → k ≡ lend (size_of a) (length old)
      → (written 0 a (take k old) ≡ written 0 a old) × (filled 0 a (take k old) ++ drop k old ≡ filled 0 a old)
  lent_is_as_good (found bs) {k} e = by_room old bs enough all
    where
      enough : length bs ≤ length old → (written 0 (found bs) (take k old) ≡ written 0 (found bs) old) × (filled 0 (found bs) (take k old) ++ drop k old ≡ filled 0 (found bs) old)
      enough h =
          let same : k ≡ length bs = e ∙ rw (le-leb (length bs) (length old) h) in
          let just : length (take k old) ≡ length bs = length-take-le k old (omega arith) ∙ same in
          let (size, held) = room_is_used (take k old) (found bs) refl (omega arith) in
          let (size', held') = room_is_used old (found bs) refl h in
          let none : drop (length bs) (take k old) ≡ [] = drop_of_length-le (take k old) {i = length bs} (omega arith) in
          (size ∙ sym size', ap (λ xs. xs ++ drop k old) (held ∙ ap (λ xs. bs ++ xs) none ∙ append-nil bs) ∙ ap (λ n. bs ++ drop n old) same ∙ sym held')

      all : length old < length bs → (written 0 (found bs) (take k old) ≡ written 0 (found bs) old) × (filled 0 (found bs) (take k old) ++ drop k old ≡ filled 0 (found bs) old)
      all h =
          let same : k ≡ length old = e ∙ rw (lt-leb (length bs) (length old) h) in
          let whole : take k old ≡ old = ap (λ n. take n old) same ∙ take-length old in
          let none : drop k old ≡ [] = drop_of_length-le old {i = k} (omega arith) in
          (ap (λ xs. written 0 (found bs) xs) whole, ap (λ xs. xs ++ drop k old) (ap (λ xs. filled 0 (found bs) xs) whole) ∙ ap (λ xs. filled 0 (found bs) old ++ xs) none ∙ append-nil (filled 0 (found bs) old))
  lent_is_as_good (refused f) {k} e = (refl, take-append-drop k old)
