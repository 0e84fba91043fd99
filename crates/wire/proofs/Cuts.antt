-- The bytes of a span: how many there are, where the source has them and where not. Assumes nothing.
use Prim.Native.Nat.{ℕ, ◌+◌, ◌-◌, ◌≤◌}
use native.Mathlib.Omega.{arith}
use mathlib.Core.Path.{◌≡◌, refl, sym, ◌∙◌}
use mathlib.Core.Bool.{Bool, true, false}
use mathlib.Core.List.{List, []}
use denote.Ref.{Bor}
use lib.ListN.{length, take, drop, length-drop}
use lib.Seq.{length-take-le}
use lib.Dec.{leb}
use borrow.Author.Tests.{le-leb, leb-true}
use Rattle.faults.specs.declared.Refusal.{Refusal}
use Rattle.faults.specs.Faults.{bad_span}
use Rattle.wire.specs.Records.{Ans, found, refused}
use Rattle.wire.specs.Writing.{cut}
use Rattle.wire.specs.Fields.{part_of, size_of}
use Rattle.wire.specs.Places.{StandsAt, start_if}
use Rattle.wire.proofs.Steps.{found_refused}

module _ (src : List ℕ) (start len at : ℕ) where
  pub cut_length : start + len ≤ length src → length (take len (drop start src)) ≡ len
  cut_length h = length-take-le len (drop start src) (omega (arith, length-drop start src))

  -- in the source
  pub cut_there : start + len ≤ length src → cut src start len at ≡ found (take len (drop start src))
  unfolding cut
  cut_there h = rw (le-leb (start + len) (length src) h)

  pub size_there : leb (start + len) (length src) ≡ true → found len ≡ size_of (cut src start len at)
  unfolding cut
  size_there t = rw (t, cut_length (leb-true (start + len) (length src) t))

  pub part_there : leb (start + len) (length src) ≡ true → take (start + len - start) (drop start src) ≡ part_of (cut src start len at)
  unfolding cut
  part_there t = let e : start + len - start ≡ len = omega arith in rw (e, t)

  -- and not in it
  pub size_out : leb (start + len) (length src) ≡ false → refused (bad_span at len) ≡ size_of (cut src start len at)
  unfolding cut
  size_out t = rw t

  pub part_out : leb (start + len) (length src) ≡ false → [] ≡ part_of (cut src start len at)
  unfolding cut
  part_out t = rw t

  -- where the part stands that is handed out
  module _ {s r : Bor (List ℕ)} where
    pub stands_there : leb (start + len) (length src) ≡ true → StandsAt s r start → StandsAt s r (start_if (cut src start len at) start)
    unfolding cut
    stands_there t p = rw t p

    pub stands_out : leb (start + len) (length src) ≡ false → StandsAt s r 0 → StandsAt s r (start_if (cut src start len at) start)
    unfolding cut
    stands_out t p = rw t p

  -- bytes that have a size are there, whatever place a refusal would name
  pub sized_part : {n : ℕ} → found n ≡ size_of (cut src start len at) → cut src start len at ≡ found (part_of (cut src start len 0))
  unfolding cut
  sized_part p = by (leb (start + len) (length src)) refl
    where
      by : (t : Bool) → leb (start + len) (length src) ≡ t → cut src start len at ≡ found (part_of (cut src start len 0))
      by true t = rw t
      by false t = absurd (found_refused (size_out t ∙ sym p))

  -- and those that have none are refused
  pub unsized : {f : Refusal} → refused f ≡ size_of (cut src start len at) → cut src start len at ≡ refused f
  unsized p = by (cut src start len at) p
    where
      by : (a : Ans (List ℕ)) {f : Refusal} → refused f ≡ size_of a → a ≡ refused f
      by (found xs) p = absurd (found_refused p)
      by (refused g) p = cc
