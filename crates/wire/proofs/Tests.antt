-- Tests of the code and of the definitions that say the same. Assumes nothing.
use Prim.Native.Nat.{ℕ, ◌≤◌}
use mathlib.Core.Path.{◌≡◌, refl, sym, ◌∙◌}
use mathlib.Core.Bool.{Bool, true, false}
use lib.Dec.{leb}
use borrow.Author.Tests.{le-leb, leb-true}

leb_same : (a b c d : ℕ) → (a ≤ b → c ≤ d) → (c ≤ d → a ≤ b) → leb a b ≡ leb c d
leb_same a b c d f g = by (leb a b) (leb c d) refl refl
  where
    by : (s t : Bool) → leb a b ≡ s → leb c d ≡ t → leb a b ≡ leb c d
    by true t p q = p ∙ sym (le-leb c d (f (leb-true a b p)))
    by false true p q = le-leb a b (g (leb-true c d q)) ∙ sym q
    by false false p q = p ∙ sym q
