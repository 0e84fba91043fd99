-- The parts of a record, taken one by one: k goes on with the next one, if it is what is asked for; `other` is for parts of another shape.
-- Assumes nothing.
use Rattle.std.specs.Prelude.{ℕ, List, [], ◌∷◌}
use Rattle.wire.specs.Records.{Part, num, tag, span}

module _ {ℓ} {B : Type ℓ} (other : B) where
  -- no part is left
  abbrev pub on_end : List Part → B → B
  on_end [] k = k
  on_end (p ∷ ps) k = other

  -- a number
  abbrev pub on_number : List Part → (ℕ → List Part → B) → B
  on_number [] k = other
  on_number (num n ∷ ps) k = k n ps
  on_number (tag t ∷ ps) k = other
  on_number (span start len ∷ ps) k = other

  -- the arm that a union holds
  abbrev pub on_arm : List Part → (ℕ → List Part → B) → B
  on_arm [] k = other
  on_arm (num n ∷ ps) k = other
  on_arm (tag t ∷ ps) k = k t ps
  on_arm (span start len ∷ ps) k = other

  -- where bytes stand
  abbrev pub on_span : List Part → (ℕ → ℕ → List Part → B) → B
  on_span [] k = other
  on_span (num n ∷ ps) k = other
  on_span (tag t ∷ ps) k = other
  on_span (span start len ∷ ps) k = k start len ps
