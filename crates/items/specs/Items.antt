-- The lines of an item of a list. Assumes nothing.
use Rattle.std.specs.Prelude.{ℕ, ◌+◌, ◌≡◌, List}
use Rattle.wire.specs.Layout.{Layout}
use Rattle.wire.specs.Lines.{lines}
use Rattle.wire.specs.Records.{Part, found, Parsed, parsed}
use Rattle.wire.specs.Reading.{read}
use Rattle.steps.specs.Walks.{Here, put_lines}

-- the item of xs at a place was read, and has these parts
abbrev pub HasParts : Layout → List Part → (xs : List ℕ) (at : ℕ) → Type 0
HasParts l ps xs at = (e : ℕ) × (parsed ps e ≡ read l xs at)

-- from a to b the lines of the item of xs at the place e are put, if there is one, and f is where it ends; the list stands at the place `at`
pub record ItemLined (l : Layout) (xs : List ℕ) (e at : ℕ) (a b : Here) (f : ℕ) : Type 0 where
  pub puts : {r : Parsed} → read l xs e ≡ found r → b ≡ put_lines (lines l r.parts xs (at + e)) a
  pub ends : {r : Parsed} → read l xs e ≡ found r → f ≡ r.stops
