-- The record of a kind that an input starts with, walked over. Assumes nothing.
use Rattle.std.specs.Prelude.{ℕ, ◌≤◌, ◌≡◌, List, length}
use Rattle.faults.specs.declared.Refusal.{Refusal}
use Rattle.wire.specs.Layout.{Layout}
use Rattle.wire.specs.Records.{Part, Ans, found, refused, Parsed}
use Rattle.steps.specs.Walks.{Here, here, refusing, Walks}

-- From a to b a record is walked over that a reader of the layout l answered of src; where it refused, the walk is refused so and the
-- buffer stays as it was. No record has more than 24 steps, nor more than one list
pub record WalkOf (l : Layout) (src : List ℕ) (answer : Ans Parsed) (a b : Here) : Type 0 where
  pub walked : {r : Parsed} → answer ≡ found r → (ls : List Part) × Walks 24 l r.parts ls src a b × (length ls ≤ 1)
  pub none : {f : Refusal} → answer ≡ refused f → b ≡ here (refusing f) a.out
