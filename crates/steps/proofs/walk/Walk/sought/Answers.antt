-- By what the walk is for. Assumes nothing.
use Rattle.steps.proofs.Leaves.{sought_here, not_sought}
use Rattle.steps.proofs.walk.Walk.sought.Goals as goal

pub returns-then-self-eq-SEEK : goal.returns-then-self-eq-SEEK
returns-then-self-eq-SEEK c = search sought_here

pub returns : goal.returns
returns c = search not_sought
