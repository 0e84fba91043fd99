-- The mode says the fault. Assumes nothing.
use Rattle.steps.proofs.Leaves.{refusing_by}
use Rattle.steps.proofs.walk.refusing.Goals as goal

pub returns : goal.returns
returns c = search refusing_by
