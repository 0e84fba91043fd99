-- Where the span starts, and how long it is. Assumes nothing.
use Rattle.steps.proofs.Leaves.{found_at}
use Rattle.steps.proofs.walk.finding.Goals as goal

pub returns : goal.returns
returns c = search found_at
