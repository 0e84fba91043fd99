-- The digits are put, and the place is behind them. Assumes nothing.
use Rattle.steps.proofs.Leaves.{moved_one}
use Rattle.steps.proofs.walk.Walk.put.Goals as goal

pub returns : goal.returns
returns c = search moved_one
