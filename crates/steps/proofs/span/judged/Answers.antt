-- By cases. Assumes nothing.
use Rattle.steps.proofs.Leaves.{judged_as}
use Rattle.steps.proofs.span.judged.Goals as goal

pub returns-in-Ok : goal.returns-in-Ok
returns-in-Ok c = search judged_as

pub returns-in-Err : goal.returns-in-Err
returns-in-Err c = search judged_as
