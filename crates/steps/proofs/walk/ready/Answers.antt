-- By cases. Assumes nothing.
use native.Mathlib.Omega.{arith}
use borrow.Author.Rules.{rules}
use Rattle.steps.proofs.Leaves.{ready_fits, ready_full, ready_none}
use Rattle.steps.proofs.walk.ready.Goals as goal

pub returns-then-n-room : goal.returns-then-n-room
returns-then-n-room c = ready_fits _ _ _ _ c.in-Ok.is (omega arith) (search rules)

pub returns-else-n-room : goal.returns-else-n-room
returns-else-n-room c = ready_full _ _ _ _ _ c.in-Ok.is (omega arith) c.no_room.ensures c.refusing.ensures

pub returns-in-Err : goal.returns-in-Err
returns-in-Err c = ready_none _ _ _ _ c.in-Err.is c.refusing-in-Err.ensures
