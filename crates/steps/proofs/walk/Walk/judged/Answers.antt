-- By what its field takes, and how far the walk is. Assumes nothing.
use native.Mathlib.Omega.{arith}
use Rattle.steps.proofs.Numbers.{judged_good, judged_bad, judged_far, width_near}
use Rattle.steps.proofs.walk.Walk.judged.Goals as goal

pub overflow_add-self : goal.overflow_add-self
overflow_add-self c = omega (arith, width_near c.args.w, c.bytes.ensures)

pub returns-then-good : goal.returns-then-good
returns-then-good c = search judged_good

pub returns-then-self-le-FAR : goal.returns-then-self-le-FAR
returns-then-self-le-FAR c = search judged_bad

pub returns : goal.returns
returns c = search judged_far
