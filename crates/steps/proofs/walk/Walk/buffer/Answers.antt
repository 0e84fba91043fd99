-- Judged, or aside. Assumes nothing.
use Rattle.steps.proofs.Leaves.{buffer_judged, buffer_far}
use Rattle.steps.proofs.walk.Walk.buffer.Goals as goal

pub returns-then-self-le-FAR : goal.returns-then-self-le-FAR
returns-then-self-le-FAR c = search buffer_judged

pub returns-then-self-eq-JUDGE : goal.returns-then-self-eq-JUDGE
returns-then-self-eq-JUDGE c = search buffer_far

pub returns : goal.returns
returns c = c.buffer_aside.ensures c.if-self-eq-JUDGE.false
