-- By what the walk is for. Assumes nothing.
use Rattle.steps.proofs.Leaves.{plain_put, plain_judged, plain_far, plain_listed, plain_sought}
use Rattle.steps.proofs.walk.Walk.plain.Goals as goal

pub returns-then-self-eq-PUT : goal.returns-then-self-eq-PUT
returns-then-self-eq-PUT c = search plain_put

pub returns-then-self-le-FAR : goal.returns-then-self-le-FAR
returns-then-self-le-FAR c = search plain_judged

pub returns-then-self-eq-JUDGE : goal.returns-then-self-eq-JUDGE
returns-then-self-eq-JUDGE c = search plain_far

pub returns-then-self-eq-LINES : goal.returns-then-self-eq-LINES
returns-then-self-eq-LINES c = search plain_listed

pub returns : goal.returns
returns c = search plain_sought
