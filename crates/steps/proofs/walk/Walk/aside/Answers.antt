-- By what the walk is for. Assumes nothing.
use Rattle.steps.proofs.Numbers.{walk_judged, by_listed}
use Rattle.steps.proofs.walk.Walk.aside.Goals as goal

pub returns-then-self-eq-JUDGE : goal.returns-then-self-eq-JUDGE
returns-then-self-eq-JUDGE c = search walk_judged

pub returns : goal.returns
returns c = search by_listed
