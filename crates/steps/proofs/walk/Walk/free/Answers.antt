-- By what the walk is for. Assumes nothing.
use Rattle.steps.proofs.Numbers.{walk_put, free_judged, by_listed}
use Rattle.steps.proofs.walk.Walk.free.Goals as goal

pub returns-then-self-eq-PUT : goal.returns-then-self-eq-PUT
returns-then-self-eq-PUT c = search walk_put

pub returns-then-self-eq-JUDGE : goal.returns-then-self-eq-JUDGE
returns-then-self-eq-JUDGE c = search free_judged

pub returns : goal.returns
returns c = search by_listed
