-- By what the walk is for. Assumes nothing.
use Rattle.lists.proofs.Lists.{list_judged, list_far, list_put, list_listed, list_finds, list_sought}
use Rattle.lists.proofs.list.list.Goals as goal

pub returns-then-w-le-FAR : goal.returns-then-w-le-FAR
returns-then-w-le-FAR c = search list_judged

pub returns-then-w-eq-JUDGE : goal.returns-then-w-eq-JUDGE
returns-then-w-eq-JUDGE c = search list_far

pub returns-then-w-eq-PUT : goal.returns-then-w-eq-PUT
returns-then-w-eq-PUT c = search list_put

pub returns-then-w-eq-LINES : goal.returns-then-w-eq-LINES
returns-then-w-eq-LINES c = search list_listed

pub returns-then-w-eq-LIST : goal.returns-then-w-eq-LIST
returns-then-w-eq-LIST c = search list_finds

pub returns : goal.returns
returns c = search list_sought
