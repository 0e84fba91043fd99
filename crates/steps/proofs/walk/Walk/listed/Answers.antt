-- A line, if the walk is for lines. Assumes nothing.
use Rattle.steps.proofs.Numbers.{place_fits, walk_line, walk_far}
use Rattle.steps.proofs.walk.Walk.listed.Goals as goal

pub overflow_add-self : goal.overflow_add-self
overflow_add-self c = search place_fits

pub returns-then-self-le-FAR : goal.returns-then-self-le-FAR
returns-then-self-le-FAR c = search walk_line

pub returns : goal.returns
returns c = search walk_far
