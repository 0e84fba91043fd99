-- By what the walk is for. Assumes nothing.
use Rattle.steps.proofs.Leaves.{to_place_lines, to_place_else}
use Rattle.steps.proofs.walk.Walk.to_place.Goals as goal

pub returns-then-self-eq-LINES : goal.returns-then-self-eq-LINES
returns-then-self-eq-LINES c = search to_place_lines

pub returns : goal.returns
returns c = search to_place_else
