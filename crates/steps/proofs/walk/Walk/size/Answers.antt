-- The size of the span that was found. Assumes nothing.
use Rattle.wire.specs.Fields.{size_of}
use Rattle.steps.proofs.Found.{found_part, none_part}
use Rattle.steps.proofs.walk.Walk.size.Goals as goal

pub returns-then-self-eq-FOUND : goal.returns-then-self-eq-FOUND
returns-then-self-eq-FOUND c = search (found_part size_of)

pub returns : goal.returns
returns c = search (none_part size_of)
