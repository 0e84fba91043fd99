-- By what the walk is for. Assumes nothing.
use Rattle.steps.proofs.Leaves.{put_buffer, buffer_listed, buffer_sought}
use Rattle.steps.proofs.walk.Walk.buffer_aside.Goals as goal

pub returns-then-self-eq-PUT : goal.returns-then-self-eq-PUT
returns-then-self-eq-PUT c = search put_buffer

pub returns-then-self-eq-LINES : goal.returns-then-self-eq-LINES
returns-then-self-eq-LINES c = search buffer_listed

pub returns : goal.returns
returns c = search buffer_sought
