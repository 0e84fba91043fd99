-- Judged first, and then its two lines. Assumes nothing.
use Rattle.steps.proofs.Lined.{buffer_lines_far, buffer_inside, buffer_lined, buffer_not_lined}
use Rattle.steps.proofs.walk.Walk.buffer_lines.Goals as goal

pub returns-then-at-gt-FAR : goal.returns-then-at-gt-FAR
returns-then-at-gt-FAR c = search buffer_lines_far

pub bytes_line-requires : goal.bytes_line-requires
bytes_line-requires c = buffer_inside _ _ c.in-Ok.is _ _ c.judge_buffer.ensures

pub returns-in-Ok : goal.returns-in-Ok
returns-in-Ok c = search buffer_lined

pub returns-in-Err : goal.returns-in-Err
returns-in-Err c = search buffer_not_lined
