-- Judged first, and then its line. Assumes nothing.
use Rattle.steps.proofs.Lined.{plain_lines_far, plain_inside, plain_lined, plain_not_lined}
use Rattle.steps.proofs.walk.Walk.plain_lines.Goals as goal

pub returns-then-at-gt-FAR : goal.returns-then-at-gt-FAR
returns-then-at-gt-FAR c = search plain_lines_far

pub bytes_line-requires : goal.bytes_line-requires
bytes_line-requires c = plain_inside _ _ c.in-Ok.is _ _ c.judge_plain.ensures

pub returns-in-Ok : goal.returns-in-Ok
returns-in-Ok c = search plain_lined

pub returns-in-Err : goal.returns-in-Err
returns-in-Err c = search plain_not_lined
