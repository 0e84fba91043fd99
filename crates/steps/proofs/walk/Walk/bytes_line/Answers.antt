-- The line is put where it fits, and counted. Assumes nothing.
use native.Mathlib.Omega.{arith}
use lib.ListN.{length}
use Rattle.text.proofs.Rows.{bytes_line_length}
use Rattle.steps.proofs.Lined.{bytes_few, bytes_lined, line_far, no_lines}
use Rattle.steps.proofs.walk.Walk.bytes_line.Goals as goal

pub fit_bytes_line-k-requires : goal.fit_bytes_line-k-requires
fit_bytes_line-k-requires c = search bytes_few

pub overflow_add-at : goal.overflow_add-at
overflow_add-at c =
    let a = c.args in
    let xs = c.part.result.now in
    omega (arith, c.fit_bytes_line-k.ensures.size, bytes_line_length a.place (length xs) xs, bytes_few a.place a.span a.src.now xs c.requires c.part.ensures.part)

pub returns-then-at-le-FAR : goal.returns-then-at-le-FAR
returns-then-at-le-FAR c = search bytes_lined

pub returns-else-at-le-FAR : goal.returns-else-at-le-FAR
returns-else-at-le-FAR c = search line_far

pub returns-else-self-eq-LINES : goal.returns-else-self-eq-LINES
returns-else-self-eq-LINES c = search no_lines
