-- The line is put where it fits, and counted. Assumes nothing.
use native.Mathlib.Omega.{arith}
use Rattle.text.specs.declared.line.Word.{Word}
use Rattle.text.proofs.Rows.{number_line_length}
use Rattle.steps.proofs.Lined.{number_lined, line_far, no_lines}
use Rattle.steps.proofs.walk.Walk.number_line.Goals as goal

pub overflow_add-at : goal.overflow_add-at
overflow_add-at c = let a = c.args in omega (arith, c.fit_number_line-k.ensures.size, number_line_length a.place c.bytes.result Word.Code a.n)

pub returns-in-Code : goal.returns-in-Code
returns-in-Code c = search number_lined

pub overflow_add-at-in-Number : goal.overflow_add-at-in-Number
overflow_add-at-in-Number c = let a = c.args in omega (arith, c.fit_number_line-k-in-Number.ensures.size, number_line_length a.place c.bytes-in-Number.result Word.Number a.n)

pub returns-in-Number : goal.returns-in-Number
returns-in-Number c = search number_lined

pub returns-else-at-le-FAR : goal.returns-else-at-le-FAR
returns-else-at-le-FAR c = search line_far

pub returns-else-self-eq-LINES : goal.returns-else-self-eq-LINES
returns-else-self-eq-LINES c = search no_lines
