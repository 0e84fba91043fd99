-- Each turn is for the next record of the row, and there are as many as were counted.
use Rattle.cabinet_list.proofs.Rows.{Listed}
use Rattle.cabinet_list.proofs.row.is_row_given.Given as goal

abbrev pub invariant-loop-before : goal.invariant-loop-before
invariant-loop-before l = Listed l.kind l.s l.at l.before
