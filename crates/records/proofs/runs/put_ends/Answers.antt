-- As records are counted; and of those so far each has its end in a cell. Assumes nothing.
use borrow.Author.Rules.{rules}
use native.Mathlib.Omega.{arith}
use Rattle.records.proofs.RowLoops.{read_further, celled_none, cell_there, celled_more, never_refused, celled_all}
use Rattle.records.proofs.runs.put_ends.Goals as goal

pub cells-init : goal.cells-init
cells-init c = celled_none _ _ _ c.requires.1

pub offset_bounds-ends-i : goal.offset_bounds-ends-i
offset_bounds-ends-i c = let room = cell_there c.cells.invariant c.requires.1 c.requires.2 (omega (arith, c.left.ensures)) c.record_end.ensures c.in-Ok.is in search rules

pub bounds-ends-i : goal.bounds-ends-i
bounds-ends-i c = omega (arith, cell_there c.cells.invariant c.requires.1 c.requires.2 (omega (arith, c.left.ensures)) c.record_end.ensures c.in-Ok.is, c.cells.invariant.same)

pub overflow_add-i : goal.overflow_add-i
overflow_add-i c = omega (arith, cell_there c.cells.invariant c.requires.1 c.requires.2 (omega (arith, c.left.ensures)) c.record_end.ensures c.in-Ok.is, c.cells.invariant.same)

pub cells-smaller : goal.cells-smaller
cells-smaller c = omega (arith, read_further c.record_end.ensures c.in-Ok.is)

pub cells-preserved : goal.cells-preserved
cells-preserved c = celled_more c.cells.invariant c.requires.1 c.requires.2 (omega (arith, c.left.ensures)) c.record_end.ensures c.in-Ok.is

pub shape_of-ends-in-Err : goal.shape_of-ends-in-Err
shape_of-ends-in-Err c = c.cells.invariant.same

pub returns-in-Err : goal.returns-in-Err
returns-in-Err c = absurd (never_refused c.cells.invariant c.requires.1 c.requires.2 (omega (arith, c.left.ensures)) c.record_end.ensures c.in-Err.is)

pub shape_of-ends : goal.shape_of-ends
shape_of-ends c = c.cells.invariant.same

pub returns : goal.returns
returns c = celled_all c.cells.invariant c.requires.1 c.requires.2 (omega (arith, c.left.ensures))
