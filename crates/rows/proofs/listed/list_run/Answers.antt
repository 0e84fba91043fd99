-- A record ends further on, and in the row. Assumes nothing.
use native.Mathlib.Omega.{arith}
use Rattle.records.proofs.RowLoops.{read_further}
use Rattle.rows.proofs.listed.list_run.Goals as goal

pub slice_bounds-say_record-count : goal.slice_bounds-say_record-count
slice_bounds-say_record-count c = omega (arith, read_further c.record_end.ensures c.in-Ok.is)

pub slice_bounds-say_record-start : goal.slice_bounds-say_record-start
slice_bounds-say_record-start c = omega (arith, read_further c.record_end.ensures c.in-Ok.is)

pub slice_bounds-say_record-end : goal.slice_bounds-say_record-end
slice_bounds-say_record-end c = omega (arith, read_further c.record_end.ensures c.in-Ok.is)
