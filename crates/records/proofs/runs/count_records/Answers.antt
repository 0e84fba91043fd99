-- What is left to read, behind the ends so far, is what there was to read at the start. Assumes nothing.
use native.Mathlib.Omega.{arith}
use mathlib.Core.Path.{refl}
use Rattle.wire.proofs.Search.{leaves_measure}
use Rattle.records.proofs.RowLoops.{read_further, counted_none, counted_more, counted_all, counted_refused}
use Rattle.records.proofs.runs.count_records.Goals as goal

pub loop-at-init : goal.loop-at-init
loop-at-init c = counted_none _ _ refl c.requires

pub overflow_add-n : goal.overflow_add-n
overflow_add-n c = let x = c.loop-at.invariant in omega (arith, x.many, x.so_far.few, x.so_far.inside, c.left.ensures)

pub loop-at-smaller : goal.loop-at-smaller
loop-at-smaller c = omega (arith, read_further c.record_end.ensures c.in_ok-at.was)

pub loop-at-preserved : goal.loop-at-preserved
loop-at-preserved c = counted_more c.loop-at.invariant (omega (arith, c.left.ensures)) c.record_end.ensures c.in_ok-at.was

pub returns-in_err-at : goal.returns-in_err-at
returns-in_err-at c = leaves_measure _ _ c.from_residual.ensures (counted_refused c.loop-at.invariant (omega (arith, c.left.ensures)) c.record_end.ensures c.in_err-at.was)

pub returns : goal.returns
returns c = counted_all c.loop-at.invariant (omega (arith, c.left.ensures))
