-- As records are counted; and of those so far each has its end in a cell. Assumes nothing.
use Prim.Native.Nat.{◌-◌}
use lib.ListN.{length}
use Rattle.records.proofs.RowLoops.{Celled}
use Rattle.records.proofs.runs.put_ends.Given as goal

abbrev pub invariant-cells : goal.invariant-cells
invariant-cells l = Celled l.kind l.s l.initial.ends l.ends l.start l.i

abbrev pub decreases-cells : goal.decreases-cells
decreases-cells l = length l.s - l.start
