-- The bytes so far are put, two digits each. Assumes nothing.
use native.Mathlib.Omega.{arith}
use Rattle.text.proofs.Hexes.{paired_more}
use Rattle.text.proofs.put.put_hex.Goals as goal

pub loop-x-preserved : goal.loop-x-preserved
loop-x-preserved c = paired_more (omega arith) c.loop-x.invariant c.put_pair-end.ensures
