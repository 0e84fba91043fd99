-- Bytes that are left there spell the number, and too few are Short. Assumes nothing.
use native.Mathlib.Omega.{arith}
use Rattle.wire.proofs.Leaves.{one_there, one_refused}
use Rattle.wire.proofs.Widths.{width_range}
use Rattle.wire.proofs.read.number.Goals as goal

pub big_endian-requires : goal.big_endian-requires
big_endian-requires c = omega (arith, width_range c.args.w)

pub returns-then-size-there : goal.returns-then-size-there
returns-then-size-there c = rw (← c.bytes-size.ensures) (one_there _ _ _ (omega arith) c.big_endian.ensures)

pub returns : goal.returns
returns c = one_refused _ _ _ _ _ c.short.ensures c.bytes-size.ensures (omega (arith, c.left-there.ensures)) (omega (arith, c.left-there.ensures, c.bytes-size.ensures))
