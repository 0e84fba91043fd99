-- Bytes that are left there are found, and the others are Short. Assumes nothing.
use native.Mathlib.Omega.{arith}
use mathlib.Core.Path.{refl}
use Rattle.wire.proofs.Leaves.{plain_there, plain_refused}
use Rattle.wire.proofs.read.plain.Goals as goal

pub returns-then-n-there : goal.returns-then-n-there
returns-then-n-there c = rw c.new.ensures (plain_there _ _ _ (omega arith))

pub returns : goal.returns
returns c = plain_refused _ _ _ _ _ c.short.ensures refl (omega (arith, c.left-there.ensures)) (omega (arith, c.left-there.ensures))
