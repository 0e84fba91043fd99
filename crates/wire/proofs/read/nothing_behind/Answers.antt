-- Nothing is left exactly where the input ends by then. Assumes nothing.
use native.Mathlib.Omega.{arith}
use Rattle.wire.proofs.Wholes.{none_left, some_left}
use Rattle.wire.proofs.read.nothing_behind.Goals as goal

pub returns-then-n-eq0 : goal.returns-then-n-eq0
returns-then-n-eq0 c = none_left _ _ (omega arith)

pub returns : goal.returns
returns c = rw (c.trailing.ensures, c.left-n.ensures) (some_left _ _ (omega arith))
