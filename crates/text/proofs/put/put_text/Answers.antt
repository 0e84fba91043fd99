-- After i turns the first i bytes are put. Assumes nothing.
use native.Mathlib.Omega.{arith}
use mathlib.Core.Path.{refl}
use Rattle.wire.proofs.Filling.{copied_none, copied_more, copied_all}
use Rattle.text.proofs.put.put_text.Goals as goal

pub loop-i-init : goal.loop-i-init
loop-i-init c = copied_none _ _ _

pub loop-i-preserved : goal.loop-i-preserved
loop-i-preserved c = copied_more c.loop-i-test.true (omega arith) c.loop-i.invariant

pub shape_of-out : goal.shape_of-out
shape_of-out c = c.loop-i.invariant.same

pub returns : goal.returns
returns c = record { behind = refl; holds = copied_all c.loop-i-test.false c.loop-i.invariant }
