-- After i turns the first i bytes are put. Assumes nothing.
use native.Mathlib.Omega.{arith}
use mathlib.Core.Path.{refl}
use Rattle.wire.proofs.Filling.{copied_none, copied_more, copied_all, fits_put, fits_not}
use Rattle.puts.proofs.write.put_bytes.Goals as goal

pub loop-i-init : goal.loop-i-init
loop-i-init c = copied_none _ _ _

pub loop-i-preserved : goal.loop-i-preserved
loop-i-preserved c = copied_more c.loop-i-test.true (omega arith) c.loop-i.invariant

pub shape_of-out-then-len-left : goal.shape_of-out-then-len-left
shape_of-out-then-len-left c = c.loop-i.invariant.same

pub returns-then-len-left : goal.returns-then-len-left
returns-then-len-left c =
    let a = c.args in
    fits_put a.at a.xs.now a.out.now refl (omega arith) (copied_all c.loop-i-test.false c.loop-i.invariant)

pub returns : goal.returns
returns c =
    let a = c.args in
    rw c.no_room.ensures (fits_not a.at a.xs.now a.out.now refl (omega arith))
