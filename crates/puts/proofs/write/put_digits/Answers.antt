-- A turn puts the last digit of those that are left. Assumes nothing.
use Prim.Native.Nat.{◌-◌, ◌+◌}
use native.Mathlib.Omega.{arith}
use mathlib.Core.Path.{◌≡◌, refl}
use Rattle.wire.specs.Bytes.{digits}
use Rattle.wire.proofs.Filling.{filling_more, filling_all}
use Rattle.puts.proofs.write.put_digits.Goals as goal

pub loop-i-preserved : goal.loop-i-preserved
unfolding digits
loop-i-preserved c =
    let w = c.args.w in
    let i = c.loop-i.i in
    let place : w - 1 - i ≡ w - i - 1 = omega arith in
    let left : w - (i + 1) ≡ w - i - 1 = omega arith in
    rw (place, left, c.low.ensures) (filling_more _ (λ k. refl) (w - i) c.requires (omega arith) c.loop-i.invariant)

pub returns : goal.returns
unfolding digits
returns c = filling_all (c.args.w - c.loop-i.i) refl (omega arith) c.loop-i.invariant
