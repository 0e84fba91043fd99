-- A turn puts the last digit of those that are left. Assumes nothing.
use Prim.Native.Nat.{◌-◌, ◌+◌}
use native.Mathlib.Omega.{arith}
use mathlib.Core.Path.{◌≡◌, refl}
use Rattle.wire.proofs.Filling.{filling_more}
use Rattle.text.proofs.put.put_places.Goals as goal

pub loop-i-preserved : goal.loop-i-preserved
loop-i-preserved c =
    let at = c.args.at in
    let i = c.loop-i.i in
    let left : i - 1 - at ≡ i - at - 1 = omega arith in
    let place : i - 1 ≡ at + (i - at - 1) = omega arith in
    rw (left, place, c.figure.ensures) (filling_more _ (λ k. refl) (i - at) c.requires (omega arith) c.loop-i.invariant)
