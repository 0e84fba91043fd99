-- Its fields, one behind the other. Assumes nothing.
use native.Mathlib.Omega.{arith}
use mathlib.Core.Path.{refl}
use Rattle.wire.specs.declared.width.Width.TheVariants.{Two, Four}
use Rattle.wire.specs.Layout.{free}
use Rattle.codes.specs.Codes.{alg}
use Rattle.format.specs.Kinds.{tpmt_public}
use Rattle.steps.proofs.Walked.{walks_number, walks_buffer, walks_then}
use Rattle.keys.proofs.tpmt.TpmtPublicTpmMarshal.walk.Goals as goal

pub shape_of-out : goal.shape_of-out
unfolding tpmt_public
shape_of-out c = omega (arith, c.out-6-1.given, c.out-5-1.given, c.out-4-1.given, c.out-3-1.given, c.out-2-1.given, c.out-1.given)

pub returns : goal.returns
unfolding tpmt_public
returns c = walks_number _ Two alg _ _ c.code.ensures (walks_number _ {k = 20} Two alg _ _ c.code-2.ensures
    (walks_number _ {k = 19} Four free _ _ c.number.ensures (walks_buffer _ {k = 18} 64 _ refl c.buffer-v.ensures
    (walks_then _ {k = 17} c.walk_tagged-u.ensures c.walk_tagged.ensures refl) refl) refl) refl) refl
