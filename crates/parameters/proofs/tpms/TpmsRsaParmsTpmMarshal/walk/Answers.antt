-- Its fields, one behind the other. Assumes nothing.
use mathlib.Core.Path.{refl}
use Rattle.wire.specs.declared.width.Width.TheVariants.{Two, Four}
use Rattle.wire.specs.Layout.{free}
use Rattle.format.specs.Kinds.{tpms_rsa_parms}
use Rattle.steps.proofs.Walked.{walks_then, walks_number, last_number}
use Rattle.parameters.proofs.tpms.TpmsRsaParmsTpmMarshal.walk.Goals as goal

pub returns : goal.returns
unfolding tpms_rsa_parms
returns c = walks_then _ c.walk-v.ensures (walks_then _ {k = 6} c.walk-u.ensures
    (walks_number _ {k = 2} Two free _ _ c.number.ensures (last_number _ {k = 1} Four free _ c.number-2.ensures refl) refl) refl) refl
