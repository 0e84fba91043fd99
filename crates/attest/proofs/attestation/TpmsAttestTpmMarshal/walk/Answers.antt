-- Its fields, one behind the other. Assumes nothing.
use mathlib.Core.Path.{refl}
use Rattle.wire.specs.declared.width.Width.TheVariants.{Four, Eight, Two}
use Rattle.wire.specs.Layout.{free}
use Rattle.codes.specs.Codes.{attestation, magic}
use Rattle.format.specs.Kinds.{tpms_attest}
use Rattle.steps.proofs.Walked.{walks_number, walks_buffer, walks_then}
use Rattle.attest.proofs.attestation.TpmsAttestTpmMarshal.walk.Goals as goal

pub returns : goal.returns
unfolding tpms_attest
returns c =
    walks_number _ Four magic _ _ c.magic.ensures (walks_number _ {k = 15} Two attestation _ _ c.code.ensures
    (walks_buffer _ {k = 14} 66 _ refl c.buffer.ensures (walks_buffer _ {k = 13} 66 _ refl c.buffer-v.ensures
    (walks_then _ {k = 12} c.walk-u.ensures (walks_number _ {k = 8} Eight free _ _ c.number.ensures c.walk_tagged.ensures refl) refl) refl) refl) refl) refl
