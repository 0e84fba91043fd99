-- Its fields, one behind the other. Assumes nothing.
use Rattle.format.specs.Kinds.{tpms_signature_ecc}
use Rattle.steps.proofs.Search.{walking}
use Rattle.signatures.proofs.tpms.TpmsSignatureEccTpmMarshal.walk.Goals as goal

pub returns : goal.returns
unfolding tpms_signature_ecc
returns c = search walking
