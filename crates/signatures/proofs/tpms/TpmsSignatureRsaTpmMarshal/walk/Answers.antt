-- Its fields, one behind the other. Assumes nothing.
use Rattle.format.specs.Kinds.{tpms_signature_rsa}
use Rattle.steps.proofs.Search.{walking}
use Rattle.signatures.proofs.tpms.TpmsSignatureRsaTpmMarshal.walk.Goals as goal

pub returns : goal.returns
unfolding tpms_signature_rsa
returns c = search walking
