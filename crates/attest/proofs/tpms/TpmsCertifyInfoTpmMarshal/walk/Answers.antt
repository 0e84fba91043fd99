-- Its fields, one behind the other. Assumes nothing.
use Rattle.format.specs.Kinds.{tpms_certify_info}
use Rattle.steps.proofs.Search.{walking}
use Rattle.attest.proofs.tpms.TpmsCertifyInfoTpmMarshal.walk.Goals as goal

pub returns : goal.returns
unfolding tpms_certify_info
returns c = search walking
