-- Its fields, one behind the other. Assumes nothing.
use Rattle.format.specs.Kinds.{tpms_nv_digest_certify_info}
use Rattle.steps.proofs.Search.{walking}
use Rattle.attest.proofs.tpms.TpmsNvDigestCertifyInfoTpmMarshal.walk.Goals as goal

pub returns : goal.returns
unfolding tpms_nv_digest_certify_info
returns c = search walking
