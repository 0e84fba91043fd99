-- Its fields, one behind the other. Assumes nothing.
use Rattle.format.specs.Kinds.{tpms_time_attest_info}
use Rattle.steps.proofs.Search.{walking}
use Rattle.attest.proofs.tpms.TpmsTimeAttestInfoTpmMarshal.walk.Goals as goal

pub returns : goal.returns
unfolding tpms_time_attest_info
returns c = search walking
