-- Its fields, one behind the other. Assumes nothing.
use Rattle.format.specs.Kinds.{tpms_time_info}
use Rattle.steps.proofs.Search.{walking}
use Rattle.attest.proofs.tpms.TpmsTimeInfoTpmMarshal.walk.Goals as goal

pub returns : goal.returns
unfolding tpms_time_info
returns c = search walking
