-- Its fields, one behind the other. Assumes nothing.
use Rattle.format.specs.Kinds.{tpms_ecc_point}
use Rattle.steps.proofs.Search.{walking}
use Rattle.keys.proofs.tpms.TpmsEccPointTpmMarshal.walk.Goals as goal

pub returns : goal.returns
unfolding tpms_ecc_point
returns c = search walking
