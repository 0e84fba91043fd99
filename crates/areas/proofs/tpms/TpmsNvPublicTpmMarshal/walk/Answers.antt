-- Its fields, one behind the other. Assumes nothing.
use Rattle.format.specs.Kinds.{tpms_nv_public}
use Rattle.steps.proofs.Search.{walking}
use Rattle.areas.proofs.tpms.TpmsNvPublicTpmMarshal.walk.Goals as goal

pub returns : goal.returns
unfolding tpms_nv_public
returns c = search walking depth 8
