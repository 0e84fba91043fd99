-- Its fields, one behind the other. Assumes nothing.
use Rattle.format.specs.Kinds.{tpms_capability_data}
use Rattle.steps.proofs.Search.{walking}
use Rattle.capabilities.proofs.tpms.TpmsCapabilityDataTpmMarshal.walk.Goals as goal

pub returns : goal.returns
unfolding tpms_capability_data
returns c = search walking
