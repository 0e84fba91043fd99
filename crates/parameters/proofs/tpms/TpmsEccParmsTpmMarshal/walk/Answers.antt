-- Its fields, one behind the other. Assumes nothing.
use Rattle.format.specs.Kinds.{tpms_ecc_parms}
use Rattle.steps.proofs.Search.{walking}
use Rattle.parameters.proofs.tpms.TpmsEccParmsTpmMarshal.walk.Goals as goal

pub returns : goal.returns
unfolding tpms_ecc_parms
returns c = search walking
