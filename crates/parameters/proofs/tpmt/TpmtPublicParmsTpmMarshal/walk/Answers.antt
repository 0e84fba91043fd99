-- Its fields, one behind the other. Assumes nothing.
use Rattle.format.specs.Kinds.{tpmt_public_parms}
use Rattle.steps.proofs.Search.{walking}
use Rattle.parameters.proofs.tpmt.TpmtPublicParmsTpmMarshal.walk.Goals as goal

pub returns : goal.returns
unfolding tpmt_public_parms
returns c = search walking
