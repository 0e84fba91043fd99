-- Its fields, one behind the other. Assumes nothing.
use Rattle.format.specs.Kinds.{tpmt_nv_public2}
use Rattle.steps.proofs.Search.{walking}
use Rattle.areas.proofs.tpmt.TpmtNvPublic2TpmMarshal.walk.Goals as goal

pub returns : goal.returns
unfolding tpmt_nv_public2
returns c = search walking
