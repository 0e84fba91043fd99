-- Its fields, one behind the other. Assumes nothing.
use Rattle.format.specs.Kinds.{tpmt_sensitive}
use Rattle.steps.proofs.Search.{walking}
use Rattle.sensitive.proofs.tpmt.TpmtSensitiveTpmMarshal.walk.Goals as goal

pub returns : goal.returns
unfolding tpmt_sensitive
returns c = search walking
