-- Its fields, one behind the other. Assumes nothing.
use Rattle.format.specs.Kinds.{tpmt_ha}
use Rattle.steps.proofs.Search.{walking}
use Rattle.ciphers.proofs.tpmt.TpmtHaTpmMarshal.walk.Goals as goal

pub returns : goal.returns
unfolding tpmt_ha
returns c = search walking
