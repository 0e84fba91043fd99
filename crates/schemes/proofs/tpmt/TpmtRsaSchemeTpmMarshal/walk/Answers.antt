-- Its fields, one behind the other. Assumes nothing.
use Rattle.format.specs.Kinds.{tpmt_asym_scheme}
use Rattle.steps.proofs.Search.{walking}
use Rattle.schemes.proofs.tpmt.TpmtRsaSchemeTpmMarshal.walk.Goals as goal

pub returns : goal.returns
unfolding tpmt_asym_scheme
returns c = search walking
