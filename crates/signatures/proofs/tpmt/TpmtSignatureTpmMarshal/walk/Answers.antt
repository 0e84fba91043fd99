-- Its fields, one behind the other. Assumes nothing.
use Rattle.format.specs.Kinds.{tpmt_signature}
use Rattle.steps.proofs.Search.{walking}
use Rattle.signatures.proofs.tpmt.TpmtSignatureTpmMarshal.walk.Goals as goal

pub returns : goal.returns
unfolding tpmt_signature
returns c = search walking
