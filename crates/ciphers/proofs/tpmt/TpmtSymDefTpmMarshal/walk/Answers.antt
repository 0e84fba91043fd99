-- Its fields, one behind the other. Assumes nothing.
use Rattle.format.specs.Kinds.{tpmt_sym_def}
use Rattle.steps.proofs.Search.{walking}
use Rattle.ciphers.proofs.tpmt.TpmtSymDefTpmMarshal.walk.Goals as goal

pub returns : goal.returns
unfolding tpmt_sym_def
returns c = search walking
