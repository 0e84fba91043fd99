-- Its fields, one behind the other. Assumes nothing.
use Rattle.format.specs.Kinds.{tpms_scheme_hash}
use Rattle.steps.proofs.Search.{walking}
use Rattle.schemes.proofs.tpms.TpmsSchemeHashTpmMarshal.walk.Goals as goal

pub returns : goal.returns
unfolding tpms_scheme_hash
returns c = search walking
