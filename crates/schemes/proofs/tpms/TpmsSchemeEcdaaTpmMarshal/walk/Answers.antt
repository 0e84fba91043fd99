-- Its fields, one behind the other. Assumes nothing.
use Rattle.format.specs.Kinds.{tpms_scheme_ecdaa}
use Rattle.steps.proofs.Search.{walking}
use Rattle.schemes.proofs.tpms.TpmsSchemeEcdaaTpmMarshal.walk.Goals as goal

pub returns : goal.returns
unfolding tpms_scheme_ecdaa
returns c = search walking
