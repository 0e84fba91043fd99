-- Its fields, one behind the other. Assumes nothing.
use Rattle.format.specs.Kinds.{tpml_pcr_selection}
use Rattle.steps.proofs.Search.{walking}
use Rattle.attest.proofs.list.TpmlPcrSelectionTpmMarshal.walk.Goals as goal

pub returns : goal.returns
unfolding tpml_pcr_selection
returns c = search walking
