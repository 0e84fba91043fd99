-- Its fields, one behind the other. Assumes nothing.
use Rattle.format.specs.Kinds.{tpms_quote_info}
use Rattle.steps.proofs.Search.{walking}
use Rattle.attest.proofs.tpms.TpmsQuoteInfoTpmMarshal.walk.Goals as goal

pub returns : goal.returns
unfolding tpms_quote_info
returns c = search walking
