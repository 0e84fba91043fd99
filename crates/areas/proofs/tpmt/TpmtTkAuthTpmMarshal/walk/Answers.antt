-- Its fields, one behind the other. Assumes nothing.
use Rattle.format.specs.Kinds.{tpmt_tk_auth, ticket_body}
use Rattle.steps.proofs.Search.{walking}
use Rattle.areas.proofs.tpmt.TpmtTkAuthTpmMarshal.walk.Goals as goal

pub returns : goal.returns
unfolding tpmt_tk_auth ticket_body
returns c = search walking
