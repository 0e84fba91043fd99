-- Its fields, one behind the other. Assumes nothing.
use Rattle.format.specs.Kinds.{tpms_session_audit_info}
use Rattle.steps.proofs.Search.{walking}
use Rattle.attest.proofs.tpms.TpmsSessionAuditInfoTpmMarshal.walk.Goals as goal

pub returns : goal.returns
unfolding tpms_session_audit_info
returns c = search walking
