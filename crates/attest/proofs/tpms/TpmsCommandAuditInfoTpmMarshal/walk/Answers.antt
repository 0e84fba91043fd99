-- Its fields, one behind the other. Assumes nothing.
use Rattle.format.specs.Kinds.{tpms_command_audit_info}
use Rattle.steps.proofs.Search.{walking}
use Rattle.attest.proofs.tpms.TpmsCommandAuditInfoTpmMarshal.walk.Goals as goal

pub returns : goal.returns
unfolding tpms_command_audit_info
returns c = search walking
