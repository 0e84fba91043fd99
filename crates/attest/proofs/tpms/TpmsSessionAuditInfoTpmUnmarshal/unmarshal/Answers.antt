-- Field by field, what is left to read is the rest of the layout. Assumes nothing.
use Rattle.wire.proofs.Search.{finds, refuses, leaves, reading}
use Rattle.format.specs.Kinds.{tpms_session_audit_info}
use Rattle.attest.specs.Parts.{tpms_session_audit_info_parts}
use Rattle.attest.proofs.tpms.TpmsSessionAuditInfoTpmUnmarshal.unmarshal.Goals as goal

pub returns-in_err-exclusive_session : goal.returns-in_err-exclusive_session
unfolding tpms_session_audit_info
returns-in_err-exclusive_session c = leaves tpms_session_audit_info_parts _ _ c.from_residual.ensures (refuses (search (reading, c.in_err-exclusive_session.ensures)))

pub returns-in_err-session_digest : goal.returns-in_err-session_digest
unfolding tpms_session_audit_info
returns-in_err-session_digest c = leaves tpms_session_audit_info_parts _ _ c.from_residual-in_err-session_digest.ensures (refuses (search (reading, c.in_ok-exclusive_session.ensures, c.in_err-session_digest.ensures)))

pub returns : goal.returns
unfolding tpms_session_audit_info
returns c = finds (search (reading, c.in_ok-exclusive_session.ensures, c.in_ok-session_digest.ensures))
