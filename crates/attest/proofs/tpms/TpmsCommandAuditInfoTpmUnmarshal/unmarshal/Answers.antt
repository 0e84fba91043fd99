-- Field by field, what is left to read is the rest of the layout. Assumes nothing.
use Rattle.wire.proofs.Search.{finds, refuses, leaves, reading}
use Rattle.format.specs.Kinds.{tpms_command_audit_info}
use Rattle.attest.specs.Parts.{tpms_command_audit_info_parts}
use Rattle.attest.proofs.tpms.TpmsCommandAuditInfoTpmUnmarshal.unmarshal.Goals as goal

pub returns-in_err-audit_counter : goal.returns-in_err-audit_counter
unfolding tpms_command_audit_info
returns-in_err-audit_counter c = leaves tpms_command_audit_info_parts _ _ c.from_residual.ensures (refuses (search (reading, c.in_err-audit_counter.ensures) depth 10))

pub returns-in_err-digest_alg : goal.returns-in_err-digest_alg
unfolding tpms_command_audit_info
returns-in_err-digest_alg c = leaves tpms_command_audit_info_parts _ _ c.from_residual-in_err-digest_alg.ensures (refuses (search (reading, c.in_ok-audit_counter.ensures, c.in_err-digest_alg.ensures) depth 10))

pub returns-in_err-audit_digest : goal.returns-in_err-audit_digest
unfolding tpms_command_audit_info
returns-in_err-audit_digest c = leaves tpms_command_audit_info_parts _ _ c.from_residual-in_err-audit_digest.ensures (refuses (search (reading, c.in_ok-audit_counter.ensures, c.in_ok-digest_alg.ensures, c.in_err-audit_digest.ensures) depth 10))

pub returns-in_err-command_digest : goal.returns-in_err-command_digest
unfolding tpms_command_audit_info
returns-in_err-command_digest c = leaves tpms_command_audit_info_parts _ _ c.from_residual-in_err-command_digest.ensures (refuses (search (reading, c.in_ok-audit_counter.ensures, c.in_ok-digest_alg.ensures, c.in_ok-audit_digest.ensures, c.in_err-command_digest.ensures) depth 10))

pub returns : goal.returns
unfolding tpms_command_audit_info
returns c = finds (search (reading, c.in_ok-audit_counter.ensures, c.in_ok-digest_alg.ensures, c.in_ok-audit_digest.ensures, c.in_ok-command_digest.ensures) depth 10)
