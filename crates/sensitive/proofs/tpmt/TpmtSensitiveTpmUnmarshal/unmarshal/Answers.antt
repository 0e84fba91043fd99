-- Field by field, what is left to read is the rest of the layout. Assumes nothing.
use Rattle.wire.proofs.Search.{finds, refuses, leaves, reading}
use Rattle.format.specs.Kinds.{tpmt_sensitive}
use Rattle.sensitive.specs.Parts.{tpmt_sensitive_parts}
use Rattle.sensitive.proofs.tpmt.TpmtSensitiveTpmUnmarshal.unmarshal.Goals as goal

pub returns-in_err-sensitive_type : goal.returns-in_err-sensitive_type
unfolding tpmt_sensitive
returns-in_err-sensitive_type c = leaves tpmt_sensitive_parts _ _ c.from_residual.ensures (refuses (search (reading, c.in_err-sensitive_type.ensures) depth 10))

pub returns-in_err-auth_value : goal.returns-in_err-auth_value
unfolding tpmt_sensitive
returns-in_err-auth_value c = leaves tpmt_sensitive_parts _ _ c.from_residual-in_err-auth_value.ensures (refuses (search (reading, c.in_ok-sensitive_type.ensures, c.in_err-auth_value.ensures) depth 10))

pub returns-in_err-seed_value : goal.returns-in_err-seed_value
unfolding tpmt_sensitive
returns-in_err-seed_value c = leaves tpmt_sensitive_parts _ _ c.from_residual-in_err-seed_value.ensures (refuses (search (reading, c.in_ok-sensitive_type.ensures, c.in_ok-auth_value.ensures, c.in_err-seed_value.ensures) depth 10))

pub returns-in_err-sensitive : goal.returns-in_err-sensitive
unfolding tpmt_sensitive
returns-in_err-sensitive c = leaves tpmt_sensitive_parts _ _ c.from_residual-in_err-sensitive.ensures (refuses (search (reading, c.in_ok-sensitive_type.ensures, c.in_ok-auth_value.ensures, c.in_ok-seed_value.ensures, c.in_err-sensitive.ensures) depth 10))

pub returns : goal.returns
unfolding tpmt_sensitive
returns c = finds (search (reading, c.in_ok-sensitive_type.ensures, c.in_ok-auth_value.ensures, c.in_ok-seed_value.ensures, c.in_ok-sensitive.ensures) depth 10)
