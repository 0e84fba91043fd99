-- Field by field, what is left to read is the rest of the layout. Assumes nothing.
use Rattle.wire.proofs.Search.{finds, refuses, leaves, reading}
use Rattle.format.specs.Kinds.{tpms_rsa_parms}
use Rattle.parameters.specs.Parts.{tpms_rsa_parms_parts}
use Rattle.parameters.proofs.tpms.TpmsRsaParmsTpmUnmarshal.unmarshal.Goals as goal

pub returns-in_err-symmetric : goal.returns-in_err-symmetric
unfolding tpms_rsa_parms
returns-in_err-symmetric c = leaves tpms_rsa_parms_parts _ _ c.from_residual.ensures (refuses (search (reading, c.in_err-symmetric.ensures) depth 10))

pub returns-in_err-scheme : goal.returns-in_err-scheme
unfolding tpms_rsa_parms
returns-in_err-scheme c = leaves tpms_rsa_parms_parts _ _ c.from_residual-in_err-scheme.ensures (refuses (search (reading, c.in_ok-symmetric.ensures, c.in_err-scheme.ensures) depth 10))

pub returns-in_err-key_bits : goal.returns-in_err-key_bits
unfolding tpms_rsa_parms
returns-in_err-key_bits c = leaves tpms_rsa_parms_parts _ _ c.from_residual-in_err-key_bits.ensures (refuses (search (reading, c.in_ok-symmetric.ensures, c.in_ok-scheme.ensures, c.in_err-key_bits.ensures) depth 10))

pub returns-in_err-exponent : goal.returns-in_err-exponent
unfolding tpms_rsa_parms
returns-in_err-exponent c = leaves tpms_rsa_parms_parts _ _ c.from_residual-in_err-exponent.ensures (refuses (search (reading, c.in_ok-symmetric.ensures, c.in_ok-scheme.ensures, c.in_ok-key_bits.ensures, c.in_err-exponent.ensures) depth 10))

pub returns : goal.returns
unfolding tpms_rsa_parms
returns c = finds (search (reading, c.in_ok-symmetric.ensures, c.in_ok-scheme.ensures, c.in_ok-key_bits.ensures, c.in_ok-exponent.ensures) depth 10)
