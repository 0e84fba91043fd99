-- Field by field, what is left to read is the rest of the layout. Assumes nothing.
use Rattle.wire.proofs.Search.{finds, refuses, leaves, reading}
use Rattle.format.specs.Kinds.{tpms_ecc_parms}
use Rattle.parameters.specs.Parts.{tpms_ecc_parms_parts}
use Rattle.parameters.proofs.tpms.TpmsEccParmsTpmUnmarshal.unmarshal.Goals as goal

pub returns-in_err-symmetric : goal.returns-in_err-symmetric
unfolding tpms_ecc_parms
returns-in_err-symmetric c = leaves tpms_ecc_parms_parts _ _ c.from_residual.ensures (refuses (search (reading, c.in_err-symmetric.ensures) depth 10))

pub returns-in_err-scheme : goal.returns-in_err-scheme
unfolding tpms_ecc_parms
returns-in_err-scheme c = leaves tpms_ecc_parms_parts _ _ c.from_residual-in_err-scheme.ensures (refuses (search (reading, c.in_ok-symmetric.ensures, c.in_err-scheme.ensures) depth 10))

pub returns-in_err-curve_id : goal.returns-in_err-curve_id
unfolding tpms_ecc_parms
returns-in_err-curve_id c = leaves tpms_ecc_parms_parts _ _ c.from_residual-in_err-curve_id.ensures (refuses (search (reading, c.in_ok-symmetric.ensures, c.in_ok-scheme.ensures, c.in_err-curve_id.ensures) depth 10))

pub returns-in_err-kdf : goal.returns-in_err-kdf
unfolding tpms_ecc_parms
returns-in_err-kdf c = leaves tpms_ecc_parms_parts _ _ c.from_residual-in_err-kdf.ensures (refuses (search (reading, c.in_ok-symmetric.ensures, c.in_ok-scheme.ensures, c.in_ok-curve_id.ensures, c.in_err-kdf.ensures) depth 10))

pub returns : goal.returns
unfolding tpms_ecc_parms
returns c = finds (search (reading, c.in_ok-symmetric.ensures, c.in_ok-scheme.ensures, c.in_ok-curve_id.ensures, c.in_ok-kdf.ensures) depth 10)
