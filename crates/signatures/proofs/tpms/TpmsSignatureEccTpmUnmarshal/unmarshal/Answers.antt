-- Field by field, what is left to read is the rest of the layout. Assumes nothing.
use Rattle.wire.proofs.Search.{finds, refuses, leaves, reading}
use Rattle.format.specs.Kinds.{tpms_signature_ecc}
use Rattle.signatures.specs.Parts.{tpms_signature_ecc_parts}
use Rattle.signatures.proofs.tpms.TpmsSignatureEccTpmUnmarshal.unmarshal.Goals as goal

pub returns-in_err-hash : goal.returns-in_err-hash
unfolding tpms_signature_ecc
returns-in_err-hash c = leaves tpms_signature_ecc_parts _ _ c.from_residual.ensures (refuses (search (reading, c.in_err-hash.ensures) depth 8))

pub returns-in_err-signature_r : goal.returns-in_err-signature_r
unfolding tpms_signature_ecc
returns-in_err-signature_r c = leaves tpms_signature_ecc_parts _ _ c.from_residual-in_err-signature_r.ensures (refuses (search (reading, c.in_ok-hash.ensures, c.in_err-signature_r.ensures) depth 8))

pub returns-in_err-signature_s : goal.returns-in_err-signature_s
unfolding tpms_signature_ecc
returns-in_err-signature_s c = leaves tpms_signature_ecc_parts _ _ c.from_residual-in_err-signature_s.ensures (refuses (search (reading, c.in_ok-hash.ensures, c.in_ok-signature_r.ensures, c.in_err-signature_s.ensures) depth 8))

pub returns : goal.returns
unfolding tpms_signature_ecc
returns c = finds (search (reading, c.in_ok-hash.ensures, c.in_ok-signature_r.ensures, c.in_ok-signature_s.ensures) depth 8)
