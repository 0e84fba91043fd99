-- Field by field, what is left to read is the rest of the layout. Assumes nothing.
use Rattle.wire.proofs.Search.{finds, refuses, leaves, reading}
use Rattle.format.specs.Kinds.{tpms_signature_rsa}
use Rattle.signatures.specs.Parts.{tpms_signature_rsa_parts}
use Rattle.signatures.proofs.tpms.TpmsSignatureRsaTpmUnmarshal.unmarshal.Goals as goal

pub returns-in_err-hash : goal.returns-in_err-hash
unfolding tpms_signature_rsa
returns-in_err-hash c = leaves tpms_signature_rsa_parts _ _ c.from_residual.ensures (refuses (search (reading, c.in_err-hash.ensures)))

pub returns-in_err-sig : goal.returns-in_err-sig
unfolding tpms_signature_rsa
returns-in_err-sig c = leaves tpms_signature_rsa_parts _ _ c.from_residual-in_err-sig.ensures (refuses (search (reading, c.in_ok-hash.ensures, c.in_err-sig.ensures)))

pub returns : goal.returns
unfolding tpms_signature_rsa
returns c = finds (search (reading, c.in_ok-hash.ensures, c.in_ok-sig.ensures))
