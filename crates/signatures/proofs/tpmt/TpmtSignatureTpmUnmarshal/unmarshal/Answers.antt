-- Field by field, what is left to read is the rest of the layout. Assumes nothing.
use Rattle.wire.proofs.Search.{finds, refuses, leaves, reading}
use Rattle.format.specs.Kinds.{tpmt_signature}
use Rattle.signatures.specs.Parts.{tpmt_signature_parts}
use Rattle.signatures.proofs.tpmt.TpmtSignatureTpmUnmarshal.unmarshal.Goals as goal

pub returns-in_err-sig_alg : goal.returns-in_err-sig_alg
unfolding tpmt_signature
returns-in_err-sig_alg c = leaves tpmt_signature_parts _ _ c.from_residual.ensures (refuses (search (reading, c.in_err-sig_alg.ensures)))

pub returns-in_err-signature : goal.returns-in_err-signature
unfolding tpmt_signature
returns-in_err-signature c = leaves tpmt_signature_parts _ _ c.from_residual-in_err-signature.ensures (refuses (search (reading, c.in_ok-sig_alg.ensures, c.in_err-signature.ensures)))

pub returns : goal.returns
unfolding tpmt_signature
returns c = finds (search (reading, c.in_ok-sig_alg.ensures, c.in_ok-signature.ensures))
