-- Field by field, what is left to read is the rest of the layout. Assumes nothing.
use Rattle.wire.proofs.Search.{finds, refuses, leaves, reading}
use Rattle.format.specs.Kinds.{tpmt_sig_scheme}
use Rattle.schemes.specs.Parts.{tpmt_sig_scheme_parts}
use Rattle.schemes.proofs.tpmt.TpmtSigSchemeTpmUnmarshal.unmarshal.Goals as goal

pub returns-in_err-scheme : goal.returns-in_err-scheme
unfolding tpmt_sig_scheme
returns-in_err-scheme c = leaves tpmt_sig_scheme_parts _ _ c.from_residual.ensures (refuses (search (reading, c.in_err-scheme.ensures)))

pub returns-in_err-details : goal.returns-in_err-details
unfolding tpmt_sig_scheme
returns-in_err-details c = leaves tpmt_sig_scheme_parts _ _ c.from_residual-in_err-details.ensures (refuses (search (reading, c.in_ok-scheme.ensures, c.in_err-details.ensures)))

pub returns : goal.returns
unfolding tpmt_sig_scheme
returns c = finds (search (reading, c.in_ok-scheme.ensures, c.in_ok-details.ensures))
