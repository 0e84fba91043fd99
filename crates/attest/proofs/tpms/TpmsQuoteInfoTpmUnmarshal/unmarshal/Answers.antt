-- Field by field, what is left to read is the rest of the layout. Assumes nothing.
use Rattle.wire.proofs.Search.{finds, refuses, leaves, reading}
use Rattle.format.specs.Kinds.{tpms_quote_info}
use Rattle.attest.specs.Parts.{tpms_quote_info_parts}
use Rattle.attest.proofs.tpms.TpmsQuoteInfoTpmUnmarshal.unmarshal.Goals as goal

pub returns-in_err-pcr_select : goal.returns-in_err-pcr_select
unfolding tpms_quote_info
returns-in_err-pcr_select c = leaves tpms_quote_info_parts _ _ c.from_residual.ensures (refuses (search (reading, c.in_err-pcr_select.ensures)))

pub returns-in_err-pcr_digest : goal.returns-in_err-pcr_digest
unfolding tpms_quote_info
returns-in_err-pcr_digest c = leaves tpms_quote_info_parts _ _ c.from_residual-in_err-pcr_digest.ensures (refuses (search (reading, c.in_ok-pcr_select.ensures, c.in_err-pcr_digest.ensures)))

pub returns : goal.returns
unfolding tpms_quote_info
returns c = finds (search (reading, c.in_ok-pcr_select.ensures, c.in_ok-pcr_digest.ensures))
