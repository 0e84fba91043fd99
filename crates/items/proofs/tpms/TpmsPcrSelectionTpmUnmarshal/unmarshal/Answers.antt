-- Field by field, what is left to read is the rest of the layout. Assumes nothing.
use Rattle.wire.proofs.Search.{finds, refuses, leaves, reading}
use Rattle.format.specs.Kinds.{tpms_pcr_selection}
use Rattle.items.specs.Parts.{tpms_pcr_selection_parts}
use Rattle.items.proofs.tpms.TpmsPcrSelectionTpmUnmarshal.unmarshal.Goals as goal

pub returns-in_err-hash : goal.returns-in_err-hash
unfolding tpms_pcr_selection
returns-in_err-hash c = leaves tpms_pcr_selection_parts _ _ c.from_residual.ensures (refuses (search (reading, c.in_err-hash.ensures)))

pub returns-in_err-pcr_select : goal.returns-in_err-pcr_select
unfolding tpms_pcr_selection
returns-in_err-pcr_select c = leaves tpms_pcr_selection_parts _ _ c.from_residual-in_err-pcr_select.ensures (refuses (search (reading, c.in_ok-hash.ensures, c.in_err-pcr_select.ensures)))

pub returns : goal.returns
unfolding tpms_pcr_selection
returns c = finds (search (reading, c.in_ok-hash.ensures, c.in_ok-pcr_select.ensures))
