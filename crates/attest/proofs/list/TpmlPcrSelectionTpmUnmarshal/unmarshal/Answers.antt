-- Field by field, what is left to read is the rest of the layout. Assumes nothing.
use Rattle.wire.proofs.Search.{finds, refuses, leaves, reading}
use Rattle.format.specs.Kinds.{tpml_pcr_selection}
use Rattle.attest.specs.Parts.{tpml_pcr_selection_parts}
use Rattle.attest.proofs.list.TpmlPcrSelectionTpmUnmarshal.unmarshal.Goals as goal

pub returns-in_err-items : goal.returns-in_err-items
unfolding tpml_pcr_selection
returns-in_err-items c = leaves tpml_pcr_selection_parts _ _ c.from_residual.ensures (refuses (search (reading, c.in_err-items.ensures)))

pub returns : goal.returns
unfolding tpml_pcr_selection
returns c = finds (search (reading, c.in_ok-items.ensures))
