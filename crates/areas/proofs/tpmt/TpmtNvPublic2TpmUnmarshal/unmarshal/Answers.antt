-- Field by field, what is left to read is the rest of the layout. Assumes nothing.
use Rattle.wire.proofs.Search.{finds, refuses, leaves, reading}
use Rattle.format.specs.Kinds.{tpmt_nv_public2}
use Rattle.areas.specs.Parts.{tpmt_nv_public2_parts}
use Rattle.areas.proofs.tpmt.TpmtNvPublic2TpmUnmarshal.unmarshal.Goals as goal

pub returns-in_err-handle_type : goal.returns-in_err-handle_type
unfolding tpmt_nv_public2
returns-in_err-handle_type c = leaves tpmt_nv_public2_parts _ _ c.from_residual.ensures (refuses (search (reading, c.in_err-handle_type.ensures)))

pub returns-in_err-public_area : goal.returns-in_err-public_area
unfolding tpmt_nv_public2
returns-in_err-public_area c = leaves tpmt_nv_public2_parts _ _ c.from_residual-in_err-public_area.ensures (refuses (search (reading, c.in_ok-handle_type.ensures, c.in_err-public_area.ensures)))

pub returns : goal.returns
unfolding tpmt_nv_public2
returns c = finds (search (reading, c.in_ok-handle_type.ensures, c.in_ok-public_area.ensures))
