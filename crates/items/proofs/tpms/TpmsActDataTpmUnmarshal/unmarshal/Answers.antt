-- Field by field, what is left to read is the rest of the layout. Assumes nothing.
use Rattle.wire.proofs.Search.{finds, refuses, leaves, reading}
use Rattle.format.specs.Kinds.{tpms_act_data}
use Rattle.items.specs.Parts.{tpms_act_data_parts}
use Rattle.items.proofs.tpms.TpmsActDataTpmUnmarshal.unmarshal.Goals as goal

pub returns-in_err-handle : goal.returns-in_err-handle
unfolding tpms_act_data
returns-in_err-handle c = leaves tpms_act_data_parts _ _ c.from_residual.ensures (refuses (search (reading, c.in_err-handle.ensures) depth 8))

pub returns-in_err-timeout : goal.returns-in_err-timeout
unfolding tpms_act_data
returns-in_err-timeout c = leaves tpms_act_data_parts _ _ c.from_residual-in_err-timeout.ensures (refuses (search (reading, c.in_ok-handle.ensures, c.in_err-timeout.ensures) depth 8))

pub returns-in_err-attributes : goal.returns-in_err-attributes
unfolding tpms_act_data
returns-in_err-attributes c = leaves tpms_act_data_parts _ _ c.from_residual-in_err-attributes.ensures (refuses (search (reading, c.in_ok-handle.ensures, c.in_ok-timeout.ensures, c.in_err-attributes.ensures) depth 8))

pub returns : goal.returns
unfolding tpms_act_data
returns c = finds (search (reading, c.in_ok-handle.ensures, c.in_ok-timeout.ensures, c.in_ok-attributes.ensures) depth 8)
