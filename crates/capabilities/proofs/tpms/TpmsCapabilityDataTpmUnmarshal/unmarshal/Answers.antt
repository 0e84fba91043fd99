-- Field by field, what is left to read is the rest of the layout. Assumes nothing.
use Rattle.wire.proofs.Search.{finds, refuses, leaves, reading}
use Rattle.format.specs.Kinds.{tpms_capability_data}
use Rattle.capabilities.specs.Parts.{tpms_capability_data_parts}
use Rattle.capabilities.proofs.tpms.TpmsCapabilityDataTpmUnmarshal.unmarshal.Goals as goal

pub returns-in_err-capability : goal.returns-in_err-capability
unfolding tpms_capability_data
returns-in_err-capability c = leaves tpms_capability_data_parts _ _ c.from_residual.ensures (refuses (search (reading, c.in_err-capability.ensures)))

pub returns-in_err-data : goal.returns-in_err-data
unfolding tpms_capability_data
returns-in_err-data c = leaves tpms_capability_data_parts _ _ c.from_residual-in_err-data.ensures (refuses (search (reading, c.in_ok-capability.ensures, c.in_err-data.ensures)))

pub returns : goal.returns
unfolding tpms_capability_data
returns c = finds (search (reading, c.in_ok-capability.ensures, c.in_ok-data.ensures))
