-- Field by field, what is left to read is the rest of the layout. Assumes nothing.
use Rattle.wire.proofs.Search.{finds, refuses, leaves, reading}
use Rattle.format.specs.Kinds.{tpms_alg_property}
use Rattle.items.specs.Parts.{tpms_alg_property_parts}
use Rattle.items.proofs.tpms.TpmsAlgPropertyTpmUnmarshal.unmarshal.Goals as goal

pub returns-in_err-alg : goal.returns-in_err-alg
unfolding tpms_alg_property
returns-in_err-alg c = leaves tpms_alg_property_parts _ _ c.from_residual.ensures (refuses (search (reading, c.in_err-alg.ensures)))

pub returns-in_err-alg_properties : goal.returns-in_err-alg_properties
unfolding tpms_alg_property
returns-in_err-alg_properties c = leaves tpms_alg_property_parts _ _ c.from_residual-in_err-alg_properties.ensures (refuses (search (reading, c.in_ok-alg.ensures, c.in_err-alg_properties.ensures)))

pub returns : goal.returns
unfolding tpms_alg_property
returns c = finds (search (reading, c.in_ok-alg.ensures, c.in_ok-alg_properties.ensures))
