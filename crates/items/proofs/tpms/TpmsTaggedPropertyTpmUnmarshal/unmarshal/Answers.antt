-- Field by field, what is left to read is the rest of the layout. Assumes nothing.
use Rattle.wire.proofs.Search.{finds, refuses, leaves, reading}
use Rattle.format.specs.Kinds.{tpms_tagged_property}
use Rattle.items.specs.Parts.{tpms_tagged_property_parts}
use Rattle.items.proofs.tpms.TpmsTaggedPropertyTpmUnmarshal.unmarshal.Goals as goal

pub returns-in_err-property : goal.returns-in_err-property
unfolding tpms_tagged_property
returns-in_err-property c = leaves tpms_tagged_property_parts _ _ c.from_residual.ensures (refuses (search (reading, c.in_err-property.ensures)))

pub returns-in_err-value : goal.returns-in_err-value
unfolding tpms_tagged_property
returns-in_err-value c = leaves tpms_tagged_property_parts _ _ c.from_residual-in_err-value.ensures (refuses (search (reading, c.in_ok-property.ensures, c.in_err-value.ensures)))

pub returns : goal.returns
unfolding tpms_tagged_property
returns c = finds (search (reading, c.in_ok-property.ensures, c.in_ok-value.ensures))
