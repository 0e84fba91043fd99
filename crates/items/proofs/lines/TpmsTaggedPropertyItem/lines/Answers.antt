-- The lines of its fields, one behind the other. Assumes nothing.
use Rattle.format.specs.Kinds.{tpms_tagged_property}
use Rattle.items.proofs.Items.{listing}
use Rattle.items.proofs.lines.TpmsTaggedPropertyItem.lines.Goals as goal

pub returns : goal.returns
unfolding tpms_tagged_property
returns c = search listing
