-- The lines of its fields, one behind the other. Assumes nothing.
use Rattle.format.specs.Kinds.{tpms_alg_property}
use Rattle.items.proofs.Items.{listing}
use Rattle.items.proofs.lines.TpmsAlgPropertyItem.lines.Goals as goal

pub returns : goal.returns
unfolding tpms_alg_property
returns c = search listing
