-- The lines of its fields, one behind the other. Assumes nothing.
use Rattle.format.specs.Kinds.{tpms_act_data}
use Rattle.items.proofs.Items.{listing}
use Rattle.items.proofs.lines.TpmsActDataItem.lines.Goals as goal

pub returns : goal.returns
unfolding tpms_act_data
returns c = search listing
