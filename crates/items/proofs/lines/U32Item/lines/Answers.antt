-- The lines of its fields, one behind the other. Assumes nothing.
use Rattle.items.proofs.Items.{listing}
use Rattle.items.proofs.lines.U32Item.lines.Goals as goal

pub returns : goal.returns
returns c = search listing
