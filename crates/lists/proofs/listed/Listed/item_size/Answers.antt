-- The size of an item of the list that was sought. Assumes nothing.
use Rattle.steps.proofs.Found.{listed_size}
use Rattle.lists.proofs.listed.Listed.item_size.Goals as goal

pub returns : goal.returns
returns g c = listed_size (g.Self.Listed.which c.args.self) _ _ _ _ _ _ _ _ _ _ _ c.list_seeking.ensures c.walk-found.ensures (rw c.which.ensures at c.item_size.ensures)
