-- An item of the list that was sought. Assumes nothing.
use Rattle.steps.proofs.Found.{listed_part}
use Rattle.lists.proofs.listed.Listed.item.Goals as goal

pub returns : goal.returns
returns g c =
    let which = g.Self.Listed.which c.args.self in
    let both = listed_part which c.list_seeking.ensures c.walk-found.ensures (rw c.which.ensures at c.item.ensures.part, rw c.which.ensures at c.item.ensures.place) in
    record { part = both.0; place = both.1 }
