-- The field that was sought. Assumes nothing.
use Rattle.steps.proofs.Found.{sought_part}
use Rattle.steps.proofs.marshal.TpmMarshal.field.Goals as goal

pub returns : goal.returns
returns g c = let both = sought_part c.seeking.ensures c.walk.ensures (c.part.ensures.by_index, c.part.ensures.place) in
    record { part = both.0; place = both.1 }
