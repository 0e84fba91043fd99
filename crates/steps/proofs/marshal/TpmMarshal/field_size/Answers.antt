-- The size of the field that was sought. Assumes nothing.
use Rattle.steps.proofs.Found.{sought_size}
use Rattle.steps.proofs.marshal.TpmMarshal.field_size.Goals as goal

pub returns : goal.returns
returns g c = sought_size _ _ _ _ _ _ _ _ _ _ _ c.seeking.ensures c.walk.ensures c.size.ensures
