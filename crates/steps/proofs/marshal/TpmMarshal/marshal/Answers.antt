-- It is measured, and then put. Assumes nothing.
use Rattle.steps.proofs.Marshalled.{marshalled}
use Rattle.steps.proofs.marshal.TpmMarshal.marshal.Goals as goal

pub returns : goal.returns
returns g c = marshalled _ _ _ _ _ _ _ _ _ _ _ c.measure.ensures c.ready-w.ensures c.walk.ensures c.answer.ensures
