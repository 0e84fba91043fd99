-- It is judged. Assumes nothing.
use Rattle.steps.proofs.Marshalled.{measured}
use Rattle.steps.proofs.marshal.TpmMarshal.measure.Goals as goal

pub returns : goal.returns
returns g c = measured _ _ _ _ _ _ _ _ _ _ c.judging.ensures c.walk.ensures c.answer.ensures g.Self.TpmMarshal.few
