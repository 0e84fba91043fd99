-- It is judged. Assumes nothing.
use Rattle.wire.proofs.Stand.{bytes_of}
use Rattle.copies.proofs.Walked.{measured_kind}
use Rattle.copies.proofs.walk.measure.Goals as goal

pub returns : goal.returns
returns c = measured_kind _ _ _ _ _ _ _ (bytes_of c.args.s.now (λ i. (c.type_inv.s i).fits)) c.judging.ensures c.walk.ensures c.answer.ensures
