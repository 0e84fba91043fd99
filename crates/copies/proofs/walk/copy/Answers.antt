-- It is measured, and then put. Assumes nothing.
use Rattle.wire.proofs.Stand.{bytes_of}
use Rattle.copies.proofs.Walked.{copied}
use Rattle.copies.proofs.walk.copy.Goals as goal

pub returns : goal.returns
returns c = copied _ _ _ _ _ _ _ _ (bytes_of c.args.s.now (λ i. (c.type_inv.s i).fits)) c.measure.ensures c.ready-w.ensures c.walk.ensures c.answer.ensures
