-- What the type's own reader answered, in the grammar's words. Assumes nothing.
use Rattle.wire.proofs.Stand.{bytes_of}
use Rattle.records.proofs.Promised.{reads_whole}
use Rattle.records.proofs.read.record_read_whole.Goals as goal

pub returns : goal.returns
returns g c = reads_whole _ _ _ c.whole.ensures (bytes_of c.args.s.now (λ i. (c.type_inv.s i).fits))
