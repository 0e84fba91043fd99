-- What the type's own reader answered, in the grammar's words. Assumes nothing.
use Rattle.wire.proofs.Stand.{bytes_of}
use Rattle.records.proofs.Promised.{reads}
use Rattle.records.proofs.read.record_read.Goals as goal

pub returns : goal.returns
returns g c = reads _ _ _ c.unmarshal.ensures (bytes_of c.args.s.now (λ i. (c.type_inv.s i).fits))
