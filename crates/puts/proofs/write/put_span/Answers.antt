-- A span that has a size has its bytes, and those are put; one that has none is refused with the same words. Assumes nothing.
use Rattle.wire.proofs.Cuts.{sized_part}
use Rattle.puts.proofs.write.put_span.Goals as goal

pub returns : goal.returns
returns c = rw (sized_part _ _ _ _ c.in_ok-measure.ensures, ← c.part.ensures.part) c.put_bytes.ensures
