-- Two digits a byte, and the end of the line. Assumes nothing.
use Rattle.text.proofs.Hexes.{end_some}
use Rattle.text.proofs.line.bytes_end_size.Goals as goal

pub returns-else-is_empty-clause-size : goal.returns-else-is_empty-clause-size
returns-else-is_empty-clause-size c = end_some c.args.xs.now (λ e. let q = rw e at c.is_empty.ensures in cc)
