-- The bytes, and the end of the line. Assumes nothing.
use native.Mathlib.Omega.{arith}
use Rattle.text.proofs.Hexes.{end_room}
use Rattle.text.proofs.Putting.{puts_and}
use Rattle.text.proofs.line.put_bytes_end.Goals as goal

pub put_hex-last-requires : goal.put_hex-last-requires
put_hex-last-requires c = omega (arith, c.requires, end_room c.args.xs.now)

pub returns : goal.returns
returns c = puts_and c.put_hex-last.ensures c.put_line_end.ensures
