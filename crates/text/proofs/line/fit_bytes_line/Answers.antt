-- At once where there is room for any, and else its front beside. Assumes nothing.
use Prim.Native.Nat.{◌+◌, ◌*◌}
use native.Mathlib.Omega.{arith}
use lib.ListN.{length}
use Rattle.text.proofs.Putting.{room_there, fits_at_once}
use Rattle.text.proofs.Hexes.{end_most}
use Rattle.text.proofs.Rows.{bytes_line_length, bytes_line_puts}
use Rattle.text.proofs.line.fit_bytes_line.Goals as goal

pub put_bytes_end-requires : goal.put_bytes_end-requires
put_bytes_end-requires c = omega (arith, room_there _ _ _ _ c.room.ensures c.if-room.true, end_most c.args.xs.now)

pub returns-then-room : goal.returns-then-room
returns-then-room c =
    let a = c.args in
    let xs = a.xs.now in
    fits_at_once (50 + 2 * length xs) (bytes_line_length a.place (length xs) xs) c.room.ensures c.if-room.true
    (bytes_line_puts a.place (length xs) xs c.put_bytes_head-head.ensures.puts c.put_bytes_end.ensures)
