-- Its front is made beside, and it is put if it fits. Assumes nothing.
use lib.ListN.{length}
use Rattle.text.proofs.Putting.{fits_exactly, made}
use Rattle.text.proofs.Rows.{puts_same, bytes_line_size, bytes_line_puts}
use Rattle.text.proofs.line.fit_bytes_row.Goals as goal

pub returns-then-room : goal.returns-then-room
returns-then-room c =
    let xs = c.args.xs.now in
    let front = c.put_bytes_head-k.ensures.puts in
    let size = bytes_line_size c.args.place (length xs) xs front c.bytes_end_size.ensures.size in
    fits_exactly size c.room.ensures c.if-room.true (bytes_line_puts c.args.place (length xs) xs (puts_same (made front) c.put_text-head.ensures) c.put_bytes_end.ensures)
