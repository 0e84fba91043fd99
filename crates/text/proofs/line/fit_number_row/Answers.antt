-- Made beside, and put if it fits. Assumes nothing.
use Rattle.text.proofs.Putting.{made, fits_same}
use Rattle.text.proofs.Rows.{number_line_puts}
use Rattle.text.proofs.line.fit_number_row.Goals as goal

pub returns : goal.returns
returns c =
    let a = c.args in
    fits_same (made (number_line_puts a.place a.size a.word a.n c.put_head-head.ensures.puts c.put_word-said.ensures.puts c.put_decimal-last.ensures.puts c.put_line_end-k.ensures)) c.fit_text.ensures
