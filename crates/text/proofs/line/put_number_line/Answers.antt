-- The parts of the line, one behind the other. Assumes nothing.
use Rattle.text.proofs.Rows.{number_line_puts}
use Rattle.text.proofs.line.put_number_line.Goals as goal

pub returns-clause-puts : goal.returns-clause-puts
returns-clause-puts c =
    let a = c.args in
    number_line_puts a.place a.size a.word a.n c.put_head-head.ensures.puts c.put_word-said.ensures.puts c.put_decimal-last.ensures.puts c.put_line_end.ensures
