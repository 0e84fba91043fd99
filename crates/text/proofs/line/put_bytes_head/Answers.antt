-- Place and size, and the word behind them. Assumes nothing.
use Rattle.text.proofs.Putting.{puts_and}
use Rattle.text.proofs.line.put_bytes_head.Goals as goal

pub returns-clause-puts : goal.returns-clause-puts
returns-clause-puts c = puts_and c.put_head-head.ensures.puts c.put_text.ensures
