-- Two numbers, and a space between them. Assumes nothing.
use Rattle.text.proofs.Putting.{puts_and}
use Rattle.text.proofs.line.put_head.Goals as goal

pub returns-clause-puts : goal.returns-clause-puts
returns-clause-puts c = puts_and c.put_decimal-first.ensures.puts (puts_and c.put_text-second.ensures c.put_decimal.ensures.puts)
