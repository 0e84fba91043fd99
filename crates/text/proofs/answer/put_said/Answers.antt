-- The word, then the number. Assumes nothing.
use Rattle.text.proofs.Putting.{puts_and}
use Rattle.text.proofs.answer.put_said.Goals as goal

pub returns-clause-puts : goal.returns-clause-puts
returns-clause-puts c = puts_and c.put_text-first.ensures c.put_decimal.ensures.puts
