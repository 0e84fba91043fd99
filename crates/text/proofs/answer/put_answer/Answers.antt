-- Words with their numbers, and the line's end. Assumes nothing.
use Rattle.text.proofs.Putting.{puts_and}
use Rattle.text.proofs.answer.put_answer.Goals as goal

pub returns-in-Read-clause-puts : goal.returns-in-Read-clause-puts
returns-in-Read-clause-puts c =
    rw c.in-Read.is
    (puts_and c.put_said-a.ensures.puts (puts_and c.put_said-b.ensures.puts (puts_and c.put_said-c.ensures.puts c.put_line_end.ensures)))

pub returns-in-RecordAt-clause-puts : goal.returns-in-RecordAt-clause-puts
returns-in-RecordAt-clause-puts c =
    rw c.in-RecordAt.is
    (puts_and c.put_said-a-in-RecordAt.ensures.puts (puts_and c.put_said-b-in-RecordAt.ensures.puts c.put_line_end-in-RecordAt.ensures))

pub returns-in-Refused-clause-puts : goal.returns-in-Refused-clause-puts
returns-in-Refused-clause-puts c =
    rw (c.in-Refused.is, ← c.number.ensures)
    (puts_and c.put_said-a-in-Refused.ensures.puts
    (puts_and c.put_said-b-in-Refused.ensures.puts
    (puts_and c.put_said-c-in-Refused.ensures.puts
    (puts_and c.put_said-d.ensures.puts
    (puts_and c.put_had-e.ensures.puts c.put_line_end-in-Refused.ensures)))))
