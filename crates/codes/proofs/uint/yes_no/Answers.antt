-- The test is the rule of the field. Assumes nothing.
use Rattle.wire.specs.Answers.{number_parts}
use Rattle.wire.proofs.Search.{finds, refuses, leaves}
use Rattle.wire.proofs.Judged.{by_rule, judgements}
use Rattle.codes.proofs.Values.{yes_no_allowed, yes_no_not}
use Rattle.codes.proofs.uint.yes_no.Goals as goal

pub returns-then-n-le1 : goal.returns-then-n-le1
returns-then-n-le1 c = finds (search (by_rule, judgements, yes_no_allowed, c.in_ok-n.ensures))

pub returns-else-n-le1 : goal.returns-else-n-le1
returns-else-n-le1 c = refuses (search (by_rule, judgements, yes_no_not, c.in_ok-n.ensures))

pub returns-in_err-n : goal.returns-in_err-n
returns-in_err-n c = leaves number_parts _ _ c.from_residual.ensures (refuses (search (by_rule, judgements, c.in_err-n.ensures)))
