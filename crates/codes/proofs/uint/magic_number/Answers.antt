-- The test is the rule of the field. Assumes nothing.
use Rattle.wire.specs.Answers.{number_parts}
use Rattle.wire.proofs.Search.{finds, refuses, leaves}
use Rattle.wire.proofs.Judged.{by_rule, judgements}
use Rattle.codes.proofs.Values.{magic_allowed, magic_not}
use Rattle.codes.proofs.uint.magic_number.Goals as goal

pub returns-then-n : goal.returns-then-n
returns-then-n c = finds (search (by_rule, judgements, magic_allowed, c.in_ok-n.ensures))

pub returns-else-n : goal.returns-else-n
returns-else-n c = refuses (search (by_rule, judgements, magic_not, c.in_ok-n.ensures))

pub returns-in_err-n : goal.returns-in_err-n
returns-in_err-n c = leaves number_parts _ _ c.from_residual.ensures (refuses (search (by_rule, judgements, c.in_err-n.ensures)))
