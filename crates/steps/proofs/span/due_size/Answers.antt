-- An arm's number is 256 more than its digest's length. Assumes nothing.
use borrow.Author.Rules.{rules}
use Rattle.steps.proofs.Leaves.{due_size_of, due_none}
use Rattle.steps.proofs.span.due_size.Goals as goal

pub returns-then-t-lt-DIGEST : goal.returns-then-t-lt-DIGEST
returns-then-t-lt-DIGEST c = search due_none

pub returns-else-t-lt-DIGEST : goal.returns-else-t-lt-DIGEST
returns-else-t-lt-DIGEST c = search due_size_of

pub returns-in-None : goal.returns-in-None
returns-in-None c = search rules
