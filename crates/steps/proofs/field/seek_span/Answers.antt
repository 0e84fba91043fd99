-- The first, or one behind it. Assumes nothing.
use Rattle.steps.proofs.Leaves.{seek_first, seek_later}
use Rattle.steps.proofs.field.seek_span.Goals as goal

pub returns-then-index-eq0 : goal.returns-then-index-eq0
returns-then-index-eq0 c = search seek_first

pub returns : goal.returns
returns c = search seek_later
