-- The test is the one that `cut` makes. Assumes nothing.
use mathlib.Core.Path.{sym, ◌∙◌}
use Rattle.wire.proofs.Cuts.{size_there, size_out}
use Rattle.wire.proofs.span.Span.measure.Goals as goal

pub returns-then-inside : goal.returns-then-inside
returns-then-inside c = size_there _ _ _ _ (sym c.inside.ensures ∙ c.if-inside.true)

pub returns : goal.returns
returns c = rw c.bad_span.ensures (size_out _ _ _ _ (sym c.inside.ensures ∙ c.if-inside.false))
