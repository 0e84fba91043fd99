-- The test is the one that `cut` makes, and so the span's end does not wrap. Assumes nothing.
use borrow.Author.Rules.{rules}
use borrow.Author.Tests.{leb-true}
use native.Mathlib.Omega.{arith}
use mathlib.Core.Path.{sym, ◌∙◌}
use Rattle.wire.proofs.Cuts.{part_there, part_out, stands_there, stands_out}
use Rattle.wire.proofs.span.Span.part.Goals as goal

pub overflow_add-end : goal.overflow_add-end
overflow_add-end c = let within = sym c.inside.ensures ∙ c.if-inside.true in omega (arith, leb-true)

pub slice_bounds-result-end : goal.slice_bounds-result-end
slice_bounds-result-end c = let within = sym c.inside.ensures ∙ c.if-inside.true in omega (arith, leb-true)

pub returns-then-inside : goal.returns-then-inside
returns-then-inside c = let within = sym c.inside.ensures ∙ c.if-inside.true in
    record { part = part_there _ _ _ _ within; place = stands_there _ _ _ _ within (search rules) }

pub returns : goal.returns
returns c = let out = sym c.inside.ensures ∙ c.if-inside.false in
    record { part = part_out _ _ _ 0 out; place = stands_out _ _ _ 0 out (search rules) }
