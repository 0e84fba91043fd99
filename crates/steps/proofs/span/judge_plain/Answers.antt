-- The length is tested first, then the span. Assumes nothing.
use native.Mathlib.Omega.{arith}
use mathlib.Core.Path.{◌≡◌, sym, ◌∙◌}
use Rattle.wire.specs.Answers.{measure_answer}
use Rattle.wire.proofs.Search.{leaves_as}
use Rattle.steps.specs.Near.{Near}
use Rattle.steps.specs.Steps.{Plain, spell_step}
use Rattle.steps.specs.Walks.{after}
use Rattle.steps.proofs.Judged.{plain_good, plain_wrong, plain_out}
use Rattle.steps.proofs.span.judge_plain.Goals as goal

pub returns-then-len-size : goal.returns-then-len-size
returns-then-len-size c = (rw c.mismatch.ensures (plain_wrong _ _ _ (λ e. c.if-len-size.true (c.len-len.ensures ∙ e))), tt)

pub returns-in_err-measure : goal.returns-in_err-measure
returns-in_err-measure c = let a = c.args in
    leaves_as (λ r. (measure_answer r ≡ after a.at (spell_step (Plain a.size a.span) a.src.now a.at)) × Near r a.at) _ _ c.from_residual.ensures
    (plain_out _ _ _ (sym c.len-len.ensures ∙ c.if-len-size.false) c.in_err-measure.ensures, tt)

pub returns : goal.returns
returns c = (rw c.len-len.ensures (plain_good _ _ _ (sym c.len-len.ensures ∙ c.if-len-size.false) c.in_ok-measure.ensures), let same = c.if-len-size.false in omega arith)
