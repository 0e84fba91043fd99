-- The span is looked for first, then its length is held to the limit. Assumes nothing.
use native.Mathlib.Omega.{arith}
use mathlib.Core.Path.{◌≡◌}
use Rattle.wire.specs.Answers.{measure_answer}
use Rattle.wire.proofs.Search.{leaves_as}
use Rattle.steps.specs.Near.{Near}
use Rattle.steps.specs.Steps.{Buffer, spell_step}
use Rattle.steps.specs.Walks.{after}
use Rattle.steps.proofs.Judged.{buffer_good, buffer_long, buffer_out}
use Rattle.steps.proofs.span.judge_buffer.Goals as goal

pub returns-in_err-len : goal.returns-in_err-len
returns-in_err-len c = let a = c.args in
    leaves_as (λ r. (measure_answer r ≡ after a.at (spell_step (Buffer a.limit a.span) a.src.now a.at)) × Near r a.at) _ _ c.from_residual.ensures (buffer_out _ _ _ _ c.in_err-len.ensures, tt)

pub returns-then-len-limit : goal.returns-then-len-limit
returns-then-len-limit c = (buffer_good _ _ _ c.in_ok-len.ensures (omega arith) (omega arith), omega arith)

pub returns : goal.returns
returns c = (rw (c.too_long.ensures, c.len-size.ensures) (buffer_long _ _ _ c.in_ok-len.ensures (omega arith)), tt)
