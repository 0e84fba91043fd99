-- A code that its list has. Assumes nothing.
use mathlib.Core.Path.{refl}
use Rattle.wire.specs.Layout.{listed}
use Rattle.text.specs.declared.line.Word.TheVariants.{Code}
use Rattle.steps.proofs.Numbers.{aside_numbers}
use Rattle.steps.proofs.walk.Walk.code_aside.Goals as goal

pub returns : goal.returns
returns g c other =
    aside_numbers g.C.Number.width (listed g.C.Code.is_listed) Code _ _ _ _ _ _ _ other (c.number-n.ensures.number, c.number-n.ensures.fits) c.is_listed.ensures c.unknown_code.ensures
    (λ x. rw c.width.ensures at (c.aside.ensures x)) refl
