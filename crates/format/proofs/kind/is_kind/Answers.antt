-- The number is decoded, if it is a kind's. Assumes nothing.
use mathlib.Core.Path.{◌∙◌}
use Rattle.format.proofs.Numbered.{decoded_is_kind}
use Rattle.format.proofs.kind.is_kind.Goals as goal

pub returns : goal.returns
returns c = c.is_ok.ensures.value ∙ decoded_is_kind c.args.number c.try_from.result c.try_from.ensures
