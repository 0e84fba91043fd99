-- The two bytes as they are read.
use mathlib.Core.Path.{ap, ◌∙◌}
use Rattle.std.specs.Prelude.{Some}
use Rattle.cabinet_list.proofs.Sizes.{size_found, size_short}
use Rattle.cabinet_list.proofs.form.size_in.Goals as goal

pub returns-in-Ok : goal.returns-in-Ok
returns-in-Ok c = ap Some c.from.ensures ∙ size_found _ c.in-Ok.ensures

pub returns-in-Err : goal.returns-in-Err
returns-in-Err c = size_short _ c.in-Err.ensures
