-- Unique is chosen as the parameters are. Assumes nothing.
use mathlib.Core.Path.{sym, ◌∙◌}
use Rattle.format.proofs.Tables.{id_arm}
use Rattle.format.proofs.arms.public_id_arm.Goals as goal

pub returns : goal.returns
returns c = c.public_parms_arm.ensures ∙ sym (id_arm _)
