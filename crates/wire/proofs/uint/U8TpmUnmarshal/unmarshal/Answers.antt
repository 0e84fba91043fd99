-- The number is the one that was read at that width, and so fits it. Assumes nothing.
use mathlib.Core.Path.{refl}
use Rattle.wire.proofs.Judged.{read_fits}
use Rattle.wire.proofs.uint.U8TpmUnmarshal.unmarshal.Goals as goal

pub overflow_cast-result : goal.overflow_cast-result
overflow_cast-result c = record { fits = read_fits 1 _ _ c.in_ok-n.ensures refl c.type_inv.s }
