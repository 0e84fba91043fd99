-- A buffer is its length and then plain bytes, and each is read by its own leaf. Assumes nothing.
use native.Mathlib.Omega.{arith}
use mathlib.Core.Path.{sym, ◌∙◌}
use Rattle.wire.specs.Answers.{span_parts}
use Rattle.wire.proofs.Search.{leaves}
use Rattle.wire.proofs.Leaves.{buffer_body, buffer_long, buffer_short}
use Rattle.wire.proofs.read.buffer.Goals as goal

pub returns-in_err-n : goal.returns-in_err-n
returns-in_err-n c = leaves span_parts _ _ c.from_residual.ensures (sym (buffer_short _ _ _ _ _ c.in_err-n.ensures))

pub returns-then-len-limit : goal.returns-then-len-limit
returns-then-len-limit c = c.plain.ensures ∙ sym (buffer_body _ _ _ _ _ c.in_ok-n.ensures (omega arith))

pub returns : goal.returns
returns c = rw c.too_long.ensures (sym (buffer_long _ _ _ _ _ c.in_ok-n.ensures (omega arith)))
