-- A width is one byte at least, and eight at most. Assumes nothing.
use Prim.Native.Nat.{◌≤◌}
use native.Mathlib.Omega.{arith}
use Rattle.wire.specs.declared.width.Width.{Width}
use Rattle.wire.specs.declared.width.Width.TheVariants.{One, Two, Four, Eight}
use Rattle.wire.specs.Answers.{width_of}

pub width_range : (w : Width) → (1 ≤ width_of w) × (width_of w ≤ 8)
width_range One = omega arith
width_range Two = omega arith
width_range Four = omega arith
width_range Eight = omega arith
