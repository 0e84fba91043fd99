-- After i turns n is what the first i bytes spell; a turn takes one byte more. Assumes nothing.
use Prim.Native.Nat.{◌^◌, ◌<◌}
use mathlib.Core.Path.{◌≡◌}
use lib.ListN.{take, drop}
use Rattle.wire.specs.Bytes.{be}
use Rattle.wire.proofs.read.big_endian.Given as goal

abbrev pub invariant-loop-i : goal.invariant-loop-i
invariant-loop-i l = (l.n < 256 ^ l.i) × (l.n ≡ be (take l.i (drop l.at l.s)))
