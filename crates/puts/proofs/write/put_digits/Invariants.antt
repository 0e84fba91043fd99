-- A turn puts the last digit of those that are left. Assumes nothing.
use Prim.Native.Nat.{◌-◌}
use Rattle.wire.specs.Bytes.{digits}
use Rattle.wire.proofs.Filling.{Filling}
use Rattle.puts.proofs.write.put_digits.Given as goal

abbrev pub invariant-loop-i : goal.invariant-loop-i
invariant-loop-i l = Filling digits l.initial.out l.at l.w l.n l.out l.m (l.w - l.i)
