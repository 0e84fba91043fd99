-- A turn puts the last digit of those that are left. Assumes nothing.
use Prim.Native.Nat.{◌-◌}
use Rattle.io.specs.Digits.{last_digits}
use Rattle.wire.proofs.Filling.{Filling}
use Rattle.text.proofs.put.put_places.Given as goal

abbrev pub invariant-loop-i : goal.invariant-loop-i
invariant-loop-i l = Filling (last_digits 10) l.initial.out l.at l.k l.n l.out l.rest (l.i - l.at)
