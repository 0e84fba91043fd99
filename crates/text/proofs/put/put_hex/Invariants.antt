-- The bytes so far are put, two digits each. Assumes nothing.
use Rattle.text.proofs.Hexes.{Paired}
use Rattle.text.proofs.put.put_hex.Given as goal

abbrev pub invariant-loop-x : goal.invariant-loop-x
invariant-loop-x l = Paired l.xs l.initial.out l.at l.out l.end l.x-index
