-- After i turns the first i bytes are put. Assumes nothing.
use Rattle.wire.proofs.Filling.{Copied}
use Rattle.puts.proofs.write.put_bytes.Given as goal

abbrev pub invariant-loop-i : goal.invariant-loop-i
invariant-loop-i l = Copied l.initial.out l.at l.xs l.out l.i
