-- After i turns the first i bytes are put. Assumes nothing.
use Rattle.wire.proofs.Filling.{Copied}
use Rattle.text.proofs.put.put_text.Given as goal

abbrev pub invariant-loop-i : goal.invariant-loop-i
invariant-loop-i l = Copied l.initial.out l.at l.text l.out l.i
