-- What was read stands in front, and is no more than there is room for.
use Rattle.std.proofs.Common.{◌≤◌, length}
use Rattle.cabinet_list.proofs.calls.take.Given as goal

abbrev pub invariant-loop : goal.invariant-loop
invariant-loop g l = l.done ≤ length l.buf
