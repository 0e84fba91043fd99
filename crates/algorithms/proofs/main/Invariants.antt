-- No more codes are counted than were tried. Assumes nothing.
use Rattle.std.proofs.Common.{◌≤◌}
use Rattle.algorithms.proofs.main.Given as goal

abbrev pub invariant-loop-code : goal.invariant-loop-code
invariant-loop-code l = l.count ≤ l.code
