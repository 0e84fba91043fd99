-- A turn counts one more digit. Assumes nothing.
use Rattle.text.proofs.Decimals.{Counted}
use Rattle.text.proofs.put.places.Given as goal

abbrev pub invariant-loop-rest : goal.invariant-loop-rest
invariant-loop-rest l = Counted l.n l.k l.rest

abbrev pub decreases-loop-rest : goal.decreases-loop-rest
decreases-loop-rest l = l.rest
