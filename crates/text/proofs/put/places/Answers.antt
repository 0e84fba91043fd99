-- A turn counts one more digit. Assumes nothing.
use native.Mathlib.Omega.{arith}
use Rattle.text.proofs.Decimals.{counted_more, counted_all, counted_few}
use Rattle.text.proofs.put.places.Goals as goal

pub overflow_add-k : goal.overflow_add-k
overflow_add-k c = omega (arith, counted_few c.loop-rest.invariant (omega arith))

pub loop-rest-preserved : goal.loop-rest-preserved
loop-rest-preserved c = counted_more c.loop-rest.invariant c.loop-rest-test.true

pub returns-clause-count : goal.returns-clause-count
returns-clause-count c = counted_all c.loop-rest.invariant c.loop-rest-test.false

pub returns-clause-few : goal.returns-clause-few
returns-clause-few c = counted_few c.loop-rest.invariant (omega arith)
