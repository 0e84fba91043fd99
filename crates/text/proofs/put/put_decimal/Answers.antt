-- One, two and three digits are put at once, and more by counting. Assumes nothing.
use native.Mathlib.Omega.{arith}
use Rattle.text.proofs.Decimals.{decimal_one, decimal_two, decimal_three}
use Rattle.text.proofs.Putting.{stored_one, stored_two, stored_three}
use Rattle.text.proofs.put.put_decimal.Goals as goal

pub returns-then-n-lt10-clause-puts : goal.returns-then-n-lt10-clause-puts
returns-then-n-lt10-clause-puts c =
    rw (← decimal_one c.args.n c.if-n-lt10.true, ← c.figure.ensures)
    (stored_one (omega arith))

pub returns-then-n-lt100-clause-puts : goal.returns-then-n-lt100-clause-puts
returns-then-n-lt100-clause-puts c =
    rw (← decimal_two c.args.n c.if-n-lt10.false c.if-n-lt100.true, ← c.figure-then-n-lt100.ensures, ← c.figure-then-n-lt100-2.ensures)
    (stored_two (omega arith))

pub returns-then-n-lt1000-clause-puts : goal.returns-then-n-lt1000-clause-puts
returns-then-n-lt1000-clause-puts c =
    rw (← decimal_three c.args.n c.if-n-lt100.false c.if-n-lt1000.true, ← c.figure-then-n-lt1000.ensures, ← c.figure-then-n-lt1000-2.ensures, ← c.figure-then-n-lt1000-3.ensures)
    (stored_three (omega arith))
