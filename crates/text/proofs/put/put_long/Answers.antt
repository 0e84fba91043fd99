-- The fewest digits are the number's text. Assumes nothing.
use native.Mathlib.Omega.{arith}
use Rattle.text.proofs.Decimals.{decimal_puts}
use Rattle.text.proofs.put.put_long.Goals as goal

pub returns-clause-puts : goal.returns-clause-puts
returns-clause-puts c = decimal_puts (omega arith) c.places-k.ensures.count c.put_places.ensures
