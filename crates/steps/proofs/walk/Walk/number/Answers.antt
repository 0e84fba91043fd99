-- Its field takes every number. Assumes nothing.
use Rattle.steps.proofs.Numbers.{free_numbers}
use Rattle.steps.proofs.walk.Walk.number.Goals as goal

pub returns : goal.returns
returns g c = free_numbers g.N.Number.width _ _ _ _ _ (c.number.ensures.number, c.number.ensures.fits) (rw c.width.ensures at c.free.ensures)
