-- Put, or aside. Assumes nothing.
use Rattle.wire.specs.Layout.{listed}
use Rattle.steps.proofs.Numbers.{put_numbers, by_aside}
use Rattle.steps.proofs.walk.Walk.code.Goals as goal

pub returns-then-self-eq-PUT : goal.returns-then-self-eq-PUT
returns-then-self-eq-PUT g c =
    put_numbers g.C.Number.width (listed g.C.Code.is_listed) _ _ _ _ _ c.if-self-eq-PUT.true (c.number.ensures.number, c.number.ensures.fits) (rw c.width.ensures at c.put.ensures)

pub returns : goal.returns
returns g c = by_aside _ _ _ _ _ _ _ c.if-self-eq-PUT.false c.code_aside.ensures
