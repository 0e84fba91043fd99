-- All are counted; where there are cells for them their ends are put, and else nothing is. Assumes nothing.
use native.Mathlib.Omega.{arith}
use mathlib.Core.Path.{sym}
use Rattle.wire.proofs.Search.{leaves_as}
use Rattle.wire.proofs.Stand.{bytes_of}
use Rattle.records.specs.Runs.{DividesRow}
use Rattle.records.proofs.Divided.{cells_enough, cells_too_few, cells_for_none, divides_row, divides_none}
use Rattle.records.proofs.runs.divide.Goals as goal

pub returns-in_err-n : goal.returns-in_err-n
returns-in_err-n c =
    let a = c.args in
    leaves_as (λ r. DividesRow a.kind a.s.now a.ends.now r a.ends.now) _ _ c.from_residual.ensures
    (divides_none a.kind a.s.now a.ends.now (bytes_of a.s.now (λ i. (c.type_inv.s i).fits)) (cells_for_none a.kind a.s.now a.ends.now (sym c.in_err-n.ensures.answer)))

pub put_ends-requires : goal.put_ends-requires
put_ends-requires c = (c.in_ok-n.n, sym c.in_ok-n.ensures.answer, omega arith)

pub returns-then-n-ends : goal.returns-then-n-ends
returns-then-n-ends c =
    let a = c.args in
    divides_row a.kind a.s.now a.ends.now _ _ (bytes_of a.s.now (λ i. (c.type_inv.s i).fits)) (cells_enough a.kind a.s.now a.ends.now (sym c.in_ok-n.ensures.answer) (omega arith)) c.put_ends.ensures

pub returns : goal.returns
returns c =
    let a = c.args in
    divides_none a.kind a.s.now a.ends.now (bytes_of a.s.now (λ i. (c.type_inv.s i).fits)) (cells_too_few a.kind a.s.now a.ends.now (sym c.in_ok-n.ensures.answer) (omega arith) c.no_room.ensures)
