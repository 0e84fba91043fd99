-- The list is walked over in the part that its span shows, and must fill it. Assumes nothing.
use native.Mathlib.Omega.{arith}
use Rattle.wire.proofs.Search.{leaves_as}
use Rattle.wire.proofs.Stand.{bytes_of}
use Rattle.steps.proofs.Reach.{list_near, list_place}
use Rattle.lists.proofs.Lists.{Judged, list_inside, part_bytes, list_size, list_good, list_trailing, list_no, list_out}
use Rattle.lists.proofs.list.judge_list.Goals as goal

pub returns-in_err-len : goal.returns-in_err-len
returns-in_err-len c = leaves_as (Judged c.args.which c.args.span c.args.src.now c.args.at) _ _ c.from_residual.ensures (list_out c.args.which _ _ _ c.in_err-len.ensures)

pub overflow_add-end : goal.overflow_add-end
overflow_add-end c = omega (arith, list_near c.args.which _ c.in-Ok.ensures)

pub returns-then-e-len : goal.returns-then-e-len
returns-then-e-len c = (list_good c.args.which _ _ _ c.in_ok-len.ensures c.part.ensures.part c.in-Ok.ensures c.if-e-len.true, omega (arith, list_near c.args.which _ c.in-Ok.ensures))

pub overflow_sub-len : goal.overflow_sub-len
overflow_sub-len c = let src = c.args.src.now in
    let bytes = part_bytes src _ _ 0 c.part.ensures.part (bytes_of src (λ i. (c.type_inv.src i).fits)) in
    omega (arith, list_inside c.args.which _ bytes c.in-Ok.ensures, list_size c.args.which _ _ _ c.in_ok-len.ensures c.part.ensures.part)

pub overflow_add-place : goal.overflow_add-place
overflow_add-place c = omega (arith, list_place c.args.which _ c.in-Err.ensures)

pub returns-else-e-len : goal.returns-else-e-len
returns-else-e-len c = (rw c.trailing.ensures (list_trailing c.args.which _ _ _ c.in_ok-len.ensures c.part.ensures.part c.in-Ok.ensures c.if-e-len.false), tt)

pub returns-in-Err : goal.returns-in-Err
returns-in-Err c = (rw c.placed_at.ensures (list_no c.args.which _ _ _ c.in_ok-len.ensures c.part.ensures.part c.in-Err.ensures), tt)
