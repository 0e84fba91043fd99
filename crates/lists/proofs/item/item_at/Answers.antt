-- The walk comes to the item, and its reader to its end. Assumes nothing.
use native.Mathlib.Omega.{arith}
use Rattle.wire.proofs.Search.{leaves_as}
use Rattle.wire.proofs.Stand.{bytes_of}
use Rattle.items.proofs.Items.{item_ends}
use Rattle.lists.proofs.Items.{Picked, item_there, item_bad, item_lost, item_none}
use Rattle.lists.proofs.item.item_at.Goals as goal

pub returns-then-index-count : goal.returns-then-index-count
returns-then-index-count c = item_none c.args.which c.args.xs.now c.args.count c.args.index (omega arith) c.requires c.no_field.ensures

pub returns-in_err-start : goal.returns-in_err-start
returns-in_err-start c =
    leaves_as (Picked c.args.which c.args.xs.now c.args.count c.args.index) _ _ c.from_residual.ensures (item_lost c.args.which c.args.xs.now c.args.count c.args.index (omega arith) c.in_err-start.ensures)

pub returns-in_err-end : goal.returns-in_err-end
returns-in_err-end c =
    leaves_as (Picked c.args.which c.args.xs.now c.args.count c.args.index) _ _ c.from_residual-in_err-end.ensures
    (item_bad c.args.which c.args.xs.now c.args.count c.args.index (omega arith) c.in_ok-start.ensures c.in_err-end.ensures)

pub overflow_sub-end : goal.overflow_sub-end
overflow_sub-end c = (item_ends c.args.which c.args.xs.now _ (bytes_of c.args.xs.now (λ i. (c.type_inv.xs i).fits)) c.in_ok-end.ensures).0

pub returns : goal.returns
returns c = item_there c.args.which c.args.xs.now c.args.count c.args.index _ (bytes_of c.args.xs.now (λ i. (c.type_inv.xs i).fits)) (omega arith) c.in_ok-start.ensures c.in_ok-end.ensures c.new.ensures
