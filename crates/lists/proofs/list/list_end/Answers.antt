-- The count is judged, and then its items are walked over. Assumes nothing.
use mathlib.Core.Path.{sym, ◌∙◌}
use native.Mathlib.Omega.{arith}
use Rattle.wire.specs.Reading.{read}
use Rattle.wire.proofs.Leaves.{list_items_lem, list_long, list_short}
use Rattle.wire.proofs.Search.{leaves_measure}
use Rattle.format.specs.Kinds.{item_layout, most_items}
use Rattle.lists.proofs.list.list_end.Goals as goal

pub returns-in_err-count : goal.returns-in_err-count
returns-in_err-count c = let which = c.args.which in
    leaves_measure _ _ c.from_residual.ensures (sym (list_short (most_items which) (λ s a. read (item_layout which) s a) _ _ c.in_err-count.ensures))

pub returns-then-count-most : goal.returns-then-count-most
returns-then-count-most c = let which = c.args.which in
    c.items_end.ensures ∙ sym (list_items_lem (most_items which) (λ s a. read (item_layout which) s a) _ _ c.in_ok-count.ensures (omega (arith, c.most.ensures)))

pub returns : goal.returns
returns c = let which = c.args.which in
    rw (c.too_many_items.ensures, c.from.ensures) (sym (list_long (most_items which) (λ s a. read (item_layout which) s a) _ _ c.in_ok-count.ensures (omega (arith, c.most.ensures))))
