-- The list is judged; then its count is there, and the item with the index is walked to. Assumes nothing.
use native.Mathlib.Omega.{arith}
use mathlib.Core.List.{[], ◌∷◌}
use Rattle.wire.specs.Answers.{span_part}
use Rattle.wire.proofs.Search.{leaves_as}
use Rattle.steps.proofs.Reach.{items_legal}
use Rattle.lists.proofs.Lists.{is_list_lem, count_is, count_there}
use Rattle.lists.proofs.Items.{Placed, in_source, item_found, item_refused, no_items, new_span}
use Rattle.lists.proofs.item.item_in.Goals as goal

pub returns-in_err-judge_list : goal.returns-in_err-judge_list
returns-in_err-judge_list c = let both = leaves_as (Placed c.args.which (span_part c.args.list ∷ []) c.args.index c.args.s.now) _ _ c.from_residual.ensures (no_items c.args.which c.args.list c.args.s.now c.args.index c.in_err-judge_list.ensures.0) in
    record { s_value = both.0; place = both.1 }

pub returns-in_err-count : goal.returns-in_err-count
returns-in_err-count c = let is = is_list_lem c.args.which c.args.list c.args.s.now 0 c.in_ok-judge_list.ensures.0 c.part-xs.ensures.part in
    absurd (count_there c.args.which _ is.legal c.in_err-count.ensures)

pub item_at-requires : goal.item_at-requires
item_at-requires c = let is = is_list_lem c.args.which c.args.list c.args.s.now 0 c.in_ok-judge_list.ensures.0 c.part-xs.ensures.part in
    items_legal c.args.which _ is.legal (count_is c.args.which _ is.legal c.in_ok-count.ensures)

pub returns-in_err-inner : goal.returns-in_err-inner
returns-in_err-inner c = let is = is_list_lem c.args.which c.args.list c.args.s.now 0 c.in_ok-judge_list.ensures.0 c.part-xs.ensures.part in
    let count = count_is c.args.which _ is.legal c.in_ok-count.ensures in
    let both = leaves_as (Placed c.args.which (span_part c.args.list ∷ []) c.args.index c.args.s.now) _ _ c.from_residual-in_err-inner.ensures
    (item_refused c.args.which c.args.list c.args.s.now is c.args.index count c.in_err-inner.ensures) in
    record { s_value = both.0; place = both.1 }

pub overflow_add-start : goal.overflow_add-start
overflow_add-start c = let is = is_list_lem c.args.which c.args.list c.args.s.now 0 c.in_ok-judge_list.ensures.0 c.part-xs.ensures.part in
    omega (arith, in_source c.args.which c.args.list c.args.s.now is _ _ c.in_ok-inner.ensures.1, c.start.ensures, c.start-2.ensures, c.well_formed)

pub returns : goal.returns
returns c = let is = is_list_lem c.args.which c.args.list c.args.s.now 0 c.in_ok-judge_list.ensures.0 c.part-xs.ensures.part in
    let count = count_is c.args.which _ is.legal c.in_ok-count.ensures in
    let both = item_found c.args.which c.args.list c.args.s.now is c.args.index count _ _ c.in_ok-inner.ensures (new_span c.new.ensures c.start.ensures c.start-2.ensures c.len.ensures) in
    record { s_value = both.0; place = both.1 }
