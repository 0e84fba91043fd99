-- Judged first; the count is read again from the list. Assumes nothing.
use native.Mathlib.Omega.{arith}
use Rattle.steps.proofs.Reach.{items_legal}
use Rattle.lists.proofs.Lists.{is_list_lem, count_is, count_there, list_short, list_lines_far, list_lined, list_not_lined}
use Rattle.lists.proofs.list.list_lines.Goals as goal

pub returns-then-at-gt65536 : goal.returns-then-at-gt65536
returns-then-at-gt65536 c mode = search list_lines_far

pub items_lines-requires : goal.items_lines-requires
items_lines-requires c = let is = is_list_lem c.args.which c.args.span c.args.src.now c.args.w.at c.in-Ok.ensures.0 c.part-xs.ensures.part in
    let count = count_is c.args.which _ is.legal c.in-Ok-unmarshal.ensures in
    (omega (arith, c.if-at-gt65536.false), list_short c.args.which _ is.legal, items_legal c.args.which _ is.legal count)

pub returns-in-Ok-unmarshal : goal.returns-in-Ok-unmarshal
returns-in-Ok-unmarshal c mode = let is = is_list_lem c.args.which c.args.span c.args.src.now c.args.w.at c.in-Ok.ensures.0 c.part-xs.ensures.part in
    let count = count_is c.args.which _ is.legal c.in-Ok-unmarshal.ensures in
    list_lined c.args.which c.args.span c.args.src.now c.args.w c.args.out.now c.judge_list.ensures (omega (arith, c.if-at-gt65536.false)) c.in-Ok.is is count c.from.ensures c.number_line-v.ensures c.items_lines.ensures c.to_place.ensures

pub returns-in-Err-unmarshal : goal.returns-in-Err-unmarshal
returns-in-Err-unmarshal c mode = let is = is_list_lem c.args.which c.args.span c.args.src.now c.args.w.at c.in-Ok.ensures.0 c.part-xs.ensures.part in
    absurd (count_there c.args.which _ is.legal c.in-Err-unmarshal.ensures)

pub returns-in-Err : goal.returns-in-Err
returns-in-Err c mode = search list_not_lined
