-- The item of the list that was found. Assumes nothing.
use borrow.Author.Rules.{rules}
use Rattle.wire.specs.Fields.{part_of}
use Rattle.lists.proofs.Items.{list_item, no_item, item_stands, none_stands}
use Rattle.lists.proofs.item.item.Goals as goal

pub returns-in-Ok : goal.returns-in-Ok
returns-in-Ok c = record { part = λ ls told. search (list_item part_of, c.in-Ok.ensures.s_value); place = λ ls told starts. search (item_stands, c.in-Ok.ensures.place) }

pub returns-in-Err : goal.returns-in-Err
returns-in-Err c = record { part = λ ls told. search (list_item part_of, c.in-Err.ensures.s_value); place = λ ls told starts. item_stands c.args.which c.args.w c.args.s.now c.args.index ls told starts _ c.if-w-eq-FOUND.true c.new.ensures c.in-Err.ensures.place (search rules) }

pub returns : goal.returns
returns c = record { part = λ ls told. search (no_item part_of); place = λ ls told starts. none_stands c.args.which c.args.w c.args.s.now c.args.index ls told starts c.if-w-eq-FOUND.false (search rules) }
