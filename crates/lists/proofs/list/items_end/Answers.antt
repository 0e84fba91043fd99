-- What is left to walk from here is what there was to walk at the start. Assumes nothing.
use mathlib.Core.Path.{◌∙◌}
use Rattle.wire.specs.Reading.{read}
use Rattle.format.specs.Kinds.{item_layout}
use Rattle.lists.proofs.Lists.{walk_on}
use Rattle.lists.proofs.list.items_end.Goals as goal

pub loop-preserved : goal.loop-preserved
loop-preserved c = let l = c.loop in
    walk_on (λ s a. read (item_layout c.args.which) s a) c.args.s.now c.args.count l.counter l.end c.loop-test.true c.in_ok-end.ensures ∙ l.invariant
