-- The lines that are left to put from here lead to where those of all items lead from the start. Assumes nothing.
use Prim.Native.Nat.{◌-◌}
use native.Mathlib.Omega.{arith}
use Rattle.wire.proofs.Stand.{bytes_of}
use Rattle.lists.proofs.Lists.{left_on, left_none, items_ahead}
use Rattle.lists.proofs.list.items_lines.Goals as goal

pub item_lines-requires : goal.item_lines-requires
item_lines-requires c = let l = c.loop in
    let bytes = bytes_of c.args.xs.now (λ i. (c.type_inv.xs i).fits) in
    (c.requires.0, omega (arith, c.requires.1, items_ahead c.args.which (c.args.count - l.counter) c.args.xs.now l.at bytes l.invariant.legal))

pub loop-preserved : goal.loop-preserved
loop-preserved c = let l = c.loop in left_on c.args.which c.args.xs.now c.args.place c.args.count l.counter l.at c.loop-test.true c.item_lines.ensures l.invariant

pub returns : goal.returns
returns c = let l = c.loop in left_none c.args.which c.args.xs.now c.args.place c.args.count l.counter l.at c.loop-test.false l.invariant
