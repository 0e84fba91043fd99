-- What is left to walk from here is what there was to walk at the start. Assumes nothing.
use Prim.Native.Nat.{◌-◌}
use mathlib.Core.Path.{◌≡◌}
use Rattle.wire.specs.Reading.{read, walk}
use Rattle.format.specs.Kinds.{item_layout}
use Rattle.lists.proofs.list.items_end.Given as goal

abbrev pub invariant-loop : goal.invariant-loop
invariant-loop l = walk (λ s a. read (item_layout l.which) s a) (l.count - l.counter) l.s l.end ≡ walk (λ s a. read (item_layout l.which) s a) l.count l.s l.at
