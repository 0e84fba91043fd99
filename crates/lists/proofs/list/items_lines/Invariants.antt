-- The lines that are left to put from here lead to where those of all items lead from the start. Assumes nothing.
use Prim.Native.Nat.{◌-◌}
use Rattle.steps.specs.Steps.{left_lines}
use Rattle.steps.specs.Walks.{here, put_lines}
use Rattle.lists.proofs.Lists.{Left}
use Rattle.lists.proofs.list.items_lines.Given as goal

abbrev pub invariant-loop : goal.invariant-loop
invariant-loop l = Left l.which (l.count - l.counter) l.xs l.at l.place (here l.v l.out) (put_lines (left_lines l.which l.count l.xs 4 l.place) (here l.initial.v l.initial.out))
