-- The span of a list is from its count to where its items end. Assumes nothing.
use mathlib.Core.Path.{sym}
use native.Mathlib.Omega.{arith}
use Rattle.wire.specs.Answers.{span_parts}
use Rattle.wire.specs.Layout.{stop}
use Rattle.wire.proofs.Leaves.{read_stop, list_found, list_refused}
use Rattle.wire.proofs.Search.{leaves}
use Rattle.wire.proofs.Sound.{list_sound, read_sound}
use Rattle.wire.proofs.Stand.{bytes_of}
use Rattle.format.specs.Kinds.{item_layout, most_items}
use Rattle.lists.proofs.list.read_list.Goals as goal

pub overflow_sub-len : goal.overflow_sub-len
overflow_sub-len c =
    let which = c.args.which in
    let bytes = bytes_of c.args.s.now (λ i. (c.type_inv.s i).fits) in
    omega (arith, (list_sound (most_items which) (item_layout which) (read_sound (item_layout which)) _ _ bytes (sym c.in_ok-end.ensures)).ends)

pub returns-in_err-end : goal.returns-in_err-end
returns-in_err-end c = let which = c.args.which in
    leaves span_parts _ _ c.from_residual.ensures (sym (list_refused (most_items which) (item_layout which) stop _ _ c.in_err-end.ensures))

pub returns : goal.returns
returns c = let which = c.args.which in
    rw (c.new.ensures, list_found (most_items which) (item_layout which) stop _ _ c.in_ok-end.ensures, read_stop)
