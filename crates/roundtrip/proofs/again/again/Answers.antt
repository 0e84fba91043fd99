-- What the calls of the kind's type answered, in the grammar's words; or there is no such kind. Assumes nothing.
use mathlib.Core.Path.{sym}
use Rattle.wire.proofs.Search.{leaves_as}
use Rattle.wire.proofs.Stand.{bytes_of}
use Rattle.format.proofs.Numbered.{numbered_is_kind}
use Rattle.roundtrip.specs.Roundtrip.{Again}
use Rattle.roundtrip.proofs.Roundtrip.{kind_again, no_kind_again, again}
use Rattle.roundtrip.proofs.again.again.Goals as goal

pub returns-in_err-of : goal.returns-in_err-of
returns-in_err-of c =
    let a = c.args in
    let bytes = bytes_of a.s.now (λ i. (c.type_inv.s i).fits) in
    let (told, none) = c.in_err-of.ensures in
    leaves_as (λ r. Again a.kind a.s.now a.out.now r a.out.now) _ _ c.from_residual.ensures (again _ _ _ _ _ bytes (no_kind_again _ _ _ told none))

pub returns : goal.returns
returns c =
    let bytes = bytes_of c.args.s.now (λ i. (c.type_inv.s i).fits) in
    again _ _ _ _ _ bytes (kind_again _ _ _ _ _ _ (sym c.in_ok-of.ensures) (numbered_is_kind c.in_ok-of.of) c.again_by_kind.ensures)
