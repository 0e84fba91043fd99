-- What the kind's own reader answered, in the grammar's words; or there is no such kind. Assumes nothing.
use mathlib.Core.Path.{sym}
use Rattle.wire.proofs.Search.{leaves_as}
use Rattle.wire.proofs.Stand.{bytes_of}
use Rattle.format.proofs.Numbered.{as_kind, no_kind, numbered_is_kind}
use Rattle.records.specs.Ends.{Ends}
use Rattle.records.proofs.Ends.{ends}
use Rattle.records.proofs.kind.record_end.Goals as goal

pub returns-in_err-of : goal.returns-in_err-of
returns-in_err-of c =
    let a = c.args in
    let (told, none) = c.in_err-of.ensures in
    leaves_as (λ r. Ends a.kind a.s.now a.at r) _ _ c.from_residual.ensures
    (ends _ _ _ _ (rw told (no_kind a.kind a.s.now a.at none)) (bytes_of a.s.now (λ i. (c.type_inv.s i).fits)))

pub returns : goal.returns
returns c =
    ends _ _ _ _ (as_kind _ _ (sym c.in_ok-of.ensures) (numbered_is_kind c.in_ok-of.of) c.end_by_kind.ensures)
    (bytes_of c.args.s.now (λ i. (c.type_inv.s i).fits))
