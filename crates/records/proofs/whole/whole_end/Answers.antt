-- What the kind's own reader answered, in the grammar's words; or there is no such kind. Assumes nothing.
use mathlib.Core.Path.{sym, ap}
use Rattle.wire.proofs.Search.{leaves_as}
use Rattle.wire.proofs.Stand.{bytes_of}
use Rattle.wire.specs.Reading.{end_of}
use Rattle.format.proofs.Numbered.{numbered_is_kind}
use Rattle.records.specs.Ends.{WholeEnds}
use Rattle.records.proofs.WholeEnds.{whole_end_lem, as_whole_kind, no_whole_kind}
use Rattle.records.proofs.whole.whole_end.Goals as goal

pub returns-in_err-of : goal.returns-in_err-of
returns-in_err-of c =
    let a = c.args in
    let (told, none) = c.in_err-of.ensures in
    leaves_as (λ r. WholeEnds a.kind a.s.now a.at r) _ _ c.from_residual.ensures
    (whole_end_lem _ _ _ _ (rw told (ap end_of (no_whole_kind a.kind a.s.now a.at none))) (bytes_of a.s.now (λ i. (c.type_inv.s i).fits)))

pub returns : goal.returns
returns c =
    whole_end_lem _ _ _ _ (as_whole_kind _ _ (sym c.in_ok-of.ensures) (numbered_is_kind c.in_ok-of.of) c.whole_end_by_kind.ensures)
    (bytes_of c.args.s.now (λ i. (c.type_inv.s i).fits))
