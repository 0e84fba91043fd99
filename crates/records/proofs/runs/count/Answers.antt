-- No kind first; else as the records are counted. Assumes nothing.
use mathlib.Core.Path.{refl}
use Rattle.format.proofs.Numbered.{decoded_kind}
use Rattle.wire.proofs.Search.{leaves_as}
use Rattle.wire.proofs.Stand.{bytes_of}
use Rattle.records.specs.Runs.{CountsRow}
use Rattle.records.proofs.RowLoops.{no_kind_counted}
use Rattle.records.proofs.Divided.{counts_row}
use Rattle.records.proofs.runs.count.Goals as goal

pub returns-in_err-try_from : goal.returns-in_err-try_from
returns-in_err-try_from c =
    let a = c.args in
    let (told, none) = c.in_err-try_from.ensures in
    leaves_as (λ r. CountsRow a.kind a.s.now r) _ _ c.from_residual.ensures
    (counts_row _ _ _ (bytes_of a.s.now (λ i. (c.type_inv.s i).fits)) (no_kind_counted _ _ told refl none))

pub count_records-requires : goal.count_records-requires
count_records-requires c = decoded_kind _ _ c.in_ok-try_from.ensures

pub returns : goal.returns
returns c = counts_row _ _ _ (bytes_of c.args.s.now (λ i. (c.type_inv.s i).fits)) c.count_records.ensures
