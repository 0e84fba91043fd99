-- What was read is written, and read back to its end. Assumes nothing.
use mathlib.Core.Path.{sym, ap}
use Rattle.wire.specs.Answers.{answer}
use Rattle.wire.specs.Reading.{read, end_of}
use Rattle.wire.proofs.Search.{leaves_as}
use Rattle.wire.proofs.Stand.{bytes_of}
use Rattle.roundtrip.specs.Roundtrip.{Rewrites}
use Rattle.roundtrip.proofs.Roundtrip.{read_again, none_again}
use Rattle.roundtrip.proofs.again.again_of.Goals as goal

pub returns-in_err-x : goal.returns-in_err-x
returns-in_err-x g c =
    let a = c.args in
    leaves_as (λ r. Rewrites (read g.T.TpmUnmarshal.layout a.s.now 0) a.s.now a.out.now r a.out.now) _ _ c.from_residual.ensures (none_again _ _ _ _ c.in_err-x.ensures)

pub returns-in_err-end : goal.returns-in_err-end
returns-in_err-end g c =
    let a = c.args in
    let bytes = bytes_of a.s.now (λ i. (c.type_inv.s i).fits) in
    leaves_as (λ r. Rewrites (read g.T.TpmUnmarshal.layout a.s.now 0) a.s.now a.out.now r c.back.new.out) _ _ c.from_residual-in_err-end.ensures
    (read_again _ _ _ _ _ bytes c.in_ok-x.ensures c.back.ensures (ap (λ r. end_of (answer g.T.TpmUnmarshal.parts r)) (sym c.in_err-end.was)))

pub returns : goal.returns
returns g c =
    let bytes = bytes_of c.args.s.now (λ i. (c.type_inv.s i).fits) in
    read_again _ _ _ _ _ bytes c.in_ok-x.ensures c.back.ensures (ap (λ r. end_of (answer g.T.TpmUnmarshal.parts r)) (sym c.in_ok-end.was))
