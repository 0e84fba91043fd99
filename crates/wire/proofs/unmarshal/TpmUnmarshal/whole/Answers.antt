-- What was read is judged by what stands behind it. Assumes nothing.
use Rattle.wire.proofs.Search.{leaves}
use Rattle.wire.proofs.Wholes.{whole_found, whole_trailing, whole_refused}
use Rattle.wire.proofs.unmarshal.TpmUnmarshal.whole.Goals as goal

pub returns-in_err-x : goal.returns-in_err-x
returns-in_err-x g c = leaves g.Self.TpmUnmarshal.parts _ _ c.from_residual.ensures (whole_refused _ _ _ c.in_err-x.ensures)

pub returns-in_err-nothing_behind : goal.returns-in_err-nothing_behind
returns-in_err-nothing_behind g c = leaves g.Self.TpmUnmarshal.parts _ _ c.from_residual-in_err-nothing_behind.ensures (whole_trailing _ _ _ c.in_ok-x.ensures c.in_err-nothing_behind.ensures)

pub returns : goal.returns
returns g c = whole_found _ _ _ c.in_ok-x.ensures c.in_ok-nothing_behind.ensures
