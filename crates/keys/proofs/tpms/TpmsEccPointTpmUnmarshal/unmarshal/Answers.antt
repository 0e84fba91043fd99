-- Field by field, what is left to read is the rest of the layout. Assumes nothing.
use Rattle.wire.proofs.Search.{finds, refuses, leaves, reading}
use Rattle.format.specs.Kinds.{tpms_ecc_point}
use Rattle.keys.specs.Parts.{tpms_ecc_point_parts}
use Rattle.keys.proofs.tpms.TpmsEccPointTpmUnmarshal.unmarshal.Goals as goal

pub returns-in_err-x : goal.returns-in_err-x
unfolding tpms_ecc_point
returns-in_err-x c = leaves tpms_ecc_point_parts _ _ c.from_residual.ensures (refuses (search (reading, c.in_err-x.ensures)))

pub returns-in_err-y : goal.returns-in_err-y
unfolding tpms_ecc_point
returns-in_err-y c = leaves tpms_ecc_point_parts _ _ c.from_residual-in_err-y.ensures (refuses (search (reading, c.in_ok-x.ensures, c.in_err-y.ensures)))

pub returns : goal.returns
unfolding tpms_ecc_point
returns c = finds (search (reading, c.in_ok-x.ensures, c.in_ok-y.ensures))
