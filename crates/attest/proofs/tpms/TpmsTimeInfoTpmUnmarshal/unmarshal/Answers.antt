-- Field by field, what is left to read is the rest of the layout. Assumes nothing.
use Rattle.wire.proofs.Search.{finds, refuses, leaves, reading}
use Rattle.format.specs.Kinds.{tpms_time_info}
use Rattle.attest.specs.Parts.{tpms_time_info_parts}
use Rattle.attest.proofs.tpms.TpmsTimeInfoTpmUnmarshal.unmarshal.Goals as goal

pub returns-in_err-time : goal.returns-in_err-time
unfolding tpms_time_info
returns-in_err-time c = leaves tpms_time_info_parts _ _ c.from_residual.ensures (refuses (search (reading, c.in_err-time.ensures)))

pub returns-in_err-clock_info : goal.returns-in_err-clock_info
unfolding tpms_time_info
returns-in_err-clock_info c = leaves tpms_time_info_parts _ _ c.from_residual-in_err-clock_info.ensures (refuses (search (reading, c.in_ok-time.ensures, c.in_err-clock_info.ensures)))

pub returns : goal.returns
unfolding tpms_time_info
returns c = finds (search (reading, c.in_ok-time.ensures, c.in_ok-clock_info.ensures))
