-- Field by field, what is left to read is the rest of the layout. Assumes nothing.
use Rattle.wire.proofs.Search.{finds, refuses, leaves, reading}
use Rattle.format.specs.Kinds.{tpms_clock_info}
use Rattle.attest.specs.Parts.{tpms_clock_info_parts}
use Rattle.attest.proofs.tpms.TpmsClockInfoTpmUnmarshal.unmarshal.Goals as goal

pub returns-in_err-clock : goal.returns-in_err-clock
unfolding tpms_clock_info
returns-in_err-clock c = leaves tpms_clock_info_parts _ _ c.from_residual.ensures (refuses (search (reading, c.in_err-clock.ensures) depth 10))

pub returns-in_err-reset_count : goal.returns-in_err-reset_count
unfolding tpms_clock_info
returns-in_err-reset_count c = leaves tpms_clock_info_parts _ _ c.from_residual-in_err-reset_count.ensures (refuses (search (reading, c.in_ok-clock.ensures, c.in_err-reset_count.ensures) depth 10))

pub returns-in_err-restart_count : goal.returns-in_err-restart_count
unfolding tpms_clock_info
returns-in_err-restart_count c = leaves tpms_clock_info_parts _ _ c.from_residual-in_err-restart_count.ensures (refuses (search (reading, c.in_ok-clock.ensures, c.in_ok-reset_count.ensures, c.in_err-restart_count.ensures) depth 10))

pub returns-in_err-safe : goal.returns-in_err-safe
unfolding tpms_clock_info
returns-in_err-safe c = leaves tpms_clock_info_parts _ _ c.from_residual-in_err-safe.ensures (refuses (search (reading, c.in_ok-clock.ensures, c.in_ok-reset_count.ensures, c.in_ok-restart_count.ensures, c.in_err-safe.ensures) depth 10))

pub returns : goal.returns
unfolding tpms_clock_info
returns c = finds (search (reading, c.in_ok-clock.ensures, c.in_ok-reset_count.ensures, c.in_ok-restart_count.ensures, c.in_ok-safe.ensures) depth 10)
