-- Field by field, what is left to read is the rest of the layout. Assumes nothing.
use Rattle.wire.proofs.Search.{finds, refuses, leaves, reading}
use Rattle.format.specs.Kinds.{tpmt_keyedhash_scheme}
use Rattle.parameters.specs.Parts.{tpms_keyedhash_parms_parts}
use Rattle.parameters.proofs.tpms.TpmsKeyedhashParmsTpmUnmarshal.unmarshal.Goals as goal

pub returns-in_err-scheme : goal.returns-in_err-scheme
unfolding tpmt_keyedhash_scheme
returns-in_err-scheme c = leaves tpms_keyedhash_parms_parts _ _ c.from_residual.ensures (refuses (search (reading, c.in_err-scheme.ensures)))

pub returns : goal.returns
unfolding tpmt_keyedhash_scheme
returns c = finds (search (reading, c.in_ok-scheme.ensures))
