-- Field by field, what is left to read is the rest of the layout. Assumes nothing.
use Rattle.wire.proofs.Search.{finds, refuses, leaves, reading}
use Rattle.areas.specs.Parts.{nv_public_tail_parts}
use Rattle.areas.proofs.tpms.NvPublicTailTpmUnmarshal.unmarshal.Goals as goal

pub returns-in_err-auth_policy : goal.returns-in_err-auth_policy
returns-in_err-auth_policy c = leaves nv_public_tail_parts _ _ c.from_residual.ensures (refuses (search (reading, c.in_err-auth_policy.ensures)))

pub returns-in_err-data_size : goal.returns-in_err-data_size
returns-in_err-data_size c = leaves nv_public_tail_parts _ _ c.from_residual-in_err-data_size.ensures (refuses (search (reading, c.in_ok-auth_policy.ensures, c.in_err-data_size.ensures)))

pub returns : goal.returns
returns c = finds (search (reading, c.in_ok-auth_policy.ensures, c.in_ok-data_size.ensures))
