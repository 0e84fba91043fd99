-- Field by field, what is left to read is the rest of the layout. Assumes nothing.
use Rattle.wire.proofs.Search.{finds, refuses, leaves, reading}
use Rattle.format.specs.Kinds.{tpms_tagged_policy}
use Rattle.items.specs.Parts.{tpms_tagged_policy_parts}
use Rattle.items.proofs.tpms.TpmsTaggedPolicyTpmUnmarshal.unmarshal.Goals as goal

pub returns-in_err-handle : goal.returns-in_err-handle
unfolding tpms_tagged_policy
returns-in_err-handle c = leaves tpms_tagged_policy_parts _ _ c.from_residual.ensures (refuses (search (reading, c.in_err-handle.ensures)))

pub returns-in_err-policy_hash : goal.returns-in_err-policy_hash
unfolding tpms_tagged_policy
returns-in_err-policy_hash c = leaves tpms_tagged_policy_parts _ _ c.from_residual-in_err-policy_hash.ensures (refuses (search (reading, c.in_ok-handle.ensures, c.in_err-policy_hash.ensures)))

pub returns : goal.returns
unfolding tpms_tagged_policy
returns c = finds (search (reading, c.in_ok-handle.ensures, c.in_ok-policy_hash.ensures))
