-- Field by field, what is left to read is the rest of the layout. Assumes nothing.
use Rattle.wire.proofs.Search.{finds, refuses, leaves, reading}
use Rattle.format.specs.Kinds.{tpmt_public}
use Rattle.keys.specs.Parts.{tpmt_public_parts}
use Rattle.keys.proofs.tpmt.TpmtPublicTpmUnmarshal.unmarshal.Goals as goal

pub returns-in_err-object_type : goal.returns-in_err-object_type
unfolding tpmt_public
returns-in_err-object_type c = leaves tpmt_public_parts _ _ c.from_residual.ensures (refuses (search (reading, c.in_err-object_type.ensures) depth 14))

pub returns-in_err-name_alg : goal.returns-in_err-name_alg
unfolding tpmt_public
returns-in_err-name_alg c = leaves tpmt_public_parts _ _ c.from_residual-in_err-name_alg.ensures (refuses (search (reading, c.in_ok-object_type.ensures, c.in_err-name_alg.ensures) depth 14))

pub returns-in_err-attributes : goal.returns-in_err-attributes
unfolding tpmt_public
returns-in_err-attributes c = leaves tpmt_public_parts _ _ c.from_residual-in_err-attributes.ensures (refuses (search (reading, c.in_ok-object_type.ensures, c.in_ok-name_alg.ensures, c.in_err-attributes.ensures) depth 14))

pub returns-in_err-auth_policy : goal.returns-in_err-auth_policy
unfolding tpmt_public
returns-in_err-auth_policy c = leaves tpmt_public_parts _ _ c.from_residual-in_err-auth_policy.ensures (refuses (search (reading, c.in_ok-object_type.ensures, c.in_ok-name_alg.ensures, c.in_ok-attributes.ensures, c.in_err-auth_policy.ensures) depth 14))

pub returns-in_err-parameters : goal.returns-in_err-parameters
unfolding tpmt_public
returns-in_err-parameters c = leaves tpmt_public_parts _ _ c.from_residual-in_err-parameters.ensures (refuses (search (reading, c.in_ok-object_type.ensures, c.in_ok-name_alg.ensures, c.in_ok-attributes.ensures, c.in_ok-auth_policy.ensures, c.in_err-parameters.ensures) depth 14))

pub returns-in_err-unique : goal.returns-in_err-unique
unfolding tpmt_public
returns-in_err-unique c = leaves tpmt_public_parts _ _ c.from_residual-in_err-unique.ensures (refuses (search (reading, c.in_ok-object_type.ensures, c.in_ok-name_alg.ensures, c.in_ok-attributes.ensures, c.in_ok-auth_policy.ensures, c.in_ok-parameters.ensures, c.in_err-unique.ensures) depth 14))

pub returns : goal.returns
unfolding tpmt_public
returns c = finds (search (reading, c.in_ok-object_type.ensures, c.in_ok-name_alg.ensures, c.in_ok-attributes.ensures, c.in_ok-auth_policy.ensures, c.in_ok-parameters.ensures, c.in_ok-unique.ensures) depth 14)
