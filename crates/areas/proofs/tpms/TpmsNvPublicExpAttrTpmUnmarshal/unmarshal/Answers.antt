-- Field by field, what is left to read is the rest of the layout. Assumes nothing.
use Rattle.wire.proofs.Search.{finds, refuses, leaves, reading}
use Rattle.format.specs.Kinds.{tpms_nv_public_exp_attr}
use Rattle.areas.specs.Parts.{tpms_nv_public_exp_attr_parts}
use Rattle.areas.proofs.tpms.TpmsNvPublicExpAttrTpmUnmarshal.unmarshal.Goals as goal

pub returns-in_err-nv_index : goal.returns-in_err-nv_index
unfolding tpms_nv_public_exp_attr
returns-in_err-nv_index c = leaves tpms_nv_public_exp_attr_parts _ _ c.from_residual.ensures (refuses (search (reading, c.in_err-nv_index.ensures) depth 10))

pub returns-in_err-name_alg : goal.returns-in_err-name_alg
unfolding tpms_nv_public_exp_attr
returns-in_err-name_alg c = leaves tpms_nv_public_exp_attr_parts _ _ c.from_residual-in_err-name_alg.ensures (refuses (search (reading, c.in_ok-nv_index.ensures, c.in_err-name_alg.ensures) depth 10))

pub returns-in_err-attributes : goal.returns-in_err-attributes
unfolding tpms_nv_public_exp_attr
returns-in_err-attributes c = leaves tpms_nv_public_exp_attr_parts _ _ c.from_residual-in_err-attributes.ensures (refuses (search (reading, c.in_ok-nv_index.ensures, c.in_ok-name_alg.ensures, c.in_err-attributes.ensures) depth 10))

pub returns-in_err-tail : goal.returns-in_err-tail
unfolding tpms_nv_public_exp_attr
returns-in_err-tail c = leaves tpms_nv_public_exp_attr_parts _ _ c.from_residual-in_err-tail.ensures (refuses (search (reading, c.in_ok-nv_index.ensures, c.in_ok-name_alg.ensures, c.in_ok-attributes.ensures, c.in_err-tail.ensures) depth 10))

pub returns : goal.returns
unfolding tpms_nv_public_exp_attr
returns c = finds (search (reading, c.in_ok-nv_index.ensures, c.in_ok-name_alg.ensures, c.in_ok-attributes.ensures, c.in_ok-tail.ensures) depth 10)
