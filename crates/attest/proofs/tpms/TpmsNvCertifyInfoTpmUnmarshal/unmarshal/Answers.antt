-- Field by field, what is left to read is the rest of the layout. Assumes nothing.
use Rattle.wire.proofs.Search.{finds, refuses, leaves, reading}
use Rattle.format.specs.Kinds.{tpms_nv_certify_info}
use Rattle.attest.specs.Parts.{tpms_nv_certify_info_parts}
use Rattle.attest.proofs.tpms.TpmsNvCertifyInfoTpmUnmarshal.unmarshal.Goals as goal

pub returns-in_err-index_name : goal.returns-in_err-index_name
unfolding tpms_nv_certify_info
returns-in_err-index_name c = leaves tpms_nv_certify_info_parts _ _ c.from_residual.ensures (refuses (search (reading, c.in_err-index_name.ensures) depth 8))

pub returns-in_err-offset : goal.returns-in_err-offset
unfolding tpms_nv_certify_info
returns-in_err-offset c = leaves tpms_nv_certify_info_parts _ _ c.from_residual-in_err-offset.ensures (refuses (search (reading, c.in_ok-index_name.ensures, c.in_err-offset.ensures) depth 8))

pub returns-in_err-nv_contents : goal.returns-in_err-nv_contents
unfolding tpms_nv_certify_info
returns-in_err-nv_contents c = leaves tpms_nv_certify_info_parts _ _ c.from_residual-in_err-nv_contents.ensures (refuses (search (reading, c.in_ok-index_name.ensures, c.in_ok-offset.ensures, c.in_err-nv_contents.ensures) depth 8))

pub returns : goal.returns
unfolding tpms_nv_certify_info
returns c = finds (search (reading, c.in_ok-index_name.ensures, c.in_ok-offset.ensures, c.in_ok-nv_contents.ensures) depth 8)
