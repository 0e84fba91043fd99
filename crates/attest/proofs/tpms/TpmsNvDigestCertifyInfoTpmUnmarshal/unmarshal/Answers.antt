-- Field by field, what is left to read is the rest of the layout. Assumes nothing.
use Rattle.wire.proofs.Search.{finds, refuses, leaves, reading}
use Rattle.format.specs.Kinds.{tpms_nv_digest_certify_info}
use Rattle.attest.specs.Parts.{tpms_nv_digest_certify_info_parts}
use Rattle.attest.proofs.tpms.TpmsNvDigestCertifyInfoTpmUnmarshal.unmarshal.Goals as goal

pub returns-in_err-index_name : goal.returns-in_err-index_name
unfolding tpms_nv_digest_certify_info
returns-in_err-index_name c = leaves tpms_nv_digest_certify_info_parts _ _ c.from_residual.ensures (refuses (search (reading, c.in_err-index_name.ensures)))

pub returns-in_err-nv_digest : goal.returns-in_err-nv_digest
unfolding tpms_nv_digest_certify_info
returns-in_err-nv_digest c = leaves tpms_nv_digest_certify_info_parts _ _ c.from_residual-in_err-nv_digest.ensures (refuses (search (reading, c.in_ok-index_name.ensures, c.in_err-nv_digest.ensures)))

pub returns : goal.returns
unfolding tpms_nv_digest_certify_info
returns c = finds (search (reading, c.in_ok-index_name.ensures, c.in_ok-nv_digest.ensures))
