-- Field by field, what is left to read is the rest of the layout. Assumes nothing.
use Rattle.wire.proofs.Search.{finds, refuses, leaves, reading}
use Rattle.format.specs.Kinds.{tpms_certify_info}
use Rattle.attest.specs.Parts.{tpms_certify_info_parts}
use Rattle.attest.proofs.tpms.TpmsCertifyInfoTpmUnmarshal.unmarshal.Goals as goal

pub returns-in_err-name : goal.returns-in_err-name
unfolding tpms_certify_info
returns-in_err-name c = leaves tpms_certify_info_parts _ _ c.from_residual.ensures (refuses (search (reading, c.in_err-name.ensures)))

pub returns-in_err-qualified_name : goal.returns-in_err-qualified_name
unfolding tpms_certify_info
returns-in_err-qualified_name c = leaves tpms_certify_info_parts _ _ c.from_residual-in_err-qualified_name.ensures (refuses (search (reading, c.in_ok-name.ensures, c.in_err-qualified_name.ensures)))

pub returns : goal.returns
unfolding tpms_certify_info
returns c = finds (search (reading, c.in_ok-name.ensures, c.in_ok-qualified_name.ensures))
