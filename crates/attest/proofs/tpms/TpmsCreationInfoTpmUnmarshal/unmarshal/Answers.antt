-- Field by field, what is left to read is the rest of the layout. Assumes nothing.
use Rattle.wire.proofs.Search.{finds, refuses, leaves, reading}
use Rattle.format.specs.Kinds.{tpms_creation_info}
use Rattle.attest.specs.Parts.{tpms_creation_info_parts}
use Rattle.attest.proofs.tpms.TpmsCreationInfoTpmUnmarshal.unmarshal.Goals as goal

pub returns-in_err-object_name : goal.returns-in_err-object_name
unfolding tpms_creation_info
returns-in_err-object_name c = leaves tpms_creation_info_parts _ _ c.from_residual.ensures (refuses (search (reading, c.in_err-object_name.ensures)))

pub returns-in_err-creation_hash : goal.returns-in_err-creation_hash
unfolding tpms_creation_info
returns-in_err-creation_hash c = leaves tpms_creation_info_parts _ _ c.from_residual-in_err-creation_hash.ensures (refuses (search (reading, c.in_ok-object_name.ensures, c.in_err-creation_hash.ensures)))

pub returns : goal.returns
unfolding tpms_creation_info
returns c = finds (search (reading, c.in_ok-object_name.ensures, c.in_ok-creation_hash.ensures))
