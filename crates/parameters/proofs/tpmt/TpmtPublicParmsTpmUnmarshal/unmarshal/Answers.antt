-- Field by field, what is left to read is the rest of the layout. Assumes nothing.
use Rattle.wire.proofs.Search.{finds, refuses, leaves, reading}
use Rattle.format.specs.Kinds.{tpmt_public_parms}
use Rattle.parameters.specs.Parts.{tpmt_public_parms_parts}
use Rattle.parameters.proofs.tpmt.TpmtPublicParmsTpmUnmarshal.unmarshal.Goals as goal

pub returns-in_err-object_type : goal.returns-in_err-object_type
unfolding tpmt_public_parms
returns-in_err-object_type c = leaves tpmt_public_parms_parts _ _ c.from_residual.ensures (refuses (search (reading, c.in_err-object_type.ensures)))

pub returns-in_err-parameters : goal.returns-in_err-parameters
unfolding tpmt_public_parms
returns-in_err-parameters c = leaves tpmt_public_parms_parts _ _ c.from_residual-in_err-parameters.ensures (refuses (search (reading, c.in_ok-object_type.ensures, c.in_err-parameters.ensures)))

pub returns : goal.returns
unfolding tpmt_public_parms
returns c = finds (search (reading, c.in_ok-object_type.ensures, c.in_ok-parameters.ensures))
