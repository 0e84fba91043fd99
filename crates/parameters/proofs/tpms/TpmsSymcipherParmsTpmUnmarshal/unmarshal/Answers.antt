-- Field by field, what is left to read is the rest of the layout. Assumes nothing.
use Rattle.wire.proofs.Search.{finds, refuses, leaves, reading}
use Rattle.format.specs.Kinds.{tpmt_sym_def}
use Rattle.parameters.specs.Parts.{tpms_symcipher_parms_parts}
use Rattle.parameters.proofs.tpms.TpmsSymcipherParmsTpmUnmarshal.unmarshal.Goals as goal

pub returns-in_err-sym : goal.returns-in_err-sym
unfolding tpmt_sym_def
returns-in_err-sym c = leaves tpms_symcipher_parms_parts _ _ c.from_residual.ensures (refuses (search (reading, c.in_err-sym.ensures)))

pub returns : goal.returns
unfolding tpmt_sym_def
returns c = finds (search (reading, c.in_ok-sym.ensures))
