-- Field by field, what is left to read is the rest of the layout. Assumes nothing.
use Rattle.wire.proofs.Search.{finds, refuses, leaves, reading}
use Rattle.format.specs.Kinds.{tpmt_sym_def}
use Rattle.ciphers.specs.Parts.{tpmt_sym_def_parts}
use Rattle.ciphers.proofs.tpmt.TpmtSymDefTpmUnmarshal.unmarshal.Goals as goal

pub returns-in_err-algorithm : goal.returns-in_err-algorithm
unfolding tpmt_sym_def
returns-in_err-algorithm c = leaves tpmt_sym_def_parts _ _ c.from_residual.ensures (refuses (search (reading, c.in_err-algorithm.ensures) depth 8))

pub returns-in_err-key_bits : goal.returns-in_err-key_bits
unfolding tpmt_sym_def
returns-in_err-key_bits c = leaves tpmt_sym_def_parts _ _ c.from_residual-in_err-key_bits.ensures (refuses (search (reading, c.in_ok-algorithm.ensures, c.in_err-key_bits.ensures) depth 8))

pub returns-in_err-mode : goal.returns-in_err-mode
unfolding tpmt_sym_def
returns-in_err-mode c = leaves tpmt_sym_def_parts _ _ c.from_residual-in_err-mode.ensures (refuses (search (reading, c.in_ok-algorithm.ensures, c.in_ok-key_bits.ensures, c.in_err-mode.ensures) depth 8))

pub returns : goal.returns
unfolding tpmt_sym_def
returns c = finds (search (reading, c.in_ok-algorithm.ensures, c.in_ok-key_bits.ensures, c.in_ok-mode.ensures) depth 8)
