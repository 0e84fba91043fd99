-- Field by field, what is left to read is the rest of the layout. Assumes nothing.
use Rattle.wire.proofs.Search.{finds, refuses, leaves, reading}
use Rattle.format.specs.Kinds.{tpmt_ha}
use Rattle.ciphers.specs.Parts.{tpmt_ha_parts}
use Rattle.ciphers.proofs.tpmt.TpmtHaTpmUnmarshal.unmarshal.Goals as goal

pub returns-in_err-hash_alg : goal.returns-in_err-hash_alg
unfolding tpmt_ha
returns-in_err-hash_alg c = leaves tpmt_ha_parts _ _ c.from_residual.ensures (refuses (search (reading, c.in_err-hash_alg.ensures)))

pub returns-in_err-digest : goal.returns-in_err-digest
unfolding tpmt_ha
returns-in_err-digest c = leaves tpmt_ha_parts _ _ c.from_residual-in_err-digest.ensures (refuses (search (reading, c.in_ok-hash_alg.ensures, c.in_err-digest.ensures)))

pub returns : goal.returns
unfolding tpmt_ha
returns c = finds (search (reading, c.in_ok-hash_alg.ensures, c.in_ok-digest.ensures))
