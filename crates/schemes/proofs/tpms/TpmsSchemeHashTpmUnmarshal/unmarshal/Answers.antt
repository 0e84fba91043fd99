-- Field by field, what is left to read is the rest of the layout. Assumes nothing.
use Rattle.wire.proofs.Search.{finds, refuses, leaves, reading}
use Rattle.format.specs.Kinds.{tpms_scheme_hash}
use Rattle.schemes.specs.Parts.{tpms_scheme_hash_parts}
use Rattle.schemes.proofs.tpms.TpmsSchemeHashTpmUnmarshal.unmarshal.Goals as goal

pub returns-in_err-hash_alg : goal.returns-in_err-hash_alg
unfolding tpms_scheme_hash
returns-in_err-hash_alg c = leaves tpms_scheme_hash_parts _ _ c.from_residual.ensures (refuses (search (reading, c.in_err-hash_alg.ensures)))

pub returns : goal.returns
unfolding tpms_scheme_hash
returns c = finds (search (reading, c.in_ok-hash_alg.ensures))
