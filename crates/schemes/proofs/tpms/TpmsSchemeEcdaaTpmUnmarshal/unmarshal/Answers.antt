-- Field by field, what is left to read is the rest of the layout. Assumes nothing.
use Rattle.wire.proofs.Search.{finds, refuses, leaves, reading}
use Rattle.format.specs.Kinds.{tpms_scheme_ecdaa}
use Rattle.schemes.specs.Parts.{tpms_scheme_ecdaa_parts}
use Rattle.schemes.proofs.tpms.TpmsSchemeEcdaaTpmUnmarshal.unmarshal.Goals as goal

pub returns-in_err-hash_alg : goal.returns-in_err-hash_alg
unfolding tpms_scheme_ecdaa
returns-in_err-hash_alg c = leaves tpms_scheme_ecdaa_parts _ _ c.from_residual.ensures (refuses (search (reading, c.in_err-hash_alg.ensures)))

pub returns-in_err-count : goal.returns-in_err-count
unfolding tpms_scheme_ecdaa
returns-in_err-count c = leaves tpms_scheme_ecdaa_parts _ _ c.from_residual-in_err-count.ensures (refuses (search (reading, c.in_ok-hash_alg.ensures, c.in_err-count.ensures)))

pub returns : goal.returns
unfolding tpms_scheme_ecdaa
returns c = finds (search (reading, c.in_ok-hash_alg.ensures, c.in_ok-count.ensures))
