-- The arm that the selector chooses is empty, or holds a hash code and a count, or a hash code as a hash or as Hmac; or there is none. Assumes nothing.
use Rattle.wire.proofs.Search.{finds, refuses, leaves, via, by_whole, chosen, no_arm_due, rests}
use Rattle.codes.specs.Codes.{null, hmac, ecdaa}
use Rattle.format.specs.Kinds.{tpmu_sig_scheme_arm, hash, tpmu_sig_scheme_body, tpmu_sig_scheme}
use Rattle.schemes.specs.Parts.{tpmu_sig_scheme_parts}
use Rattle.schemes.proofs.Arms.{sig_hash}
use Rattle.schemes.proofs.tpmu.TpmuSigSchemeTpmTagged.unmarshal_tagged.Goals as goal

pub returns-in-Null : goal.returns-in-Null
unfolding tpmu_sig_scheme
returns-in-Null c = finds (search (chosen tpmu_sig_scheme_arm tpmu_sig_scheme_body null, rests))

pub returns-in_ok-x-in-Ecdaa : goal.returns-in_ok-x-in-Ecdaa
unfolding tpmu_sig_scheme
returns-in_ok-x-in-Ecdaa c = finds (search (chosen tpmu_sig_scheme_arm tpmu_sig_scheme_body ecdaa, by_whole, c.in_ok-x-in-Ecdaa.ensures, rests))

pub returns-in_err-x-in-Ecdaa : goal.returns-in_err-x-in-Ecdaa
unfolding tpmu_sig_scheme
returns-in_err-x-in-Ecdaa c = leaves tpmu_sig_scheme_parts _ _ c.from_residual.ensures (refuses (search (chosen tpmu_sig_scheme_arm tpmu_sig_scheme_body ecdaa, by_whole, c.in_err-x-in-Ecdaa.ensures, rests)))

pub returns-in_ok-x-in_default : goal.returns-in_ok-x-in_default
unfolding tpmu_sig_scheme
returns-in_ok-x-in_default c = finds (search (chosen tpmu_sig_scheme_arm tpmu_sig_scheme_body hash, sig_hash, by_whole, c.in_ok-x-in_default.ensures, rests))

pub returns-in_err-x-in_default : goal.returns-in_err-x-in_default
unfolding tpmu_sig_scheme
returns-in_err-x-in_default c =
    leaves tpmu_sig_scheme_parts _ _ c.from_residual-in_err-x-in_default.ensures
    (refuses (search (chosen tpmu_sig_scheme_arm tpmu_sig_scheme_body hash, sig_hash, by_whole, c.in_err-x-in_default.ensures, rests)))

pub returns-in_ok-hmac-in-Hmac : goal.returns-in_ok-hmac-in-Hmac
unfolding tpmu_sig_scheme
returns-in_ok-hmac-in-Hmac c = finds (search (chosen tpmu_sig_scheme_arm tpmu_sig_scheme_body hmac, by_whole, c.in_ok-hmac-in-Hmac.ensures, rests))

pub returns-in_err-hmac-in-Hmac : goal.returns-in_err-hmac-in-Hmac
unfolding tpmu_sig_scheme
returns-in_err-hmac-in-Hmac c =
    leaves tpmu_sig_scheme_parts _ _ c.from_residual-in_err-hmac-in-Hmac.ensures
    (refuses (search (chosen tpmu_sig_scheme_arm tpmu_sig_scheme_body hmac, by_whole, c.in_err-hmac-in-Hmac.ensures, rests)))

pub returns-in-None : goal.returns-in-None
unfolding tpmu_sig_scheme
returns-in-None c = search (no_arm_due tpmu_sig_scheme_arm tpmu_sig_scheme_body, via)
