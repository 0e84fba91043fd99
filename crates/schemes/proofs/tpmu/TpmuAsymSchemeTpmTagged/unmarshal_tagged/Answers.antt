-- The arm that the selector chooses is empty, or holds a hash code and a count, or a hash code alone; or there is none. Assumes nothing.
use Rattle.wire.proofs.Search.{finds, refuses, leaves, via, by_whole, chosen, no_arm_due, rests}
use Rattle.codes.specs.Codes.{null, ecdaa}
use Rattle.format.specs.Kinds.{tpmu_asym_scheme_arm, hash, tpmu_asym_scheme_body, tpmu_asym_scheme}
use Rattle.schemes.specs.Parts.{tpmu_asym_scheme_parts}
use Rattle.schemes.proofs.Arms.{asym_hash}
use Rattle.schemes.proofs.tpmu.TpmuAsymSchemeTpmTagged.unmarshal_tagged.Goals as goal

pub returns-in-Null : goal.returns-in-Null
unfolding tpmu_asym_scheme
returns-in-Null c = finds (search (chosen tpmu_asym_scheme_arm tpmu_asym_scheme_body null, rests))

pub returns-in_ok-x-in-Ecdaa : goal.returns-in_ok-x-in-Ecdaa
unfolding tpmu_asym_scheme
returns-in_ok-x-in-Ecdaa c = finds (search (chosen tpmu_asym_scheme_arm tpmu_asym_scheme_body ecdaa, by_whole, c.in_ok-x-in-Ecdaa.ensures, rests))

pub returns-in_err-x-in-Ecdaa : goal.returns-in_err-x-in-Ecdaa
unfolding tpmu_asym_scheme
returns-in_err-x-in-Ecdaa c = leaves tpmu_asym_scheme_parts _ _ c.from_residual.ensures (refuses (search (chosen tpmu_asym_scheme_arm tpmu_asym_scheme_body ecdaa, by_whole, c.in_err-x-in-Ecdaa.ensures, rests)))

pub returns-in_ok-x-in_default : goal.returns-in_ok-x-in_default
unfolding tpmu_asym_scheme
returns-in_ok-x-in_default c = finds (search (chosen tpmu_asym_scheme_arm tpmu_asym_scheme_body hash, asym_hash, by_whole, c.in_ok-x-in_default.ensures, rests))

pub returns-in_err-x-in_default : goal.returns-in_err-x-in_default
unfolding tpmu_asym_scheme
returns-in_err-x-in_default c =
    leaves tpmu_asym_scheme_parts _ _ c.from_residual-in_err-x-in_default.ensures
    (refuses (search (chosen tpmu_asym_scheme_arm tpmu_asym_scheme_body hash, asym_hash, by_whole, c.in_err-x-in_default.ensures, rests)))

pub returns-in-None : goal.returns-in-None
unfolding tpmu_asym_scheme
returns-in-None c = search (no_arm_due tpmu_asym_scheme_arm tpmu_asym_scheme_body, via)
