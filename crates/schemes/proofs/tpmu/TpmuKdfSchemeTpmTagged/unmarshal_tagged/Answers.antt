-- The selector's code chooses the arm that the table has for it, or none. Assumes nothing.
use Rattle.wire.proofs.Search.{finds, refuses, by_whole, in_arm, no_arm_due, rests, leaves}
use Rattle.format.specs.Kinds.{tpmu_kdf_scheme_table, tpmu_kdf_scheme_arm, tpmu_kdf_scheme_body, tpmu_kdf_scheme}
use Rattle.codes.proofs.Choices.{none_chosen}
use Rattle.schemes.specs.Parts.{tpmu_kdf_scheme_parts}
use Rattle.schemes.proofs.tpmu.TpmuKdfSchemeTpmTagged.unmarshal_tagged.Goals as goal

pub returns-in_err-x-in-Mgf1 : goal.returns-in_err-x-in-Mgf1
unfolding tpmu_kdf_scheme tpmu_kdf_scheme_arm
returns-in_err-x-in-Mgf1 c = leaves tpmu_kdf_scheme_parts _ _ c.from_residual.ensures (refuses (search (in_arm tpmu_kdf_scheme, by_whole, c.in_err-x-in-Mgf1.ensures, rests)))

pub returns-in_ok-x-in-Mgf1 : goal.returns-in_ok-x-in-Mgf1
unfolding tpmu_kdf_scheme tpmu_kdf_scheme_arm
returns-in_ok-x-in-Mgf1 c = finds (search (in_arm tpmu_kdf_scheme, by_whole, c.in_ok-x-in-Mgf1.ensures, rests))

pub returns-in_err-x-in-Kdf1Sp800_56A : goal.returns-in_err-x-in-Kdf1Sp800_56A
unfolding tpmu_kdf_scheme tpmu_kdf_scheme_arm
returns-in_err-x-in-Kdf1Sp800_56A c = leaves tpmu_kdf_scheme_parts _ _ c.from_residual-in_err-x-in-Kdf1Sp800_56A.ensures (refuses (search (in_arm tpmu_kdf_scheme, by_whole, c.in_err-x-in-Kdf1Sp800_56A.ensures, rests)))

pub returns-in_ok-x-in-Kdf1Sp800_56A : goal.returns-in_ok-x-in-Kdf1Sp800_56A
unfolding tpmu_kdf_scheme tpmu_kdf_scheme_arm
returns-in_ok-x-in-Kdf1Sp800_56A c = finds (search (in_arm tpmu_kdf_scheme, by_whole, c.in_ok-x-in-Kdf1Sp800_56A.ensures, rests))

pub returns-in_err-x-in-Kdf2 : goal.returns-in_err-x-in-Kdf2
unfolding tpmu_kdf_scheme tpmu_kdf_scheme_arm
returns-in_err-x-in-Kdf2 c = leaves tpmu_kdf_scheme_parts _ _ c.from_residual-in_err-x-in-Kdf2.ensures (refuses (search (in_arm tpmu_kdf_scheme, by_whole, c.in_err-x-in-Kdf2.ensures, rests)))

pub returns-in_ok-x-in-Kdf2 : goal.returns-in_ok-x-in-Kdf2
unfolding tpmu_kdf_scheme tpmu_kdf_scheme_arm
returns-in_ok-x-in-Kdf2 c = finds (search (in_arm tpmu_kdf_scheme, by_whole, c.in_ok-x-in-Kdf2.ensures, rests))

pub returns-in_err-x-in-Kdf1Sp800_108 : goal.returns-in_err-x-in-Kdf1Sp800_108
unfolding tpmu_kdf_scheme tpmu_kdf_scheme_arm
returns-in_err-x-in-Kdf1Sp800_108 c = leaves tpmu_kdf_scheme_parts _ _ c.from_residual-in_err-x-in-Kdf1Sp800_108.ensures (refuses (search (in_arm tpmu_kdf_scheme, by_whole, c.in_err-x-in-Kdf1Sp800_108.ensures, rests)))

pub returns-in_ok-x-in-Kdf1Sp800_108 : goal.returns-in_ok-x-in-Kdf1Sp800_108
unfolding tpmu_kdf_scheme tpmu_kdf_scheme_arm
returns-in_ok-x-in-Kdf1Sp800_108 c = finds (search (in_arm tpmu_kdf_scheme, by_whole, c.in_ok-x-in-Kdf1Sp800_108.ensures, rests))

pub returns-in-Null : goal.returns-in-Null
unfolding tpmu_kdf_scheme tpmu_kdf_scheme_arm
returns-in-Null c = finds (search (in_arm tpmu_kdf_scheme, rests))

pub returns-in_default : goal.returns-in_default
unfolding tpmu_kdf_scheme tpmu_kdf_scheme_arm
returns-in_default c = search (no_arm_due tpmu_kdf_scheme_arm tpmu_kdf_scheme_body, none_chosen tpmu_kdf_scheme_table) depth 10
