-- The fields of the arm that is held, behind where it is due. Assumes nothing.
use Rattle.format.specs.Kinds.{tpmu_kdf_scheme_arm, tpmu_kdf_scheme_body, tpmu_kdf_scheme}
use Rattle.steps.proofs.Search.{by_arm, walking}
use Rattle.schemes.specs.Parts.{tpmu_kdf_scheme_parts}
use Rattle.schemes.proofs.tpmu.TpmuKdfSchemeTpmTagged.walk_tagged.Goals as goal

pub returns-in-Mgf1 : goal.returns-in-Mgf1
unfolding tpmu_kdf_scheme
returns-in-Mgf1 c = search (by_arm tpmu_kdf_scheme_parts tpmu_kdf_scheme_arm tpmu_kdf_scheme_body, walking)

pub returns-in-Kdf1Sp800_56a : goal.returns-in-Kdf1Sp800_56a
unfolding tpmu_kdf_scheme
returns-in-Kdf1Sp800_56a c = search (by_arm tpmu_kdf_scheme_parts tpmu_kdf_scheme_arm tpmu_kdf_scheme_body, walking)

pub returns-in-Kdf2 : goal.returns-in-Kdf2
unfolding tpmu_kdf_scheme
returns-in-Kdf2 c = search (by_arm tpmu_kdf_scheme_parts tpmu_kdf_scheme_arm tpmu_kdf_scheme_body, walking)

pub returns-in-Kdf1Sp800_108 : goal.returns-in-Kdf1Sp800_108
unfolding tpmu_kdf_scheme
returns-in-Kdf1Sp800_108 c = search (by_arm tpmu_kdf_scheme_parts tpmu_kdf_scheme_arm tpmu_kdf_scheme_body, walking)

pub returns-in-Null : goal.returns-in-Null
unfolding tpmu_kdf_scheme
returns-in-Null c = search (by_arm tpmu_kdf_scheme_parts tpmu_kdf_scheme_arm tpmu_kdf_scheme_body, walking)
