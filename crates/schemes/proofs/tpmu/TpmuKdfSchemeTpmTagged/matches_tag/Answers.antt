-- The selector is held against the arm's own code. Assumes nothing.
use Rattle.format.specs.Kinds.{tpmu_kdf_scheme_table, tpmu_kdf_scheme_arm}
use Rattle.steps.proofs.Matches.{by_code}
use Rattle.schemes.specs.Parts.{tpmu_kdf_scheme_parts}
use Rattle.schemes.proofs.tpmu.TpmuKdfSchemeTpmTagged.matches_tag.Goals as goal

pub returns-in-Mgf1 : goal.returns-in-Mgf1
unfolding tpmu_kdf_scheme_arm
returns-in-Mgf1 c = search (by_code tpmu_kdf_scheme_parts tpmu_kdf_scheme_table)

pub returns-in-Kdf1Sp800_56a : goal.returns-in-Kdf1Sp800_56a
unfolding tpmu_kdf_scheme_arm
returns-in-Kdf1Sp800_56a c = search (by_code tpmu_kdf_scheme_parts tpmu_kdf_scheme_table)

pub returns-in-Kdf2 : goal.returns-in-Kdf2
unfolding tpmu_kdf_scheme_arm
returns-in-Kdf2 c = search (by_code tpmu_kdf_scheme_parts tpmu_kdf_scheme_table)

pub returns-in-Kdf1Sp800_108 : goal.returns-in-Kdf1Sp800_108
unfolding tpmu_kdf_scheme_arm
returns-in-Kdf1Sp800_108 c = search (by_code tpmu_kdf_scheme_parts tpmu_kdf_scheme_table)

pub returns-in-Null : goal.returns-in-Null
unfolding tpmu_kdf_scheme_arm
returns-in-Null c = search (by_code tpmu_kdf_scheme_parts tpmu_kdf_scheme_table)
