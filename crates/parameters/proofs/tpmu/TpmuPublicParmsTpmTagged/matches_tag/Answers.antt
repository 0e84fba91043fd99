-- The selector is held against the arm's own code. Assumes nothing.
use Rattle.format.specs.Kinds.{tpmu_public_parms_table, tpmu_public_parms_arm}
use Rattle.steps.proofs.Matches.{by_code}
use Rattle.parameters.specs.Parts.{tpmu_public_parms_parts}
use Rattle.parameters.proofs.tpmu.TpmuPublicParmsTpmTagged.matches_tag.Goals as goal

pub returns-in-KeyedHash : goal.returns-in-KeyedHash
unfolding tpmu_public_parms_arm
returns-in-KeyedHash c = search (by_code tpmu_public_parms_parts tpmu_public_parms_table)

pub returns-in-SymCipher : goal.returns-in-SymCipher
unfolding tpmu_public_parms_arm
returns-in-SymCipher c = search (by_code tpmu_public_parms_parts tpmu_public_parms_table)

pub returns-in-Rsa : goal.returns-in-Rsa
unfolding tpmu_public_parms_arm
returns-in-Rsa c = search (by_code tpmu_public_parms_parts tpmu_public_parms_table)

pub returns-in-Ecc : goal.returns-in-Ecc
unfolding tpmu_public_parms_arm
returns-in-Ecc c = search (by_code tpmu_public_parms_parts tpmu_public_parms_table)

pub returns-in-Null : goal.returns-in-Null
unfolding tpmu_public_parms_arm
returns-in-Null c = search (by_code tpmu_public_parms_parts tpmu_public_parms_table)
