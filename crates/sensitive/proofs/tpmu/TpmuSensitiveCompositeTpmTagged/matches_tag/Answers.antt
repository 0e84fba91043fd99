-- The selector is held against the arm's own code. Assumes nothing.
use Rattle.format.specs.Kinds.{tpmu_sensitive_composite_table, tpmu_sensitive_composite_arm}
use Rattle.steps.proofs.Matches.{by_code}
use Rattle.sensitive.specs.Parts.{tpmu_sensitive_composite_parts}
use Rattle.sensitive.proofs.tpmu.TpmuSensitiveCompositeTpmTagged.matches_tag.Goals as goal

pub returns-in-Rsa : goal.returns-in-Rsa
unfolding tpmu_sensitive_composite_arm
returns-in-Rsa c = search (by_code tpmu_sensitive_composite_parts tpmu_sensitive_composite_table)

pub returns-in-Ecc : goal.returns-in-Ecc
unfolding tpmu_sensitive_composite_arm
returns-in-Ecc c = search (by_code tpmu_sensitive_composite_parts tpmu_sensitive_composite_table)

pub returns-in-Bits : goal.returns-in-Bits
unfolding tpmu_sensitive_composite_arm
returns-in-Bits c = search (by_code tpmu_sensitive_composite_parts tpmu_sensitive_composite_table)

pub returns-in-Sym : goal.returns-in-Sym
unfolding tpmu_sensitive_composite_arm
returns-in-Sym c = search (by_code tpmu_sensitive_composite_parts tpmu_sensitive_composite_table)
