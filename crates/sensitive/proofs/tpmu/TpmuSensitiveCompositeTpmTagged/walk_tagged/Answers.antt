-- The fields of the arm that is held, behind where it is due. Assumes nothing.
use Rattle.format.specs.Kinds.{tpmu_sensitive_composite_arm, tpmu_sensitive_composite_body, tpmu_sensitive_composite}
use Rattle.steps.proofs.Search.{by_arm, walking}
use Rattle.sensitive.specs.Parts.{tpmu_sensitive_composite_parts}
use Rattle.sensitive.proofs.tpmu.TpmuSensitiveCompositeTpmTagged.walk_tagged.Goals as goal

pub returns-in-Rsa : goal.returns-in-Rsa
unfolding tpmu_sensitive_composite
returns-in-Rsa c = search (by_arm tpmu_sensitive_composite_parts tpmu_sensitive_composite_arm tpmu_sensitive_composite_body, walking)

pub returns-in-Ecc : goal.returns-in-Ecc
unfolding tpmu_sensitive_composite
returns-in-Ecc c = search (by_arm tpmu_sensitive_composite_parts tpmu_sensitive_composite_arm tpmu_sensitive_composite_body, walking)

pub returns-in-Bits : goal.returns-in-Bits
unfolding tpmu_sensitive_composite
returns-in-Bits c = search (by_arm tpmu_sensitive_composite_parts tpmu_sensitive_composite_arm tpmu_sensitive_composite_body, walking)

pub returns-in-Sym : goal.returns-in-Sym
unfolding tpmu_sensitive_composite
returns-in-Sym c = search (by_arm tpmu_sensitive_composite_parts tpmu_sensitive_composite_arm tpmu_sensitive_composite_body, walking)
