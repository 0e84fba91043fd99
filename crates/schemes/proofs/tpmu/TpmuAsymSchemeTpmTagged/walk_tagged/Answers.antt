-- The fields of the arm that is held, behind where it is due. Assumes nothing.
use Rattle.format.specs.Kinds.{tpmu_asym_scheme_arm, tpmu_asym_scheme_body, tpmu_asym_scheme}
use Rattle.wire.proofs.Search.{is_arm_lem}
use Rattle.steps.proofs.Search.{by_arm, walking}
use Rattle.schemes.specs.Parts.{tpmu_asym_scheme_parts}
use Rattle.schemes.proofs.tpmu.TpmuAsymSchemeTpmTagged.walk_tagged.Goals as goal

pub returns-in-Hash : goal.returns-in-Hash
unfolding tpmu_asym_scheme
returns-in-Hash c = search (by_arm tpmu_asym_scheme_parts tpmu_asym_scheme_arm tpmu_asym_scheme_body, is_arm_lem tpmu_asym_scheme_parts, walking)

pub returns-in-Ecdaa : goal.returns-in-Ecdaa
unfolding tpmu_asym_scheme
returns-in-Ecdaa c = search (by_arm tpmu_asym_scheme_parts tpmu_asym_scheme_arm tpmu_asym_scheme_body, is_arm_lem tpmu_asym_scheme_parts, walking)

pub returns-in-Null : goal.returns-in-Null
unfolding tpmu_asym_scheme
returns-in-Null c = search (by_arm tpmu_asym_scheme_parts tpmu_asym_scheme_arm tpmu_asym_scheme_body, is_arm_lem tpmu_asym_scheme_parts, walking)
