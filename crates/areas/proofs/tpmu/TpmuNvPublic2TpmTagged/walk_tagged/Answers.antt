-- The fields of the arm that is held, behind where it is due. Assumes nothing.
use Rattle.format.specs.Kinds.{tpmu_nv_public2_arm, tpmu_nv_public2_body, tpmu_nv_public2}
use Rattle.steps.proofs.Search.{by_arm, walking}
use Rattle.areas.specs.Parts.{tpmu_nv_public2_parts}
use Rattle.areas.proofs.tpmu.TpmuNvPublic2TpmTagged.walk_tagged.Goals as goal

pub returns-in-NvIndex : goal.returns-in-NvIndex
unfolding tpmu_nv_public2
returns-in-NvIndex c = search (by_arm tpmu_nv_public2_parts tpmu_nv_public2_arm tpmu_nv_public2_body, walking)

pub returns-in-ExternalNv : goal.returns-in-ExternalNv
unfolding tpmu_nv_public2
returns-in-ExternalNv c = search (by_arm tpmu_nv_public2_parts tpmu_nv_public2_arm tpmu_nv_public2_body, walking)

pub returns-in-PermanentNv : goal.returns-in-PermanentNv
unfolding tpmu_nv_public2
returns-in-PermanentNv c = search (by_arm tpmu_nv_public2_parts tpmu_nv_public2_arm tpmu_nv_public2_body, walking)
