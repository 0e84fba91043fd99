-- The selector's code chooses the arm that the table has for it, or none. Assumes nothing.
use Rattle.wire.proofs.Search.{finds, refuses, by_whole, in_arm, no_arm_due, rests, leaves}
use Rattle.format.specs.Kinds.{tpmu_nv_public2_table, tpmu_nv_public2_arm, tpmu_nv_public2_body, tpmu_nv_public2}
use Rattle.codes.proofs.Choices.{none_chosen}
use Rattle.areas.specs.Parts.{tpmu_nv_public2_parts}
use Rattle.areas.proofs.tpmu.TpmuNvPublic2TpmTagged.unmarshal_tagged.Goals as goal

pub returns-in_err-x-in-NvIndex : goal.returns-in_err-x-in-NvIndex
unfolding tpmu_nv_public2 tpmu_nv_public2_arm
returns-in_err-x-in-NvIndex c = leaves tpmu_nv_public2_parts _ _ c.from_residual.ensures (refuses (search (in_arm tpmu_nv_public2, by_whole, c.in_err-x-in-NvIndex.ensures, rests)))

pub returns-in_ok-x-in-NvIndex : goal.returns-in_ok-x-in-NvIndex
unfolding tpmu_nv_public2 tpmu_nv_public2_arm
returns-in_ok-x-in-NvIndex c = finds (search (in_arm tpmu_nv_public2, by_whole, c.in_ok-x-in-NvIndex.ensures, rests))

pub returns-in_err-x-in-ExternalNv : goal.returns-in_err-x-in-ExternalNv
unfolding tpmu_nv_public2 tpmu_nv_public2_arm
returns-in_err-x-in-ExternalNv c = leaves tpmu_nv_public2_parts _ _ c.from_residual-in_err-x-in-ExternalNv.ensures (refuses (search (in_arm tpmu_nv_public2, by_whole, c.in_err-x-in-ExternalNv.ensures, rests)))

pub returns-in_ok-x-in-ExternalNv : goal.returns-in_ok-x-in-ExternalNv
unfolding tpmu_nv_public2 tpmu_nv_public2_arm
returns-in_ok-x-in-ExternalNv c = finds (search (in_arm tpmu_nv_public2, by_whole, c.in_ok-x-in-ExternalNv.ensures, rests))

pub returns-in_err-x-in-PermanentNv : goal.returns-in_err-x-in-PermanentNv
unfolding tpmu_nv_public2 tpmu_nv_public2_arm
returns-in_err-x-in-PermanentNv c = leaves tpmu_nv_public2_parts _ _ c.from_residual-in_err-x-in-PermanentNv.ensures (refuses (search (in_arm tpmu_nv_public2, by_whole, c.in_err-x-in-PermanentNv.ensures, rests)))

pub returns-in_ok-x-in-PermanentNv : goal.returns-in_ok-x-in-PermanentNv
unfolding tpmu_nv_public2 tpmu_nv_public2_arm
returns-in_ok-x-in-PermanentNv c = finds (search (in_arm tpmu_nv_public2, by_whole, c.in_ok-x-in-PermanentNv.ensures, rests))

pub returns-in_default : goal.returns-in_default
unfolding tpmu_nv_public2 tpmu_nv_public2_arm
returns-in_default c = search (no_arm_due tpmu_nv_public2_arm tpmu_nv_public2_body, none_chosen tpmu_nv_public2_table) depth 9
