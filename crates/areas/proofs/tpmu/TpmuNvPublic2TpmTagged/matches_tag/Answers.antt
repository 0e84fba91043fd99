-- The selector is held against the arm's own code. Assumes nothing.
use mathlib.Core.Path.{refl}
use Rattle.codes.specs.Codes.{ht_nv_index, ht_external_nv, ht_permanent_nv}
use Rattle.format.specs.Kinds.{tpmu_nv_public2_table, tpmu_nv_public2_arm}
use Rattle.steps.proofs.Matches.{by_code}
use Rattle.areas.specs.Parts.{tpmu_nv_public2_parts}
use Rattle.areas.proofs.tpmu.TpmuNvPublic2TpmTagged.matches_tag.Goals as goal

pub returns-in-NvIndex : goal.returns-in-NvIndex
unfolding tpmu_nv_public2_arm
returns-in-NvIndex c = by_code tpmu_nv_public2_parts tpmu_nv_public2_table c.args.tag.0 ht_nv_index _ _ c.in-NvIndex.is refl refl refl

pub returns-in-ExternalNv : goal.returns-in-ExternalNv
unfolding tpmu_nv_public2_arm
returns-in-ExternalNv c = by_code tpmu_nv_public2_parts tpmu_nv_public2_table c.args.tag.0 ht_external_nv _ _ c.in-ExternalNv.is refl refl refl

pub returns-in-PermanentNv : goal.returns-in-PermanentNv
unfolding tpmu_nv_public2_arm
returns-in-PermanentNv c = by_code tpmu_nv_public2_parts tpmu_nv_public2_table c.args.tag.0 ht_permanent_nv _ _ c.in-PermanentNv.is refl refl refl
