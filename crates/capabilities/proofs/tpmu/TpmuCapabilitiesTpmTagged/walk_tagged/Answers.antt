-- The place where the arm is due, and then its list. Assumes nothing.
use mathlib.Core.Path.{refl}
use Rattle.format.specs.Kinds.{tpmu_capabilities_arm, tpmu_capabilities_body, tpmu_capabilities}
use Rattle.steps.proofs.Search.{by_arm_lists}
use Rattle.capabilities.specs.Parts.{tpmu_capabilities_parts, tpmu_capabilities_lists}
use Rattle.capabilities.proofs.Arms.{arm_walks}
use Rattle.capabilities.proofs.tpmu.TpmuCapabilitiesTpmTagged.walk_tagged.Goals as goal

pub returns : goal.returns
unfolding tpmu_capabilities
returns c = by_arm_lists tpmu_capabilities_parts tpmu_capabilities_lists tpmu_capabilities_arm (λ t. tpmu_capabilities_body t) _ c.args.self c.args.self _ _ _ _ _ _ 2 _ refl c.capabilities_arm.ensures c.matches_tag.ensures c.due-v.ensures refl refl
    (arm_walks c.args.self _ _ _ c.list_of.ensures c.items.ensures c.list.ensures)
