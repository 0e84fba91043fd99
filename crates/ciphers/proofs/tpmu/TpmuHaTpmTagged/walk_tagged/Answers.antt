-- The fields of the arm that is held, behind where it is due. Assumes nothing.
use Rattle.format.specs.Kinds.{tpmu_ha_arm, tpmu_ha_body, tpmu_ha}
use Rattle.steps.proofs.Search.{by_arm, walking}
use Rattle.ciphers.specs.Parts.{tpmu_ha_parts}
use Rattle.ciphers.proofs.Digests.{by_digest}
use Rattle.ciphers.proofs.tpmu.TpmuHaTpmTagged.walk_tagged.Goals as goal

pub returns-in-Null : goal.returns-in-Null
unfolding tpmu_ha
returns-in-Null c = search (by_arm tpmu_ha_parts tpmu_ha_arm tpmu_ha_body, walking)

pub returns-in-Digest : goal.returns-in-Digest
unfolding tpmu_ha
returns-in-Digest c = search by_digest
