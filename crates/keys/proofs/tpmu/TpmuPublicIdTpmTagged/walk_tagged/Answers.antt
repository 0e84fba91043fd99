-- The fields of the arm that is held, behind where it is due. Assumes nothing.
use Rattle.format.specs.Kinds.{tpmu_public_id_arm, tpmu_public_id_body, tpmu_public_id}
use Rattle.steps.proofs.Search.{by_arm, walking}
use Rattle.keys.specs.Parts.{tpmu_public_id_parts}
use Rattle.keys.proofs.tpmu.TpmuPublicIdTpmTagged.walk_tagged.Goals as goal

pub returns-in-KeyedHash : goal.returns-in-KeyedHash
unfolding tpmu_public_id
returns-in-KeyedHash c = search (by_arm tpmu_public_id_parts tpmu_public_id_arm tpmu_public_id_body, walking)

pub returns-in-SymCipher : goal.returns-in-SymCipher
unfolding tpmu_public_id
returns-in-SymCipher c = search (by_arm tpmu_public_id_parts tpmu_public_id_arm tpmu_public_id_body, walking)

pub returns-in-Rsa : goal.returns-in-Rsa
unfolding tpmu_public_id
returns-in-Rsa c = search (by_arm tpmu_public_id_parts tpmu_public_id_arm tpmu_public_id_body, walking)

pub returns-in-Ecc : goal.returns-in-Ecc
unfolding tpmu_public_id
returns-in-Ecc c = search (by_arm tpmu_public_id_parts tpmu_public_id_arm tpmu_public_id_body, walking)

pub returns-in-Null : goal.returns-in-Null
unfolding tpmu_public_id
returns-in-Null c = search (by_arm tpmu_public_id_parts tpmu_public_id_arm tpmu_public_id_body, walking)
