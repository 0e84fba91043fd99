-- The selector's code chooses the arm that the table has for it, or none. Assumes nothing.
use Rattle.wire.proofs.Search.{finds, refuses, by_whole, in_arm, no_arm_due, rests, leaves}
use Rattle.format.specs.Kinds.{tpmu_public_id_table, tpmu_public_id_arm, tpmu_public_id_body, tpmu_public_id}
use Rattle.codes.proofs.Choices.{none_chosen}
use Rattle.keys.specs.Parts.{tpmu_public_id_parts}
use Rattle.keys.proofs.tpmu.TpmuPublicIdTpmTagged.unmarshal_tagged.Goals as goal

pub returns-in_err-x-in-KeyedHash : goal.returns-in_err-x-in-KeyedHash
unfolding tpmu_public_id tpmu_public_id_arm
returns-in_err-x-in-KeyedHash c = leaves tpmu_public_id_parts _ _ c.from_residual.ensures (refuses (search (in_arm tpmu_public_id, by_whole, c.in_err-x-in-KeyedHash.ensures, rests)))

pub returns-in_ok-x-in-KeyedHash : goal.returns-in_ok-x-in-KeyedHash
unfolding tpmu_public_id tpmu_public_id_arm
returns-in_ok-x-in-KeyedHash c = finds (search (in_arm tpmu_public_id, by_whole, c.in_ok-x-in-KeyedHash.ensures, rests))

pub returns-in_err-x-in-SymCipher : goal.returns-in_err-x-in-SymCipher
unfolding tpmu_public_id tpmu_public_id_arm
returns-in_err-x-in-SymCipher c = leaves tpmu_public_id_parts _ _ c.from_residual-in_err-x-in-SymCipher.ensures (refuses (search (in_arm tpmu_public_id, by_whole, c.in_err-x-in-SymCipher.ensures, rests)))

pub returns-in_ok-x-in-SymCipher : goal.returns-in_ok-x-in-SymCipher
unfolding tpmu_public_id tpmu_public_id_arm
returns-in_ok-x-in-SymCipher c = finds (search (in_arm tpmu_public_id, by_whole, c.in_ok-x-in-SymCipher.ensures, rests))

pub returns-in_err-x-in-Rsa : goal.returns-in_err-x-in-Rsa
unfolding tpmu_public_id tpmu_public_id_arm
returns-in_err-x-in-Rsa c = leaves tpmu_public_id_parts _ _ c.from_residual-in_err-x-in-Rsa.ensures (refuses (search (in_arm tpmu_public_id, by_whole, c.in_err-x-in-Rsa.ensures, rests)))

pub returns-in_ok-x-in-Rsa : goal.returns-in_ok-x-in-Rsa
unfolding tpmu_public_id tpmu_public_id_arm
returns-in_ok-x-in-Rsa c = finds (search (in_arm tpmu_public_id, by_whole, c.in_ok-x-in-Rsa.ensures, rests))

pub returns-in_err-x-in-Ecc : goal.returns-in_err-x-in-Ecc
unfolding tpmu_public_id tpmu_public_id_arm
returns-in_err-x-in-Ecc c = leaves tpmu_public_id_parts _ _ c.from_residual-in_err-x-in-Ecc.ensures (refuses (search (in_arm tpmu_public_id, by_whole, c.in_err-x-in-Ecc.ensures, rests)))

pub returns-in_ok-x-in-Ecc : goal.returns-in_ok-x-in-Ecc
unfolding tpmu_public_id tpmu_public_id_arm
returns-in_ok-x-in-Ecc c = finds (search (in_arm tpmu_public_id, by_whole, c.in_ok-x-in-Ecc.ensures, rests))

pub returns-in-Null : goal.returns-in-Null
unfolding tpmu_public_id tpmu_public_id_arm
returns-in-Null c = finds (search (in_arm tpmu_public_id, rests))

pub returns-in_default : goal.returns-in_default
unfolding tpmu_public_id tpmu_public_id_arm
returns-in_default c = search (no_arm_due tpmu_public_id_arm tpmu_public_id_body, none_chosen tpmu_public_id_table) depth 10
