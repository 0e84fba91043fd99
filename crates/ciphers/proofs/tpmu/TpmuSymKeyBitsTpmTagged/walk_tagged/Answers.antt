-- The fields of the arm that is held, behind where it is due. Assumes nothing.
use Rattle.format.specs.Kinds.{tpmu_sym_key_bits_arm, tpmu_sym_key_bits_body, tpmu_sym_key_bits}
use Rattle.steps.proofs.Search.{by_arm, walking}
use Rattle.ciphers.specs.Parts.{tpmu_sym_key_bits_parts}
use Rattle.ciphers.proofs.tpmu.TpmuSymKeyBitsTpmTagged.walk_tagged.Goals as goal

pub returns-in-Aes : goal.returns-in-Aes
unfolding tpmu_sym_key_bits
returns-in-Aes c = search (by_arm tpmu_sym_key_bits_parts tpmu_sym_key_bits_arm tpmu_sym_key_bits_body, walking)

pub returns-in-Sm4 : goal.returns-in-Sm4
unfolding tpmu_sym_key_bits
returns-in-Sm4 c = search (by_arm tpmu_sym_key_bits_parts tpmu_sym_key_bits_arm tpmu_sym_key_bits_body, walking)

pub returns-in-Camellia : goal.returns-in-Camellia
unfolding tpmu_sym_key_bits
returns-in-Camellia c = search (by_arm tpmu_sym_key_bits_parts tpmu_sym_key_bits_arm tpmu_sym_key_bits_body, walking)

pub returns-in-Xor : goal.returns-in-Xor
unfolding tpmu_sym_key_bits
returns-in-Xor c = search (by_arm tpmu_sym_key_bits_parts tpmu_sym_key_bits_arm tpmu_sym_key_bits_body, walking)

pub returns-in-Null : goal.returns-in-Null
unfolding tpmu_sym_key_bits
returns-in-Null c = search (by_arm tpmu_sym_key_bits_parts tpmu_sym_key_bits_arm tpmu_sym_key_bits_body, walking)
