-- The selector is held against the arm's own code. Assumes nothing.
use Rattle.format.specs.Kinds.{tpmu_sym_key_bits_table, tpmu_sym_key_bits_arm}
use Rattle.steps.proofs.Matches.{by_code}
use Rattle.ciphers.specs.Parts.{tpmu_sym_key_bits_parts}
use Rattle.ciphers.proofs.tpmu.TpmuSymKeyBitsTpmTagged.matches_tag.Goals as goal

pub returns-in-Aes : goal.returns-in-Aes
unfolding tpmu_sym_key_bits_arm
returns-in-Aes c = search (by_code tpmu_sym_key_bits_parts tpmu_sym_key_bits_table)

pub returns-in-Sm4 : goal.returns-in-Sm4
unfolding tpmu_sym_key_bits_arm
returns-in-Sm4 c = search (by_code tpmu_sym_key_bits_parts tpmu_sym_key_bits_table)

pub returns-in-Camellia : goal.returns-in-Camellia
unfolding tpmu_sym_key_bits_arm
returns-in-Camellia c = search (by_code tpmu_sym_key_bits_parts tpmu_sym_key_bits_table)

pub returns-in-Xor : goal.returns-in-Xor
unfolding tpmu_sym_key_bits_arm
returns-in-Xor c = search (by_code tpmu_sym_key_bits_parts tpmu_sym_key_bits_table)

pub returns-in-Null : goal.returns-in-Null
unfolding tpmu_sym_key_bits_arm
returns-in-Null c = search (by_code tpmu_sym_key_bits_parts tpmu_sym_key_bits_table)
