-- The selector's code chooses the arm that the table has for it, or none. Assumes nothing.
use Rattle.wire.proofs.Search.{finds, refuses, by_whole, in_arm, no_arm_due, rests, leaves}
use Rattle.format.specs.Kinds.{tpmu_sym_key_bits_table, tpmu_sym_key_bits_arm, tpmu_sym_key_bits_body, tpmu_sym_key_bits}
use Rattle.codes.proofs.Choices.{none_chosen}
use Rattle.ciphers.specs.Parts.{tpmu_sym_key_bits_parts}
use Rattle.ciphers.proofs.tpmu.TpmuSymKeyBitsTpmTagged.unmarshal_tagged.Goals as goal

pub returns-in_err-bits-in-Aes : goal.returns-in_err-bits-in-Aes
unfolding tpmu_sym_key_bits tpmu_sym_key_bits_arm
returns-in_err-bits-in-Aes c = leaves tpmu_sym_key_bits_parts _ _ c.from_residual.ensures (refuses (search (in_arm tpmu_sym_key_bits, by_whole, c.in_err-bits-in-Aes.ensures, rests)))

pub returns-in_ok-bits-in-Aes : goal.returns-in_ok-bits-in-Aes
unfolding tpmu_sym_key_bits tpmu_sym_key_bits_arm
returns-in_ok-bits-in-Aes c = finds (search (in_arm tpmu_sym_key_bits, by_whole, c.in_ok-bits-in-Aes.ensures, rests))

pub returns-in_err-bits-in-Sm4 : goal.returns-in_err-bits-in-Sm4
unfolding tpmu_sym_key_bits tpmu_sym_key_bits_arm
returns-in_err-bits-in-Sm4 c = leaves tpmu_sym_key_bits_parts _ _ c.from_residual-in_err-bits-in-Sm4.ensures (refuses (search (in_arm tpmu_sym_key_bits, by_whole, c.in_err-bits-in-Sm4.ensures, rests)))

pub returns-in_ok-bits-in-Sm4 : goal.returns-in_ok-bits-in-Sm4
unfolding tpmu_sym_key_bits tpmu_sym_key_bits_arm
returns-in_ok-bits-in-Sm4 c = finds (search (in_arm tpmu_sym_key_bits, by_whole, c.in_ok-bits-in-Sm4.ensures, rests))

pub returns-in_err-bits-in-Camellia : goal.returns-in_err-bits-in-Camellia
unfolding tpmu_sym_key_bits tpmu_sym_key_bits_arm
returns-in_err-bits-in-Camellia c = leaves tpmu_sym_key_bits_parts _ _ c.from_residual-in_err-bits-in-Camellia.ensures (refuses (search (in_arm tpmu_sym_key_bits, by_whole, c.in_err-bits-in-Camellia.ensures, rests)))

pub returns-in_ok-bits-in-Camellia : goal.returns-in_ok-bits-in-Camellia
unfolding tpmu_sym_key_bits tpmu_sym_key_bits_arm
returns-in_ok-bits-in-Camellia c = finds (search (in_arm tpmu_sym_key_bits, by_whole, c.in_ok-bits-in-Camellia.ensures, rests))

pub returns-in_err-x-in-Xor : goal.returns-in_err-x-in-Xor
unfolding tpmu_sym_key_bits tpmu_sym_key_bits_arm
returns-in_err-x-in-Xor c = leaves tpmu_sym_key_bits_parts _ _ c.from_residual-in_err-x-in-Xor.ensures (refuses (search (in_arm tpmu_sym_key_bits, by_whole, c.in_err-x-in-Xor.ensures, rests)))

pub returns-in_ok-x-in-Xor : goal.returns-in_ok-x-in-Xor
unfolding tpmu_sym_key_bits tpmu_sym_key_bits_arm
returns-in_ok-x-in-Xor c = finds (search (in_arm tpmu_sym_key_bits, by_whole, c.in_ok-x-in-Xor.ensures, rests))

pub returns-in-Null : goal.returns-in-Null
unfolding tpmu_sym_key_bits tpmu_sym_key_bits_arm
returns-in-Null c = finds (search (in_arm tpmu_sym_key_bits, rests))

pub returns-in_default : goal.returns-in_default
unfolding tpmu_sym_key_bits tpmu_sym_key_bits_arm
returns-in_default c = search (no_arm_due tpmu_sym_key_bits_arm tpmu_sym_key_bits_body, none_chosen tpmu_sym_key_bits_table) depth 10
