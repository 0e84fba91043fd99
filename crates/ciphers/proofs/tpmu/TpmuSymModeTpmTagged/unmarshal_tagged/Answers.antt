-- The selector's code chooses the arm that the table has for it, or none; Xor and Null choose the empty one. Assumes nothing.
use Rattle.wire.proofs.Search.{finds, refuses, by_whole, in_arm, no_arm_due, rests, leaves}
use Rattle.format.specs.Kinds.{tpmu_sym_mode_table, tpmu_sym_mode_arm, tpmu_sym_mode_body, tpmu_sym_mode}
use Rattle.codes.proofs.Choices.{none_chosen}
use Rattle.ciphers.specs.Parts.{tpmu_sym_mode_parts}
use Rattle.ciphers.proofs.tpmu.TpmuSymModeTpmTagged.unmarshal_tagged.Goals as goal

pub returns-in_err-mode-in-Aes : goal.returns-in_err-mode-in-Aes
unfolding tpmu_sym_mode tpmu_sym_mode_arm
returns-in_err-mode-in-Aes c = leaves tpmu_sym_mode_parts _ _ c.from_residual.ensures (refuses (search (in_arm tpmu_sym_mode, by_whole, c.in_err-mode-in-Aes.ensures, rests)))

pub returns-in_ok-mode-in-Aes : goal.returns-in_ok-mode-in-Aes
unfolding tpmu_sym_mode tpmu_sym_mode_arm
returns-in_ok-mode-in-Aes c = finds (search (in_arm tpmu_sym_mode, by_whole, c.in_ok-mode-in-Aes.ensures, rests))

pub returns-in_err-mode-in-Sm4 : goal.returns-in_err-mode-in-Sm4
unfolding tpmu_sym_mode tpmu_sym_mode_arm
returns-in_err-mode-in-Sm4 c = leaves tpmu_sym_mode_parts _ _ c.from_residual-in_err-mode-in-Sm4.ensures (refuses (search (in_arm tpmu_sym_mode, by_whole, c.in_err-mode-in-Sm4.ensures, rests)))

pub returns-in_ok-mode-in-Sm4 : goal.returns-in_ok-mode-in-Sm4
unfolding tpmu_sym_mode tpmu_sym_mode_arm
returns-in_ok-mode-in-Sm4 c = finds (search (in_arm tpmu_sym_mode, by_whole, c.in_ok-mode-in-Sm4.ensures, rests))

pub returns-in_err-mode-in-Camellia : goal.returns-in_err-mode-in-Camellia
unfolding tpmu_sym_mode tpmu_sym_mode_arm
returns-in_err-mode-in-Camellia c = leaves tpmu_sym_mode_parts _ _ c.from_residual-in_err-mode-in-Camellia.ensures (refuses (search (in_arm tpmu_sym_mode, by_whole, c.in_err-mode-in-Camellia.ensures, rests)))

pub returns-in_ok-mode-in-Camellia : goal.returns-in_ok-mode-in-Camellia
unfolding tpmu_sym_mode tpmu_sym_mode_arm
returns-in_ok-mode-in-Camellia c = finds (search (in_arm tpmu_sym_mode, by_whole, c.in_ok-mode-in-Camellia.ensures, rests))

pub returns-in-Null : goal.returns-in-Null
unfolding tpmu_sym_mode tpmu_sym_mode_arm
returns-in-Null c = finds (search (in_arm tpmu_sym_mode, rests))

pub returns-in-Null-2 : goal.returns-in-Null-2
unfolding tpmu_sym_mode tpmu_sym_mode_arm
returns-in-Null-2 c = finds (search (in_arm tpmu_sym_mode, rests))

pub returns-in_default : goal.returns-in_default
unfolding tpmu_sym_mode tpmu_sym_mode_arm
returns-in_default c = search (no_arm_due tpmu_sym_mode_arm tpmu_sym_mode_body, none_chosen tpmu_sym_mode_table) depth 10
