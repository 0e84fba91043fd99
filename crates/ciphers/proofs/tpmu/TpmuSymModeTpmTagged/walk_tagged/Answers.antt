-- The fields of the arm that is held, behind where it is due. Assumes nothing.
use Rattle.format.specs.Kinds.{tpmu_sym_mode_arm, tpmu_sym_mode_body, tpmu_sym_mode}
use Rattle.wire.proofs.Search.{is_arm_lem}
use Rattle.steps.proofs.Search.{by_arm, walking}
use Rattle.ciphers.specs.Parts.{tpmu_sym_mode_parts}
use Rattle.ciphers.proofs.tpmu.TpmuSymModeTpmTagged.walk_tagged.Goals as goal

pub returns-in-Aes : goal.returns-in-Aes
unfolding tpmu_sym_mode
returns-in-Aes c = search (by_arm tpmu_sym_mode_parts tpmu_sym_mode_arm tpmu_sym_mode_body, is_arm_lem tpmu_sym_mode_parts, walking)

pub returns-in-Sm4 : goal.returns-in-Sm4
unfolding tpmu_sym_mode
returns-in-Sm4 c = search (by_arm tpmu_sym_mode_parts tpmu_sym_mode_arm tpmu_sym_mode_body, is_arm_lem tpmu_sym_mode_parts, walking)

pub returns-in-Camellia : goal.returns-in-Camellia
unfolding tpmu_sym_mode
returns-in-Camellia c = search (by_arm tpmu_sym_mode_parts tpmu_sym_mode_arm tpmu_sym_mode_body, is_arm_lem tpmu_sym_mode_parts, walking)

pub returns-in-Null : goal.returns-in-Null
unfolding tpmu_sym_mode
returns-in-Null c = search (by_arm tpmu_sym_mode_parts tpmu_sym_mode_arm tpmu_sym_mode_body, is_arm_lem tpmu_sym_mode_parts, walking)
