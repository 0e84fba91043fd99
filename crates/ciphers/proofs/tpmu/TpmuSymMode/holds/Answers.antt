-- The payload's arm is held against the one that was chosen. Assumes nothing.
use Rattle.wire.proofs.Search.{is_arm_lem}
use Rattle.ciphers.specs.Parts.{tpmu_sym_mode_parts}
use Rattle.ciphers.proofs.tpmu.TpmuSymMode.holds.Goals as goal

pub returns-in-Aes : goal.returns-in-Aes
returns-in-Aes c = search (is_arm_lem tpmu_sym_mode_parts)

pub returns-in-Sm4 : goal.returns-in-Sm4
returns-in-Sm4 c = search (is_arm_lem tpmu_sym_mode_parts)

pub returns-in-Camellia : goal.returns-in-Camellia
returns-in-Camellia c = search (is_arm_lem tpmu_sym_mode_parts)

pub returns-in-Null : goal.returns-in-Null
returns-in-Null c = search (is_arm_lem tpmu_sym_mode_parts)
