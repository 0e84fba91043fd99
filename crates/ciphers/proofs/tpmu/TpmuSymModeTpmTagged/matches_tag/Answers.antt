-- The payload is held against the arm that the selector chooses. Assumes nothing.
use Rattle.wire.proofs.Search.{is_arm_lem}
use Rattle.ciphers.specs.Parts.{tpmu_sym_mode_parts}
use Rattle.ciphers.proofs.tpmu.TpmuSymModeTpmTagged.matches_tag.Goals as goal

pub returns : goal.returns
returns c = search (is_arm_lem tpmu_sym_mode_parts)
