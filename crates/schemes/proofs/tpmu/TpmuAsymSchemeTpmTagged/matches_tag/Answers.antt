-- The payload is held against the arm that the selector chooses. Assumes nothing.
use Rattle.wire.proofs.Search.{is_arm_lem}
use Rattle.schemes.specs.Parts.{tpmu_asym_scheme_parts}
use Rattle.schemes.proofs.tpmu.TpmuAsymSchemeTpmTagged.matches_tag.Goals as goal

pub returns : goal.returns
returns c = search (is_arm_lem tpmu_asym_scheme_parts)
