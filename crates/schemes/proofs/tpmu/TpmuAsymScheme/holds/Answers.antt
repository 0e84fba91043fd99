-- The payload's arm is held against the one that was chosen. The first names its facts, so that a wrong arm there shows. Assumes nothing.
use mathlib.Core.Path.{refl}
use Rattle.wire.proofs.Search.{is_arm_lem}
use Rattle.schemes.specs.Parts.{tpmu_asym_scheme_parts}
use Rattle.schemes.proofs.tpmu.TpmuAsymScheme.holds.Goals as goal

pub returns-in-Hash : goal.returns-in-Hash
returns-in-Hash c = is_arm_lem tpmu_asym_scheme_parts {c = c.args.chosen} c.in-Hash.is refl c.is_arm.ensures

pub returns-in-Ecdaa : goal.returns-in-Ecdaa
returns-in-Ecdaa c = search (is_arm_lem tpmu_asym_scheme_parts)

pub returns-in-Null : goal.returns-in-Null
returns-in-Null c = search (is_arm_lem tpmu_asym_scheme_parts)
