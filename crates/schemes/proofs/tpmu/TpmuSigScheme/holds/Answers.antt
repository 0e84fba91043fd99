-- The payload's arm is held against the one that was chosen. Assumes nothing.
use Rattle.wire.proofs.Search.{is_arm_lem}
use Rattle.schemes.specs.Parts.{tpmu_sig_scheme_parts}
use Rattle.schemes.proofs.tpmu.TpmuSigScheme.holds.Goals as goal

pub returns-in-Hash : goal.returns-in-Hash
returns-in-Hash c = search (is_arm_lem tpmu_sig_scheme_parts)

pub returns-in-Hmac : goal.returns-in-Hmac
returns-in-Hmac c = search (is_arm_lem tpmu_sig_scheme_parts)

pub returns-in-Ecdaa : goal.returns-in-Ecdaa
returns-in-Ecdaa c = search (is_arm_lem tpmu_sig_scheme_parts)

pub returns-in-Null : goal.returns-in-Null
returns-in-Null c = search (is_arm_lem tpmu_sig_scheme_parts)
