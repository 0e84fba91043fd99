-- The selector is held against the arm's own code. Assumes nothing.
use Rattle.format.specs.Kinds.{tpmu_signature_table, tpmu_signature_arm}
use Rattle.steps.proofs.Matches.{by_code}
use Rattle.signatures.specs.Parts.{tpmu_signature_parts}
use Rattle.signatures.proofs.tpmu.TpmuSignatureTpmTagged.matches_tag.Goals as goal

pub returns-in-Rsassa : goal.returns-in-Rsassa
unfolding tpmu_signature_arm
returns-in-Rsassa c = search (by_code tpmu_signature_parts tpmu_signature_table)

pub returns-in-Rsapss : goal.returns-in-Rsapss
unfolding tpmu_signature_arm
returns-in-Rsapss c = search (by_code tpmu_signature_parts tpmu_signature_table)

pub returns-in-Ecdsa : goal.returns-in-Ecdsa
unfolding tpmu_signature_arm
returns-in-Ecdsa c = search (by_code tpmu_signature_parts tpmu_signature_table)

pub returns-in-Ecdaa : goal.returns-in-Ecdaa
unfolding tpmu_signature_arm
returns-in-Ecdaa c = search (by_code tpmu_signature_parts tpmu_signature_table)

pub returns-in-Sm2 : goal.returns-in-Sm2
unfolding tpmu_signature_arm
returns-in-Sm2 c = search (by_code tpmu_signature_parts tpmu_signature_table)

pub returns-in-Ecschnorr : goal.returns-in-Ecschnorr
unfolding tpmu_signature_arm
returns-in-Ecschnorr c = search (by_code tpmu_signature_parts tpmu_signature_table)

pub returns-in-Hmac : goal.returns-in-Hmac
unfolding tpmu_signature_arm
returns-in-Hmac c = search (by_code tpmu_signature_parts tpmu_signature_table)

pub returns-in-Null : goal.returns-in-Null
unfolding tpmu_signature_arm
returns-in-Null c = search (by_code tpmu_signature_parts tpmu_signature_table)
