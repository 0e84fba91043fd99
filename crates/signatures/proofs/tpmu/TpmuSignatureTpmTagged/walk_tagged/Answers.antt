-- The fields of the arm that is held, behind where it is due. Assumes nothing.
use Rattle.format.specs.Kinds.{tpmu_signature_arm, tpmu_signature_body, tpmu_signature}
use Rattle.steps.proofs.Search.{by_arm, walking}
use Rattle.signatures.specs.Parts.{tpmu_signature_parts}
use Rattle.signatures.proofs.tpmu.TpmuSignatureTpmTagged.walk_tagged.Goals as goal

pub returns-in-Rsassa : goal.returns-in-Rsassa
unfolding tpmu_signature
returns-in-Rsassa c = search (by_arm tpmu_signature_parts tpmu_signature_arm tpmu_signature_body, walking)

pub returns-in-Rsapss : goal.returns-in-Rsapss
unfolding tpmu_signature
returns-in-Rsapss c = search (by_arm tpmu_signature_parts tpmu_signature_arm tpmu_signature_body, walking)

pub returns-in-Ecdsa : goal.returns-in-Ecdsa
unfolding tpmu_signature
returns-in-Ecdsa c = search (by_arm tpmu_signature_parts tpmu_signature_arm tpmu_signature_body, walking)

pub returns-in-Ecdaa : goal.returns-in-Ecdaa
unfolding tpmu_signature
returns-in-Ecdaa c = search (by_arm tpmu_signature_parts tpmu_signature_arm tpmu_signature_body, walking)

pub returns-in-Sm2 : goal.returns-in-Sm2
unfolding tpmu_signature
returns-in-Sm2 c = search (by_arm tpmu_signature_parts tpmu_signature_arm tpmu_signature_body, walking)

pub returns-in-Ecschnorr : goal.returns-in-Ecschnorr
unfolding tpmu_signature
returns-in-Ecschnorr c = search (by_arm tpmu_signature_parts tpmu_signature_arm tpmu_signature_body, walking)

pub returns-in-Hmac : goal.returns-in-Hmac
unfolding tpmu_signature
returns-in-Hmac c = search (by_arm tpmu_signature_parts tpmu_signature_arm tpmu_signature_body, walking)

pub returns-in-Null : goal.returns-in-Null
unfolding tpmu_signature
returns-in-Null c = search (by_arm tpmu_signature_parts tpmu_signature_arm tpmu_signature_body, walking)
