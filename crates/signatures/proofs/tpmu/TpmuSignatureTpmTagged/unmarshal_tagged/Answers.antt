-- The selector's code chooses the arm that the table has for it, or none. Assumes nothing.
use Rattle.wire.proofs.Search.{finds, refuses, by_whole, in_arm, no_arm_due, rests, leaves}
use Rattle.format.specs.Kinds.{tpmu_signature_table, tpmu_signature_arm, tpmu_signature_body, tpmu_signature}
use Rattle.codes.proofs.Choices.{none_chosen}
use Rattle.signatures.specs.Parts.{tpmu_signature_parts}
use Rattle.signatures.proofs.tpmu.TpmuSignatureTpmTagged.unmarshal_tagged.Goals as goal

pub returns-in_err-x-in-Rsassa : goal.returns-in_err-x-in-Rsassa
unfolding tpmu_signature tpmu_signature_arm
returns-in_err-x-in-Rsassa c = leaves tpmu_signature_parts _ _ c.from_residual.ensures (refuses (search (in_arm tpmu_signature, by_whole, c.in_err-x-in-Rsassa.ensures, rests)))

pub returns-in_ok-x-in-Rsassa : goal.returns-in_ok-x-in-Rsassa
unfolding tpmu_signature tpmu_signature_arm
returns-in_ok-x-in-Rsassa c = finds (search (in_arm tpmu_signature, by_whole, c.in_ok-x-in-Rsassa.ensures, rests))

pub returns-in_err-x-in-Rsapss : goal.returns-in_err-x-in-Rsapss
unfolding tpmu_signature tpmu_signature_arm
returns-in_err-x-in-Rsapss c = leaves tpmu_signature_parts _ _ c.from_residual-in_err-x-in-Rsapss.ensures (refuses (search (in_arm tpmu_signature, by_whole, c.in_err-x-in-Rsapss.ensures, rests)))

pub returns-in_ok-x-in-Rsapss : goal.returns-in_ok-x-in-Rsapss
unfolding tpmu_signature tpmu_signature_arm
returns-in_ok-x-in-Rsapss c = finds (search (in_arm tpmu_signature, by_whole, c.in_ok-x-in-Rsapss.ensures, rests))

pub returns-in_err-x-in-Ecdsa : goal.returns-in_err-x-in-Ecdsa
unfolding tpmu_signature tpmu_signature_arm
returns-in_err-x-in-Ecdsa c = leaves tpmu_signature_parts _ _ c.from_residual-in_err-x-in-Ecdsa.ensures (refuses (search (in_arm tpmu_signature, by_whole, c.in_err-x-in-Ecdsa.ensures, rests)))

pub returns-in_ok-x-in-Ecdsa : goal.returns-in_ok-x-in-Ecdsa
unfolding tpmu_signature tpmu_signature_arm
returns-in_ok-x-in-Ecdsa c = finds (search (in_arm tpmu_signature, by_whole, c.in_ok-x-in-Ecdsa.ensures, rests))

pub returns-in_err-x-in-Ecdaa : goal.returns-in_err-x-in-Ecdaa
unfolding tpmu_signature tpmu_signature_arm
returns-in_err-x-in-Ecdaa c = leaves tpmu_signature_parts _ _ c.from_residual-in_err-x-in-Ecdaa.ensures (refuses (search (in_arm tpmu_signature, by_whole, c.in_err-x-in-Ecdaa.ensures, rests)))

pub returns-in_ok-x-in-Ecdaa : goal.returns-in_ok-x-in-Ecdaa
unfolding tpmu_signature tpmu_signature_arm
returns-in_ok-x-in-Ecdaa c = finds (search (in_arm tpmu_signature, by_whole, c.in_ok-x-in-Ecdaa.ensures, rests))

pub returns-in_err-x-in-Sm2 : goal.returns-in_err-x-in-Sm2
unfolding tpmu_signature tpmu_signature_arm
returns-in_err-x-in-Sm2 c = leaves tpmu_signature_parts _ _ c.from_residual-in_err-x-in-Sm2.ensures (refuses (search (in_arm tpmu_signature, by_whole, c.in_err-x-in-Sm2.ensures, rests)))

pub returns-in_ok-x-in-Sm2 : goal.returns-in_ok-x-in-Sm2
unfolding tpmu_signature tpmu_signature_arm
returns-in_ok-x-in-Sm2 c = finds (search (in_arm tpmu_signature, by_whole, c.in_ok-x-in-Sm2.ensures, rests))

pub returns-in_err-x-in-Ecschnorr : goal.returns-in_err-x-in-Ecschnorr
unfolding tpmu_signature tpmu_signature_arm
returns-in_err-x-in-Ecschnorr c = leaves tpmu_signature_parts _ _ c.from_residual-in_err-x-in-Ecschnorr.ensures (refuses (search (in_arm tpmu_signature, by_whole, c.in_err-x-in-Ecschnorr.ensures, rests)))

pub returns-in_ok-x-in-Ecschnorr : goal.returns-in_ok-x-in-Ecschnorr
unfolding tpmu_signature tpmu_signature_arm
returns-in_ok-x-in-Ecschnorr c = finds (search (in_arm tpmu_signature, by_whole, c.in_ok-x-in-Ecschnorr.ensures, rests))

pub returns-in_err-x-in-Hmac : goal.returns-in_err-x-in-Hmac
unfolding tpmu_signature tpmu_signature_arm
returns-in_err-x-in-Hmac c = leaves tpmu_signature_parts _ _ c.from_residual-in_err-x-in-Hmac.ensures (refuses (search (in_arm tpmu_signature, by_whole, c.in_err-x-in-Hmac.ensures, rests)))

pub returns-in_ok-x-in-Hmac : goal.returns-in_ok-x-in-Hmac
unfolding tpmu_signature tpmu_signature_arm
returns-in_ok-x-in-Hmac c = finds (search (in_arm tpmu_signature, by_whole, c.in_ok-x-in-Hmac.ensures, rests))

pub returns-in-Null : goal.returns-in-Null
unfolding tpmu_signature tpmu_signature_arm
returns-in-Null c = finds (search (in_arm tpmu_signature, rests))

pub returns-in_default : goal.returns-in_default
unfolding tpmu_signature tpmu_signature_arm
returns-in_default c = search (no_arm_due tpmu_signature_arm tpmu_signature_body, none_chosen tpmu_signature_table) depth 13
