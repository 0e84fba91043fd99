-- The selector's code chooses the arm that the table has for it, or none. Assumes nothing.
use Rattle.wire.proofs.Search.{finds, refuses, by_whole, in_arm, no_arm_due, rests, leaves}
use Rattle.format.specs.Kinds.{tpmu_attest_table, tpmu_attest_arm, tpmu_attest_body, tpmu_attest}
use Rattle.codes.proofs.Choices.{none_chosen}
use Rattle.attest.specs.Parts.{tpmu_attest_parts}
use Rattle.attest.proofs.tpmu.TpmuAttestTpmTagged.unmarshal_tagged.Goals as goal

pub returns-in_err-x-in-AttestCertify : goal.returns-in_err-x-in-AttestCertify
unfolding tpmu_attest tpmu_attest_arm
returns-in_err-x-in-AttestCertify c = leaves tpmu_attest_parts _ _ c.from_residual.ensures (refuses (search (in_arm tpmu_attest, by_whole, c.in_err-x-in-AttestCertify.ensures, rests)))

pub returns-in_ok-x-in-AttestCertify : goal.returns-in_ok-x-in-AttestCertify
unfolding tpmu_attest tpmu_attest_arm
returns-in_ok-x-in-AttestCertify c = finds (search (in_arm tpmu_attest, by_whole, c.in_ok-x-in-AttestCertify.ensures, rests))

pub returns-in_err-x-in-AttestCreation : goal.returns-in_err-x-in-AttestCreation
unfolding tpmu_attest tpmu_attest_arm
returns-in_err-x-in-AttestCreation c = leaves tpmu_attest_parts _ _ c.from_residual-in_err-x-in-AttestCreation.ensures (refuses (search (in_arm tpmu_attest, by_whole, c.in_err-x-in-AttestCreation.ensures, rests)))

pub returns-in_ok-x-in-AttestCreation : goal.returns-in_ok-x-in-AttestCreation
unfolding tpmu_attest tpmu_attest_arm
returns-in_ok-x-in-AttestCreation c = finds (search (in_arm tpmu_attest, by_whole, c.in_ok-x-in-AttestCreation.ensures, rests))

pub returns-in_err-x-in-AttestQuote : goal.returns-in_err-x-in-AttestQuote
unfolding tpmu_attest tpmu_attest_arm
returns-in_err-x-in-AttestQuote c = leaves tpmu_attest_parts _ _ c.from_residual-in_err-x-in-AttestQuote.ensures (refuses (search (in_arm tpmu_attest, by_whole, c.in_err-x-in-AttestQuote.ensures, rests)))

pub returns-in_ok-x-in-AttestQuote : goal.returns-in_ok-x-in-AttestQuote
unfolding tpmu_attest tpmu_attest_arm
returns-in_ok-x-in-AttestQuote c = finds (search (in_arm tpmu_attest, by_whole, c.in_ok-x-in-AttestQuote.ensures, rests))

pub returns-in_err-x-in-AttestCommandAudit : goal.returns-in_err-x-in-AttestCommandAudit
unfolding tpmu_attest tpmu_attest_arm
returns-in_err-x-in-AttestCommandAudit c = leaves tpmu_attest_parts _ _ c.from_residual-in_err-x-in-AttestCommandAudit.ensures (refuses (search (in_arm tpmu_attest, by_whole, c.in_err-x-in-AttestCommandAudit.ensures, rests)))

pub returns-in_ok-x-in-AttestCommandAudit : goal.returns-in_ok-x-in-AttestCommandAudit
unfolding tpmu_attest tpmu_attest_arm
returns-in_ok-x-in-AttestCommandAudit c = finds (search (in_arm tpmu_attest, by_whole, c.in_ok-x-in-AttestCommandAudit.ensures, rests))

pub returns-in_err-x-in-AttestSessionAudit : goal.returns-in_err-x-in-AttestSessionAudit
unfolding tpmu_attest tpmu_attest_arm
returns-in_err-x-in-AttestSessionAudit c = leaves tpmu_attest_parts _ _ c.from_residual-in_err-x-in-AttestSessionAudit.ensures (refuses (search (in_arm tpmu_attest, by_whole, c.in_err-x-in-AttestSessionAudit.ensures, rests)))

pub returns-in_ok-x-in-AttestSessionAudit : goal.returns-in_ok-x-in-AttestSessionAudit
unfolding tpmu_attest tpmu_attest_arm
returns-in_ok-x-in-AttestSessionAudit c = finds (search (in_arm tpmu_attest, by_whole, c.in_ok-x-in-AttestSessionAudit.ensures, rests))

pub returns-in_err-x-in-AttestTime : goal.returns-in_err-x-in-AttestTime
unfolding tpmu_attest tpmu_attest_arm
returns-in_err-x-in-AttestTime c = leaves tpmu_attest_parts _ _ c.from_residual-in_err-x-in-AttestTime.ensures (refuses (search (in_arm tpmu_attest, by_whole, c.in_err-x-in-AttestTime.ensures, rests)))

pub returns-in_ok-x-in-AttestTime : goal.returns-in_ok-x-in-AttestTime
unfolding tpmu_attest tpmu_attest_arm
returns-in_ok-x-in-AttestTime c = finds (search (in_arm tpmu_attest, by_whole, c.in_ok-x-in-AttestTime.ensures, rests))

pub returns-in_err-x-in-AttestNv : goal.returns-in_err-x-in-AttestNv
unfolding tpmu_attest tpmu_attest_arm
returns-in_err-x-in-AttestNv c = leaves tpmu_attest_parts _ _ c.from_residual-in_err-x-in-AttestNv.ensures (refuses (search (in_arm tpmu_attest, by_whole, c.in_err-x-in-AttestNv.ensures, rests)))

pub returns-in_ok-x-in-AttestNv : goal.returns-in_ok-x-in-AttestNv
unfolding tpmu_attest tpmu_attest_arm
returns-in_ok-x-in-AttestNv c = finds (search (in_arm tpmu_attest, by_whole, c.in_ok-x-in-AttestNv.ensures, rests))

pub returns-in_err-x-in-AttestNvDigest : goal.returns-in_err-x-in-AttestNvDigest
unfolding tpmu_attest tpmu_attest_arm
returns-in_err-x-in-AttestNvDigest c = leaves tpmu_attest_parts _ _ c.from_residual-in_err-x-in-AttestNvDigest.ensures (refuses (search (in_arm tpmu_attest, by_whole, c.in_err-x-in-AttestNvDigest.ensures, rests)))

pub returns-in_ok-x-in-AttestNvDigest : goal.returns-in_ok-x-in-AttestNvDigest
unfolding tpmu_attest tpmu_attest_arm
returns-in_ok-x-in-AttestNvDigest c = finds (search (in_arm tpmu_attest, by_whole, c.in_ok-x-in-AttestNvDigest.ensures, rests))

pub returns-in_default : goal.returns-in_default
unfolding tpmu_attest tpmu_attest_arm
returns-in_default c = search (no_arm_due tpmu_attest_arm tpmu_attest_body, none_chosen tpmu_attest_table) depth 13
