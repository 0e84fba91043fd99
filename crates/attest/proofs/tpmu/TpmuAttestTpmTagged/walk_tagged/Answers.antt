-- The fields of the arm that is held, behind where it is due. Assumes nothing.
use Rattle.format.specs.Kinds.{tpmu_attest_arm, tpmu_attest_body, tpmu_attest}
use Rattle.steps.proofs.Search.{by_arm_lists, walking}
use Rattle.attest.specs.Parts.{tpmu_attest_parts, tpmu_attest_lists}
use Rattle.attest.proofs.tpmu.TpmuAttestTpmTagged.walk_tagged.Goals as goal

pub returns-in-Certify : goal.returns-in-Certify
unfolding tpmu_attest
returns-in-Certify c = search (by_arm_lists tpmu_attest_parts tpmu_attest_lists tpmu_attest_arm tpmu_attest_body, walking)

pub returns-in-Creation : goal.returns-in-Creation
unfolding tpmu_attest
returns-in-Creation c = search (by_arm_lists tpmu_attest_parts tpmu_attest_lists tpmu_attest_arm tpmu_attest_body, walking)

pub returns-in-Quote : goal.returns-in-Quote
unfolding tpmu_attest
returns-in-Quote c = search (by_arm_lists tpmu_attest_parts tpmu_attest_lists tpmu_attest_arm tpmu_attest_body, walking)

pub returns-in-CommandAudit : goal.returns-in-CommandAudit
unfolding tpmu_attest
returns-in-CommandAudit c = search (by_arm_lists tpmu_attest_parts tpmu_attest_lists tpmu_attest_arm tpmu_attest_body, walking)

pub returns-in-SessionAudit : goal.returns-in-SessionAudit
unfolding tpmu_attest
returns-in-SessionAudit c = search (by_arm_lists tpmu_attest_parts tpmu_attest_lists tpmu_attest_arm tpmu_attest_body, walking)

pub returns-in-Time : goal.returns-in-Time
unfolding tpmu_attest
returns-in-Time c = search (by_arm_lists tpmu_attest_parts tpmu_attest_lists tpmu_attest_arm tpmu_attest_body, walking)

pub returns-in-Nv : goal.returns-in-Nv
unfolding tpmu_attest
returns-in-Nv c = search (by_arm_lists tpmu_attest_parts tpmu_attest_lists tpmu_attest_arm tpmu_attest_body, walking)

pub returns-in-NvDigest : goal.returns-in-NvDigest
unfolding tpmu_attest
returns-in-NvDigest c = search (by_arm_lists tpmu_attest_parts tpmu_attest_lists tpmu_attest_arm tpmu_attest_body, walking)
