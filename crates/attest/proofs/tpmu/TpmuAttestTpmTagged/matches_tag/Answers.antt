-- The selector is held against the arm's own code. Assumes nothing.
use Rattle.format.specs.Kinds.{tpmu_attest_table, tpmu_attest_arm}
use Rattle.steps.proofs.Matches.{by_code}
use Rattle.attest.specs.Parts.{tpmu_attest_parts}
use Rattle.attest.proofs.tpmu.TpmuAttestTpmTagged.matches_tag.Goals as goal

pub returns-in-Certify : goal.returns-in-Certify
unfolding tpmu_attest_arm
returns-in-Certify c = search (by_code tpmu_attest_parts tpmu_attest_table)

pub returns-in-Creation : goal.returns-in-Creation
unfolding tpmu_attest_arm
returns-in-Creation c = search (by_code tpmu_attest_parts tpmu_attest_table)

pub returns-in-Quote : goal.returns-in-Quote
unfolding tpmu_attest_arm
returns-in-Quote c = search (by_code tpmu_attest_parts tpmu_attest_table)

pub returns-in-CommandAudit : goal.returns-in-CommandAudit
unfolding tpmu_attest_arm
returns-in-CommandAudit c = search (by_code tpmu_attest_parts tpmu_attest_table)

pub returns-in-SessionAudit : goal.returns-in-SessionAudit
unfolding tpmu_attest_arm
returns-in-SessionAudit c = search (by_code tpmu_attest_parts tpmu_attest_table)

pub returns-in-Time : goal.returns-in-Time
unfolding tpmu_attest_arm
returns-in-Time c = search (by_code tpmu_attest_parts tpmu_attest_table)

pub returns-in-Nv : goal.returns-in-Nv
unfolding tpmu_attest_arm
returns-in-Nv c = search (by_code tpmu_attest_parts tpmu_attest_table)

pub returns-in-NvDigest : goal.returns-in-NvDigest
unfolding tpmu_attest_arm
returns-in-NvDigest c = search (by_code tpmu_attest_parts tpmu_attest_table)
