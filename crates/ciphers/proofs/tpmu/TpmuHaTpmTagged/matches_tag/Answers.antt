-- A digest is its arm where its length is the one that its algorithm has. Assumes nothing.
use Rattle.wire.proofs.Search.{is_arm_by, is_none_by}
use Rattle.codes.specs.Answers.{digest_choice}
use Rattle.ciphers.specs.Parts.{tpmu_ha_parts}
use Rattle.ciphers.proofs.Arms.{digest_due, digest_missing, digest_not_due}
use Rattle.ciphers.proofs.tpmu.TpmuHaTpmTagged.matches_tag.Goals as goal

pub returns-in-Digest : goal.returns-in-Digest
returns-in-Digest c = search (is_arm_by digest_choice tpmu_ha_parts, digest_due)

pub returns-in-Null : goal.returns-in-Null
returns-in-Null c = search (is_arm_by digest_choice tpmu_ha_parts, digest_missing)

pub returns-in-Digest-self : goal.returns-in-Digest-self
returns-in-Digest-self c = search (is_arm_by digest_choice tpmu_ha_parts, digest_not_due)

pub returns-in-Null-self : goal.returns-in-Null-self
returns-in-Null-self c = search (is_arm_by digest_choice tpmu_ha_parts)

pub returns-in-Nothing : goal.returns-in-Nothing
returns-in-Nothing c = search (is_none_by digest_choice)
