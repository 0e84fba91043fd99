-- A digest is as long as its algorithm has it. Assumes nothing.
use Rattle.wire.proofs.Search.{finds, refuses, leaves, known, by_whole, chosen_by, no_arm_due, rests}
use Rattle.codes.specs.Answers.{digest_choice}
use Rattle.format.specs.Kinds.{tpmu_ha_arm, tpmu_ha_body, tpmu_ha}
use Rattle.ciphers.specs.Parts.{tpmu_ha_parts}
use Rattle.ciphers.proofs.Arms.{digest_found, digest_held}
use Rattle.ciphers.proofs.tpmu.TpmuHaTpmTagged.unmarshal_tagged.Goals as goal

pub returns-in_err-x-in-Bytes : goal.returns-in_err-x-in-Bytes
unfolding tpmu_ha
returns-in_err-x-in-Bytes c = leaves tpmu_ha_parts _ _ c.from_residual.ensures (refuses (search (digest_held, by_whole, c.in_err-x-in-Bytes.ensures, rests)))

pub returns-in_ok-x-in-Bytes : goal.returns-in_ok-x-in-Bytes
returns-in_ok-x-in-Bytes c = search (digest_found, c.in_ok-x-in-Bytes.ensures)

pub returns-in-Empty : goal.returns-in-Empty
unfolding tpmu_ha
returns-in-Empty c = finds (search (chosen_by tpmu_ha_arm tpmu_ha_body digest_choice, rests))

pub returns-in-Nothing : goal.returns-in-Nothing
unfolding tpmu_ha
returns-in-Nothing c = search (no_arm_due tpmu_ha_arm tpmu_ha_body, known digest_choice)
