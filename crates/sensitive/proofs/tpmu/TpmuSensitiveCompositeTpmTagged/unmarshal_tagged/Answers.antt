-- The selector's code chooses the arm that the table has for it, or none. Assumes nothing.
use Rattle.wire.proofs.Search.{finds, refuses, by_whole, in_arm, no_arm_due, rests, leaves}
use Rattle.format.specs.Kinds.{tpmu_sensitive_composite_table, tpmu_sensitive_composite_arm, tpmu_sensitive_composite_body, tpmu_sensitive_composite}
use Rattle.codes.proofs.Choices.{none_chosen}
use Rattle.sensitive.specs.Parts.{tpmu_sensitive_composite_parts}
use Rattle.sensitive.proofs.tpmu.TpmuSensitiveCompositeTpmTagged.unmarshal_tagged.Goals as goal

pub returns-in_err-x-in-Rsa : goal.returns-in_err-x-in-Rsa
unfolding tpmu_sensitive_composite tpmu_sensitive_composite_arm
returns-in_err-x-in-Rsa c = leaves tpmu_sensitive_composite_parts _ _ c.from_residual.ensures (refuses (search (in_arm tpmu_sensitive_composite, by_whole, c.in_err-x-in-Rsa.ensures, rests)))

pub returns-in_ok-x-in-Rsa : goal.returns-in_ok-x-in-Rsa
unfolding tpmu_sensitive_composite tpmu_sensitive_composite_arm
returns-in_ok-x-in-Rsa c = finds (search (in_arm tpmu_sensitive_composite, by_whole, c.in_ok-x-in-Rsa.ensures, rests))

pub returns-in_err-x-in-Ecc : goal.returns-in_err-x-in-Ecc
unfolding tpmu_sensitive_composite tpmu_sensitive_composite_arm
returns-in_err-x-in-Ecc c = leaves tpmu_sensitive_composite_parts _ _ c.from_residual-in_err-x-in-Ecc.ensures (refuses (search (in_arm tpmu_sensitive_composite, by_whole, c.in_err-x-in-Ecc.ensures, rests)))

pub returns-in_ok-x-in-Ecc : goal.returns-in_ok-x-in-Ecc
unfolding tpmu_sensitive_composite tpmu_sensitive_composite_arm
returns-in_ok-x-in-Ecc c = finds (search (in_arm tpmu_sensitive_composite, by_whole, c.in_ok-x-in-Ecc.ensures, rests))

pub returns-in_err-x-in-KeyedHash : goal.returns-in_err-x-in-KeyedHash
unfolding tpmu_sensitive_composite tpmu_sensitive_composite_arm
returns-in_err-x-in-KeyedHash c = leaves tpmu_sensitive_composite_parts _ _ c.from_residual-in_err-x-in-KeyedHash.ensures (refuses (search (in_arm tpmu_sensitive_composite, by_whole, c.in_err-x-in-KeyedHash.ensures, rests)))

pub returns-in_ok-x-in-KeyedHash : goal.returns-in_ok-x-in-KeyedHash
unfolding tpmu_sensitive_composite tpmu_sensitive_composite_arm
returns-in_ok-x-in-KeyedHash c = finds (search (in_arm tpmu_sensitive_composite, by_whole, c.in_ok-x-in-KeyedHash.ensures, rests))

pub returns-in_err-x-in-SymCipher : goal.returns-in_err-x-in-SymCipher
unfolding tpmu_sensitive_composite tpmu_sensitive_composite_arm
returns-in_err-x-in-SymCipher c = leaves tpmu_sensitive_composite_parts _ _ c.from_residual-in_err-x-in-SymCipher.ensures (refuses (search (in_arm tpmu_sensitive_composite, by_whole, c.in_err-x-in-SymCipher.ensures, rests)))

pub returns-in_ok-x-in-SymCipher : goal.returns-in_ok-x-in-SymCipher
unfolding tpmu_sensitive_composite tpmu_sensitive_composite_arm
returns-in_ok-x-in-SymCipher c = finds (search (in_arm tpmu_sensitive_composite, by_whole, c.in_ok-x-in-SymCipher.ensures, rests))

pub returns-in_default : goal.returns-in_default
unfolding tpmu_sensitive_composite tpmu_sensitive_composite_arm
returns-in_default c = search (no_arm_due tpmu_sensitive_composite_arm tpmu_sensitive_composite_body, none_chosen tpmu_sensitive_composite_table) depth 9
