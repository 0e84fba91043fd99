-- The selector's code chooses the arm that the table has for it, or none. Assumes nothing.
use Rattle.wire.proofs.Search.{finds, refuses, by_whole, in_arm, no_arm_due, rests, leaves}
use Rattle.format.specs.Kinds.{tpmu_keyedhash_scheme_table, tpmu_keyedhash_scheme_arm, tpmu_keyedhash_scheme_body, tpmu_keyedhash_scheme}
use Rattle.codes.proofs.Choices.{none_chosen}
use Rattle.schemes.specs.Parts.{tpmu_keyedhash_scheme_parts}
use Rattle.schemes.proofs.tpmu.TpmuKeyedhashSchemeTpmTagged.unmarshal_tagged.Goals as goal

pub returns-in_err-x-in-Hmac : goal.returns-in_err-x-in-Hmac
unfolding tpmu_keyedhash_scheme tpmu_keyedhash_scheme_arm
returns-in_err-x-in-Hmac c = leaves tpmu_keyedhash_scheme_parts _ _ c.from_residual.ensures (refuses (search (in_arm tpmu_keyedhash_scheme, by_whole, c.in_err-x-in-Hmac.ensures, rests)))

pub returns-in_ok-x-in-Hmac : goal.returns-in_ok-x-in-Hmac
unfolding tpmu_keyedhash_scheme tpmu_keyedhash_scheme_arm
returns-in_ok-x-in-Hmac c = finds (search (in_arm tpmu_keyedhash_scheme, by_whole, c.in_ok-x-in-Hmac.ensures, rests))

pub returns-in_err-x-in-Xor : goal.returns-in_err-x-in-Xor
unfolding tpmu_keyedhash_scheme tpmu_keyedhash_scheme_arm
returns-in_err-x-in-Xor c = leaves tpmu_keyedhash_scheme_parts _ _ c.from_residual-in_err-x-in-Xor.ensures (refuses (search (in_arm tpmu_keyedhash_scheme, by_whole, c.in_err-x-in-Xor.ensures, rests)))

pub returns-in_ok-x-in-Xor : goal.returns-in_ok-x-in-Xor
unfolding tpmu_keyedhash_scheme tpmu_keyedhash_scheme_arm
returns-in_ok-x-in-Xor c = finds (search (in_arm tpmu_keyedhash_scheme, by_whole, c.in_ok-x-in-Xor.ensures, rests))

pub returns-in-Null : goal.returns-in-Null
unfolding tpmu_keyedhash_scheme tpmu_keyedhash_scheme_arm
returns-in-Null c = finds (search (in_arm tpmu_keyedhash_scheme, rests))

pub returns-in_default : goal.returns-in_default
unfolding tpmu_keyedhash_scheme tpmu_keyedhash_scheme_arm
returns-in_default c = search (no_arm_due tpmu_keyedhash_scheme_arm tpmu_keyedhash_scheme_body, none_chosen tpmu_keyedhash_scheme_table) depth 8
