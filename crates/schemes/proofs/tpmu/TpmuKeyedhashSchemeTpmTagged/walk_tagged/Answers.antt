-- The fields of the arm that is held, behind where it is due. Assumes nothing.
use Rattle.format.specs.Kinds.{tpmu_keyedhash_scheme_arm, tpmu_keyedhash_scheme_body, tpmu_keyedhash_scheme}
use Rattle.steps.proofs.Search.{by_arm, walking}
use Rattle.schemes.specs.Parts.{tpmu_keyedhash_scheme_parts}
use Rattle.schemes.proofs.tpmu.TpmuKeyedhashSchemeTpmTagged.walk_tagged.Goals as goal

pub returns-in-Hmac : goal.returns-in-Hmac
unfolding tpmu_keyedhash_scheme
returns-in-Hmac c = search (by_arm tpmu_keyedhash_scheme_parts tpmu_keyedhash_scheme_arm tpmu_keyedhash_scheme_body, walking)

pub returns-in-Xor : goal.returns-in-Xor
unfolding tpmu_keyedhash_scheme
returns-in-Xor c = search (by_arm tpmu_keyedhash_scheme_parts tpmu_keyedhash_scheme_arm tpmu_keyedhash_scheme_body, walking)

pub returns-in-Null : goal.returns-in-Null
unfolding tpmu_keyedhash_scheme
returns-in-Null c = search (by_arm tpmu_keyedhash_scheme_parts tpmu_keyedhash_scheme_arm tpmu_keyedhash_scheme_body, walking)
