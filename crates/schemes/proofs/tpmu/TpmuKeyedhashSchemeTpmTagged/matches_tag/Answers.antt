-- The selector is held against the arm's own code. Assumes nothing.
use Rattle.format.specs.Kinds.{tpmu_keyedhash_scheme_table, tpmu_keyedhash_scheme_arm}
use Rattle.steps.proofs.Matches.{by_code}
use Rattle.schemes.specs.Parts.{tpmu_keyedhash_scheme_parts}
use Rattle.schemes.proofs.tpmu.TpmuKeyedhashSchemeTpmTagged.matches_tag.Goals as goal

pub returns-in-Hmac : goal.returns-in-Hmac
unfolding tpmu_keyedhash_scheme_arm
returns-in-Hmac c = search (by_code tpmu_keyedhash_scheme_parts tpmu_keyedhash_scheme_table)

pub returns-in-Xor : goal.returns-in-Xor
unfolding tpmu_keyedhash_scheme_arm
returns-in-Xor c = search (by_code tpmu_keyedhash_scheme_parts tpmu_keyedhash_scheme_table)

pub returns-in-Null : goal.returns-in-Null
unfolding tpmu_keyedhash_scheme_arm
returns-in-Null c = search (by_code tpmu_keyedhash_scheme_parts tpmu_keyedhash_scheme_table)
