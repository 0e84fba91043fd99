-- The fields of the arm that is held, behind where it is due. Assumes nothing.
use Rattle.format.specs.Kinds.{tpmu_sig_scheme_arm, tpmu_sig_scheme_body, tpmu_sig_scheme}
use Rattle.wire.proofs.Search.{is_arm_lem}
use Rattle.steps.proofs.Search.{by_arm, walking}
use Rattle.schemes.specs.Parts.{tpmu_sig_scheme_parts}
use Rattle.schemes.proofs.tpmu.TpmuSigSchemeTpmTagged.walk_tagged.Goals as goal

pub returns-in-Hash : goal.returns-in-Hash
unfolding tpmu_sig_scheme
returns-in-Hash c = search (by_arm tpmu_sig_scheme_parts tpmu_sig_scheme_arm tpmu_sig_scheme_body, is_arm_lem tpmu_sig_scheme_parts, walking)

pub returns-in-Hmac : goal.returns-in-Hmac
unfolding tpmu_sig_scheme
returns-in-Hmac c = search (by_arm tpmu_sig_scheme_parts tpmu_sig_scheme_arm tpmu_sig_scheme_body, is_arm_lem tpmu_sig_scheme_parts, walking)

pub returns-in-Ecdaa : goal.returns-in-Ecdaa
unfolding tpmu_sig_scheme
returns-in-Ecdaa c = search (by_arm tpmu_sig_scheme_parts tpmu_sig_scheme_arm tpmu_sig_scheme_body, is_arm_lem tpmu_sig_scheme_parts, walking)

pub returns-in-Null : goal.returns-in-Null
unfolding tpmu_sig_scheme
returns-in-Null c = search (by_arm tpmu_sig_scheme_parts tpmu_sig_scheme_arm tpmu_sig_scheme_body, is_arm_lem tpmu_sig_scheme_parts, walking)
