-- The parts of each type determine it, and no two answers of this crate mean the same. Assumes nothing.
use mathlib.Core.Path.{refl}
use mathlib.Core.List.{[], ◌∷◌}
use Rattle.wire.proofs.Once.{Injective, Once, number_once, span_once, both, fields, holds, union}
use Rattle.wire.proofs.Answers.{answer_once}
use Rattle.wire.specs.Answers.{answer}
use Rattle.codes.specs.Codes.{attest_nv, attest_command_audit, attest_session_audit, attest_certify, attest_quote, attest_time, attest_creation, attest_nv_digest}
use Rattle.codes.proofs.Once.{tpm_alg_id_once, tpm_st_once}
use Rattle.attest.specs.declared.tpmu.TpmuAttest.{TpmuAttest}
use Rattle.attest.specs.Parts.{tpml_pcr_selection_parts, tpms_clock_info_parts, tpms_time_info_parts, tpms_certify_info_parts, tpms_creation_info_parts, tpms_quote_info_parts, tpms_command_audit_info_parts, tpms_session_audit_info_parts, tpms_time_attest_info_parts, tpms_nv_certify_info_parts, tpms_nv_digest_certify_info_parts, tpmu_attest_parts, tpms_attest_parts}

-- ---- kind 14

pub tpml_pcr_selection_once : Once tpml_pcr_selection_parts
tpml_pcr_selection_once = fields (λ s. s.items) (λ f. record { items = f }) (λ s. refl) span_once

-- ---- structures

pub tpms_clock_info_once : Once tpms_clock_info_parts
tpms_clock_info_once = fields (λ s. (s.clock, (s.reset_count, (s.restart_count, s.safe)))) (λ (a, (b, (c, d))). record { clock = a; reset_count = b; restart_count = c; safe = d }) (λ s. refl) (both number_once (both number_once (both number_once number_once)))

pub tpms_time_info_once : Once tpms_time_info_parts
tpms_time_info_once = fields (λ s. (s.time, s.clock_info)) (λ (a, b). record { time = a; clock_info = b }) (λ s. refl) (both number_once tpms_clock_info_once)

pub tpms_certify_info_once : Once tpms_certify_info_parts
tpms_certify_info_once = fields (λ s. (s.name, s.qualified_name)) (λ (a, b). record { name = a; qualified_name = b }) (λ s. refl) (both span_once span_once)

pub tpms_creation_info_once : Once tpms_creation_info_parts
tpms_creation_info_once = fields (λ s. (s.object_name, s.creation_hash)) (λ (a, b). record { object_name = a; creation_hash = b }) (λ s. refl) (both span_once span_once)

pub tpms_quote_info_once : Once tpms_quote_info_parts
tpms_quote_info_once = fields (λ s. (s.pcr_select, s.pcr_digest)) (λ (a, b). record { pcr_select = a; pcr_digest = b }) (λ s. refl) (both tpml_pcr_selection_once span_once)

pub tpms_command_audit_info_once : Once tpms_command_audit_info_parts
tpms_command_audit_info_once = fields (λ s. (s.audit_counter, (s.digest_alg, (s.audit_digest, s.command_digest)))) (λ (a, (b, (c, d))). record { audit_counter = a; digest_alg = b; audit_digest = c; command_digest = d }) (λ s. refl) (both number_once (both tpm_alg_id_once (both span_once span_once)))

pub tpms_session_audit_info_once : Once tpms_session_audit_info_parts
tpms_session_audit_info_once = fields (λ s. (s.exclusive_session, s.session_digest)) (λ (a, b). record { exclusive_session = a; session_digest = b }) (λ s. refl) (both number_once span_once)

pub tpms_time_attest_info_once : Once tpms_time_attest_info_parts
tpms_time_attest_info_once = fields (λ s. (s.time, s.firmware_version)) (λ (a, b). record { time = a; firmware_version = b }) (λ s. refl) (both tpms_time_info_once number_once)

pub tpms_nv_certify_info_once : Once tpms_nv_certify_info_parts
tpms_nv_certify_info_once = fields (λ s. (s.index_name, (s.offset, s.nv_contents))) (λ (a, (b, c)). record { index_name = a; offset = b; nv_contents = c }) (λ s. refl) (both span_once (both number_once span_once))

pub tpms_nv_digest_certify_info_once : Once tpms_nv_digest_certify_info_parts
tpms_nv_digest_certify_info_once = fields (λ s. (s.index_name, s.nv_digest)) (λ (a, b). record { index_name = a; nv_digest = b }) (λ s. refl) (both span_once span_once)

-- ---- the union

pub tpmu_attest_once : Once tpmu_attest_parts
tpmu_attest_once =
    union
    (holds attest_certify TpmuAttest.Certify tpms_certify_info_once
    ∷ holds attest_creation TpmuAttest.Creation tpms_creation_info_once
    ∷ holds attest_quote TpmuAttest.Quote tpms_quote_info_once
    ∷ holds attest_command_audit TpmuAttest.CommandAudit tpms_command_audit_info_once
    ∷ holds attest_session_audit TpmuAttest.SessionAudit tpms_session_audit_info_once
    ∷ holds attest_time TpmuAttest.Time tpms_time_attest_info_once
    ∷ holds attest_nv TpmuAttest.Nv tpms_nv_certify_info_once
    ∷ holds attest_nv_digest TpmuAttest.NvDigest tpms_nv_digest_certify_info_once
    ∷ [])
    (elim [
      | TpmuAttest.Certify x ↦ λ qs. rw (tpms_certify_info_once.back x qs)
      | TpmuAttest.Creation x ↦ λ qs. rw (tpms_creation_info_once.back x qs)
      | TpmuAttest.Quote x ↦ λ qs. rw (tpms_quote_info_once.back x qs)
      | TpmuAttest.CommandAudit x ↦ λ qs. rw (tpms_command_audit_info_once.back x qs)
      | TpmuAttest.SessionAudit x ↦ λ qs. rw (tpms_session_audit_info_once.back x qs)
      | TpmuAttest.Time x ↦ λ qs. rw (tpms_time_attest_info_once.back x qs)
      | TpmuAttest.Nv x ↦ λ qs. rw (tpms_nv_certify_info_once.back x qs)
      | TpmuAttest.NvDigest x ↦ λ qs. rw (tpms_nv_digest_certify_info_once.back x qs)
    ])

-- ---- kind 13

pub tpms_attest_once : Once tpms_attest_parts
tpms_attest_once = fields (λ s. (s.magic, (s.attest_type, (s.qualified_signer, (s.extra_data, (s.clock_info, (s.firmware_version, s.attested))))))) (λ (a, (b, (c, (d, (e, (f, g)))))). record { magic = a; attest_type = b; qualified_signer = c; extra_data = d; clock_info = e; firmware_version = f; attested = g }) (λ s. refl) (both number_once (both tpm_st_once (both span_once (both span_once (both tpms_clock_info_once (both number_once tpmu_attest_once))))))

-- ---- and so no two answers of a reader of one mean the same

pub tpml_pcr_selection_answer_once : Injective (answer tpml_pcr_selection_parts)
tpml_pcr_selection_answer_once = answer_once tpml_pcr_selection_once

pub tpms_clock_info_answer_once : Injective (answer tpms_clock_info_parts)
tpms_clock_info_answer_once = answer_once tpms_clock_info_once

pub tpms_time_info_answer_once : Injective (answer tpms_time_info_parts)
tpms_time_info_answer_once = answer_once tpms_time_info_once

pub tpms_certify_info_answer_once : Injective (answer tpms_certify_info_parts)
tpms_certify_info_answer_once = answer_once tpms_certify_info_once

pub tpms_creation_info_answer_once : Injective (answer tpms_creation_info_parts)
tpms_creation_info_answer_once = answer_once tpms_creation_info_once

pub tpms_quote_info_answer_once : Injective (answer tpms_quote_info_parts)
tpms_quote_info_answer_once = answer_once tpms_quote_info_once

pub tpms_command_audit_info_answer_once : Injective (answer tpms_command_audit_info_parts)
tpms_command_audit_info_answer_once = answer_once tpms_command_audit_info_once

pub tpms_session_audit_info_answer_once : Injective (answer tpms_session_audit_info_parts)
tpms_session_audit_info_answer_once = answer_once tpms_session_audit_info_once

pub tpms_time_attest_info_answer_once : Injective (answer tpms_time_attest_info_parts)
tpms_time_attest_info_answer_once = answer_once tpms_time_attest_info_once

pub tpms_nv_certify_info_answer_once : Injective (answer tpms_nv_certify_info_parts)
tpms_nv_certify_info_answer_once = answer_once tpms_nv_certify_info_once

pub tpms_nv_digest_certify_info_answer_once : Injective (answer tpms_nv_digest_certify_info_parts)
tpms_nv_digest_certify_info_answer_once = answer_once tpms_nv_digest_certify_info_once

pub tpmu_attest_answer_once : Injective (answer tpmu_attest_parts)
tpmu_attest_answer_once = answer_once tpmu_attest_once

pub tpms_attest_answer_once : Injective (answer tpms_attest_parts)
tpms_attest_answer_once = answer_once tpms_attest_once
