-- The parts of each type determine it, and no two answers of this crate mean the same. Assumes nothing.
use mathlib.Core.Path.{refl}
use mathlib.Core.List.{[], ◌∷◌}
use Rattle.wire.specs.Records.{num}
use Rattle.wire.proofs.Once.{Injective, Once, number_once, span_once, both, fields, holds, union}
use Rattle.wire.proofs.Answers.{answer_once}
use Rattle.wire.specs.Answers.{answer}
use Rattle.codes.specs.Codes.{ht_nv_index, ht_external_nv, ht_permanent_nv}
use Rattle.codes.proofs.Once.{tpm_alg_id_once, tpm_st_once, tpm_ht_once, tpm_rh_once}
use Rattle.areas.specs.declared.tpms.TpmaNv.{TpmaNv}
use Rattle.areas.specs.declared.tpms.TpmaNvExp.{TpmaNvExp}
use Rattle.areas.specs.declared.tpmu.TpmuNvPublic2.{TpmuNvPublic2}
use Rattle.areas.specs.Parts.{ticket_body_parts, nv_public_tail_parts, tpms_nv_public_parts, tpms_nv_public_exp_attr_parts, tpmu_nv_public2_parts, tpmt_nv_public2_parts, tpmt_tk_creation_parts, tpmt_tk_verified_parts, tpmt_tk_hashcheck_parts, tpmt_tk_auth_parts}

tpma_nv_once : Once (λ (a : TpmaNv). num a.0 ∷ [])
tpma_nv_once = fields (λ a. a.0) (λ n. record { 0 = n }) (λ a. refl) number_once

tpma_nv_exp_once : Once (λ (a : TpmaNvExp). num a.0 ∷ [])
tpma_nv_exp_once = fields (λ a. a.0) (λ n. record { 0 = n }) (λ a. refl) number_once

pub nv_public_tail_once : Once nv_public_tail_parts
nv_public_tail_once = fields (λ x. (x.auth_policy, x.data_size)) (λ (a, b). record { auth_policy = a; data_size = b }) (λ x. refl) (both span_once number_once)

pub tpms_nv_public_once : Once tpms_nv_public_parts
tpms_nv_public_once =
    fields (λ x. (x.nv_index, (x.name_alg, (x.attributes, (x.auth_policy, x.data_size)))))
    (λ (a, (b, (c, (d, e)))). record { nv_index = a; name_alg = b; attributes = c; auth_policy = d; data_size = e }) (λ x. refl)
    (both number_once (both tpm_alg_id_once (both tpma_nv_once (both span_once number_once))))

pub tpms_nv_public_exp_attr_once : Once tpms_nv_public_exp_attr_parts
tpms_nv_public_exp_attr_once =
    fields (λ x. (x.nv_index, (x.name_alg, (x.attributes, (x.auth_policy, x.data_size)))))
    (λ (a, (b, (c, (d, e)))). record { nv_index = a; name_alg = b; attributes = c; auth_policy = d; data_size = e }) (λ x. refl)
    (both number_once (both tpm_alg_id_once (both tpma_nv_exp_once (both span_once number_once))))

pub tpmu_nv_public2_once : Once tpmu_nv_public2_parts
tpmu_nv_public2_once =
    union
    (holds ht_nv_index TpmuNvPublic2.NvIndex tpms_nv_public_once
    ∷ holds ht_external_nv TpmuNvPublic2.ExternalNv tpms_nv_public_exp_attr_once
    ∷ holds ht_permanent_nv TpmuNvPublic2.PermanentNv tpms_nv_public_once
    ∷ [])
    (elim [
      | TpmuNvPublic2.NvIndex x ↦ λ qs. rw (tpms_nv_public_once.back x qs)
      | TpmuNvPublic2.ExternalNv x ↦ λ qs. rw (tpms_nv_public_exp_attr_once.back x qs)
      | TpmuNvPublic2.PermanentNv x ↦ λ qs. rw (tpms_nv_public_once.back x qs)
    ])

pub tpmt_nv_public2_once : Once tpmt_nv_public2_parts
tpmt_nv_public2_once = fields (λ x. (x.handle_type, x.public_area)) (λ (a, b). record { handle_type = a; public_area = b }) (λ x. refl) (both tpm_ht_once tpmu_nv_public2_once)

pub ticket_body_once : Once ticket_body_parts
ticket_body_once = fields (λ x. (x.hierarchy, x.digest)) (λ (a, b). record { hierarchy = a; digest = b }) (λ x. refl) (both tpm_rh_once span_once)

pub tpmt_tk_creation_once : Once tpmt_tk_creation_parts
tpmt_tk_creation_once = fields (λ x. (x.tag, (x.hierarchy, x.digest))) (λ (a, (b, c)). record { tag = a; hierarchy = b; digest = c }) (λ x. refl) (both tpm_st_once (both tpm_rh_once span_once))

pub tpmt_tk_verified_once : Once tpmt_tk_verified_parts
tpmt_tk_verified_once = fields (λ x. (x.tag, (x.hierarchy, x.digest))) (λ (a, (b, c)). record { tag = a; hierarchy = b; digest = c }) (λ x. refl) (both tpm_st_once (both tpm_rh_once span_once))

pub tpmt_tk_hashcheck_once : Once tpmt_tk_hashcheck_parts
tpmt_tk_hashcheck_once = fields (λ x. (x.tag, (x.hierarchy, x.digest))) (λ (a, (b, c)). record { tag = a; hierarchy = b; digest = c }) (λ x. refl) (both tpm_st_once (both tpm_rh_once span_once))

pub tpmt_tk_auth_once : Once tpmt_tk_auth_parts
tpmt_tk_auth_once = fields (λ x. (x.tag, (x.hierarchy, x.digest))) (λ (a, (b, c)). record { tag = a; hierarchy = b; digest = c }) (λ x. refl) (both tpm_st_once (both tpm_rh_once span_once))

-- ---- and so no two answers of a reader of one mean the same

pub ticket_body_answer_once : Injective (answer ticket_body_parts)
ticket_body_answer_once = answer_once ticket_body_once

pub nv_public_tail_answer_once : Injective (answer nv_public_tail_parts)
nv_public_tail_answer_once = answer_once nv_public_tail_once

pub tpms_nv_public_answer_once : Injective (answer tpms_nv_public_parts)
tpms_nv_public_answer_once = answer_once tpms_nv_public_once

pub tpms_nv_public_exp_attr_answer_once : Injective (answer tpms_nv_public_exp_attr_parts)
tpms_nv_public_exp_attr_answer_once = answer_once tpms_nv_public_exp_attr_once

pub tpmu_nv_public2_answer_once : Injective (answer tpmu_nv_public2_parts)
tpmu_nv_public2_answer_once = answer_once tpmu_nv_public2_once

pub tpmt_nv_public2_answer_once : Injective (answer tpmt_nv_public2_parts)
tpmt_nv_public2_answer_once = answer_once tpmt_nv_public2_once

pub tpmt_tk_creation_answer_once : Injective (answer tpmt_tk_creation_parts)
tpmt_tk_creation_answer_once = answer_once tpmt_tk_creation_once

pub tpmt_tk_verified_answer_once : Injective (answer tpmt_tk_verified_parts)
tpmt_tk_verified_answer_once = answer_once tpmt_tk_verified_once

pub tpmt_tk_hashcheck_answer_once : Injective (answer tpmt_tk_hashcheck_parts)
tpmt_tk_hashcheck_answer_once = answer_once tpmt_tk_hashcheck_once

pub tpmt_tk_auth_answer_once : Injective (answer tpmt_tk_auth_parts)
tpmt_tk_auth_answer_once = answer_once tpmt_tk_auth_once
