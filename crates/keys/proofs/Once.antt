-- The parts of each type determine it, and no two answers of this crate mean the same. Assumes nothing.
use mathlib.Core.Path.{refl}
use mathlib.Core.List.{[], ◌∷◌}
use Rattle.wire.proofs.Once.{Injective, Once, number_once, span_once, both, fields, holds, bare, union}
use Rattle.wire.proofs.Answers.{answer_once}
use Rattle.wire.specs.Answers.{answer}
use Rattle.wire.specs.Records.{num}
use Rattle.codes.specs.Codes.{rsa, keyed_hash, null, ecc, sym_cipher}
use Rattle.codes.proofs.Once.{tpm_alg_id_once}
use Rattle.parameters.proofs.Once.{tpmu_public_parms_once}
use Rattle.keys.specs.declared.tpmu.TpmuPublicId.{TpmuPublicId}
use Rattle.keys.specs.declared.tpmt.TpmaObject.{TpmaObject}
use Rattle.keys.specs.Parts.{tpms_ecc_point_parts, tpmu_public_id_parts, tpmt_public_parts}

-- ---- structures

pub tpms_ecc_point_once : Once tpms_ecc_point_parts
tpms_ecc_point_once = fields (λ s. (s.x, s.y)) (λ (a, b). record { x = a; y = b }) (λ s. refl) (both span_once span_once)

-- ---- unions

pub tpmu_public_id_once : Once tpmu_public_id_parts
tpmu_public_id_once =
    union
    (holds keyed_hash TpmuPublicId.KeyedHash span_once
    ∷ holds sym_cipher TpmuPublicId.SymCipher span_once
    ∷ holds rsa TpmuPublicId.Rsa span_once
    ∷ holds ecc TpmuPublicId.Ecc tpms_ecc_point_once
    ∷ bare null TpmuPublicId.Null
    ∷ [])
    (elim [
      | TpmuPublicId.KeyedHash x ↦ λ qs. rw (span_once.back x qs)
      | TpmuPublicId.SymCipher x ↦ λ qs. rw (span_once.back x qs)
      | TpmuPublicId.Rsa x ↦ λ qs. rw (span_once.back x qs)
      | TpmuPublicId.Ecc x ↦ λ qs. rw (tpms_ecc_point_once.back x qs)
      | TpmuPublicId.Null ↦ λ qs. refl
    ])

-- ---- kind 11

pub tpma_object_once : Once (λ (a : TpmaObject). num a.0 ∷ [])
tpma_object_once = fields (λ a. a.0) (λ n. record { 0 = n }) (λ a. refl) number_once

pub tpmt_public_once : Once tpmt_public_parts
tpmt_public_once = fields (λ s. (s.object_type, (s.name_alg, (s.object_attributes, (s.auth_policy, (s.parameters, s.unique)))))) (λ (a, (b, (c, (d, (e, f))))). record { object_type = a; name_alg = b; object_attributes = c; auth_policy = d; parameters = e; unique = f }) (λ s. refl) (both tpm_alg_id_once (both tpm_alg_id_once (both tpma_object_once (both span_once (both tpmu_public_parms_once tpmu_public_id_once)))))

-- ---- and so no two answers of a reader of one mean the same

pub tpms_ecc_point_answer_once : Injective (answer tpms_ecc_point_parts)
tpms_ecc_point_answer_once = answer_once tpms_ecc_point_once

pub tpmu_public_id_answer_once : Injective (answer tpmu_public_id_parts)
tpmu_public_id_answer_once = answer_once tpmu_public_id_once

pub tpmt_public_answer_once : Injective (answer tpmt_public_parts)
tpmt_public_answer_once = answer_once tpmt_public_once
