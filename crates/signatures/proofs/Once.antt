-- The parts of each type determine it, and no two answers of this crate mean the same. Assumes nothing.
use mathlib.Core.Path.{refl}
use mathlib.Core.List.{[], ◌∷◌}
use Rattle.wire.proofs.Once.{Injective, Once, span_once, both, fields, holds, bare, union}
use Rattle.wire.proofs.Answers.{answer_once}
use Rattle.wire.specs.Answers.{answer}
use Rattle.codes.specs.Codes.{hmac, null, rsassa, rsapss, ecdsa, ecdaa, sm2, ecschnorr}
use Rattle.codes.proofs.Once.{tpm_alg_id_once}
use Rattle.ciphers.proofs.Once.{tpmt_ha_once}
use Rattle.signatures.specs.declared.tpmu.TpmuSignature.{TpmuSignature}
use Rattle.signatures.specs.Parts.{tpms_signature_rsa_parts, tpms_signature_ecc_parts, tpmu_signature_parts, tpmt_signature_parts}

-- ---- structures

pub tpms_signature_rsa_once : Once tpms_signature_rsa_parts
tpms_signature_rsa_once = fields (λ s. (s.hash, s.sig)) (λ (a, b). record { hash = a; sig = b }) (λ s. refl) (both tpm_alg_id_once span_once)

pub tpms_signature_ecc_once : Once tpms_signature_ecc_parts
tpms_signature_ecc_once = fields (λ s. (s.hash, (s.signature_r, s.signature_s))) (λ (a, (b, c)). record { hash = a; signature_r = b; signature_s = c }) (λ s. refl) (both tpm_alg_id_once (both span_once span_once))

-- ---- unions

pub tpmu_signature_once : Once tpmu_signature_parts
tpmu_signature_once =
    union
    (holds rsassa TpmuSignature.Rsassa tpms_signature_rsa_once
    ∷ holds rsapss TpmuSignature.Rsapss tpms_signature_rsa_once
    ∷ holds ecdsa TpmuSignature.Ecdsa tpms_signature_ecc_once
    ∷ holds ecdaa TpmuSignature.Ecdaa tpms_signature_ecc_once
    ∷ holds sm2 TpmuSignature.Sm2 tpms_signature_ecc_once
    ∷ holds ecschnorr TpmuSignature.Ecschnorr tpms_signature_ecc_once
    ∷ holds hmac TpmuSignature.Hmac tpmt_ha_once
    ∷ bare null TpmuSignature.Null
    ∷ [])
    (elim [
      | TpmuSignature.Rsassa x ↦ λ qs. rw (tpms_signature_rsa_once.back x qs)
      | TpmuSignature.Rsapss x ↦ λ qs. rw (tpms_signature_rsa_once.back x qs)
      | TpmuSignature.Ecdsa x ↦ λ qs. rw (tpms_signature_ecc_once.back x qs)
      | TpmuSignature.Ecdaa x ↦ λ qs. rw (tpms_signature_ecc_once.back x qs)
      | TpmuSignature.Sm2 x ↦ λ qs. rw (tpms_signature_ecc_once.back x qs)
      | TpmuSignature.Ecschnorr x ↦ λ qs. rw (tpms_signature_ecc_once.back x qs)
      | TpmuSignature.Hmac x ↦ λ qs. rw (tpmt_ha_once.back x qs)
      | TpmuSignature.Null ↦ λ qs. refl
    ])

-- ---- kind 10

pub tpmt_signature_once : Once tpmt_signature_parts
tpmt_signature_once = fields (λ s. (s.sig_alg, s.signature)) (λ (a, b). record { sig_alg = a; signature = b }) (λ s. refl) (both tpm_alg_id_once tpmu_signature_once)

-- ---- and so no two answers of a reader of one mean the same

pub tpms_signature_rsa_answer_once : Injective (answer tpms_signature_rsa_parts)
tpms_signature_rsa_answer_once = answer_once tpms_signature_rsa_once

pub tpms_signature_ecc_answer_once : Injective (answer tpms_signature_ecc_parts)
tpms_signature_ecc_answer_once = answer_once tpms_signature_ecc_once

pub tpmu_signature_answer_once : Injective (answer tpmu_signature_parts)
tpmu_signature_answer_once = answer_once tpmu_signature_once

pub tpmt_signature_answer_once : Injective (answer tpmt_signature_parts)
tpmt_signature_answer_once = answer_once tpmt_signature_once
