-- The parts of each type determine it, and no two answers of this crate mean the same. Assumes nothing.
use mathlib.Core.Path.{refl}
use mathlib.Core.List.{[], ◌∷◌}
use Rattle.wire.proofs.Once.{Injective, Once, number_once, both, fields, holds, bare, union}
use Rattle.wire.proofs.Answers.{answer_once}
use Rattle.wire.specs.Answers.{answer}
use Rattle.codes.specs.Codes.{hmac, mgf1, xor, null, ecdaa, kdf1_sp800_56a, kdf2, kdf1_sp800_108}
use Rattle.format.specs.Kinds.{hash}
use Rattle.codes.proofs.Once.{tpm_alg_id_once}
use Rattle.schemes.specs.declared.tpmu.TpmuAsymScheme.{TpmuAsymScheme}
use Rattle.schemes.specs.declared.tpmu.TpmuSigScheme.{TpmuSigScheme}
use Rattle.schemes.specs.declared.tpmu.TpmuKeyedhashScheme.{TpmuKeyedhashScheme}
use Rattle.schemes.specs.declared.tpmu.TpmuKdfScheme.{TpmuKdfScheme}
use Rattle.schemes.specs.Parts.{tpms_scheme_hash_parts, tpms_scheme_ecdaa_parts, tpms_scheme_xor_parts, tpmu_asym_scheme_parts, tpmu_sig_scheme_parts, tpmu_keyedhash_scheme_parts, tpmu_kdf_scheme_parts, tpmt_kdf_scheme_parts, tpmt_keyedhash_scheme_parts, tpmt_sig_scheme_parts, tpmt_rsa_scheme_parts, tpmt_ecc_scheme_parts, tpmt_rsa_decrypt_parts}

-- ---- structures that schemes hold

pub tpms_scheme_hash_once : Once tpms_scheme_hash_parts
tpms_scheme_hash_once = fields (λ s. s.hash_alg) (λ f. record { hash_alg = f }) (λ s. refl) tpm_alg_id_once

pub tpms_scheme_ecdaa_once : Once tpms_scheme_ecdaa_parts
tpms_scheme_ecdaa_once = fields (λ s. (s.hash_alg, s.count)) (λ (a, n). record { hash_alg = a; count = n }) (λ s. refl) (both tpm_alg_id_once number_once)

pub tpms_scheme_xor_once : Once tpms_scheme_xor_parts
tpms_scheme_xor_once = fields (λ s. (s.hash_alg, s.kdf)) (λ (a, b). record { hash_alg = a; kdf = b }) (λ s. refl) (both tpm_alg_id_once tpm_alg_id_once)

-- ---- unions

pub tpmu_asym_scheme_once : Once tpmu_asym_scheme_parts
tpmu_asym_scheme_once =
    union
    (holds hash TpmuAsymScheme.Hash tpms_scheme_hash_once
    ∷ holds ecdaa TpmuAsymScheme.Ecdaa tpms_scheme_ecdaa_once
    ∷ bare null TpmuAsymScheme.Null
    ∷ [])
    (elim [
      | TpmuAsymScheme.Hash x ↦ λ qs. rw (tpms_scheme_hash_once.back x qs)
      | TpmuAsymScheme.Ecdaa x ↦ λ qs. rw (tpms_scheme_ecdaa_once.back x qs)
      | TpmuAsymScheme.Null ↦ λ qs. refl
    ])

pub tpmu_sig_scheme_once : Once tpmu_sig_scheme_parts
tpmu_sig_scheme_once =
    union
    (holds hash TpmuSigScheme.Hash tpms_scheme_hash_once
    ∷ holds hmac TpmuSigScheme.Hmac tpms_scheme_hash_once
    ∷ holds ecdaa TpmuSigScheme.Ecdaa tpms_scheme_ecdaa_once
    ∷ bare null TpmuSigScheme.Null
    ∷ [])
    (elim [
      | TpmuSigScheme.Hash x ↦ λ qs. rw (tpms_scheme_hash_once.back x qs)
      | TpmuSigScheme.Hmac x ↦ λ qs. rw (tpms_scheme_hash_once.back x qs)
      | TpmuSigScheme.Ecdaa x ↦ λ qs. rw (tpms_scheme_ecdaa_once.back x qs)
      | TpmuSigScheme.Null ↦ λ qs. refl
    ])

pub tpmu_keyedhash_scheme_once : Once tpmu_keyedhash_scheme_parts
tpmu_keyedhash_scheme_once =
    union
    (holds hmac TpmuKeyedhashScheme.Hmac tpms_scheme_hash_once
    ∷ holds xor TpmuKeyedhashScheme.Xor tpms_scheme_xor_once
    ∷ bare null TpmuKeyedhashScheme.Null
    ∷ [])
    (elim [
      | TpmuKeyedhashScheme.Hmac x ↦ λ qs. rw (tpms_scheme_hash_once.back x qs)
      | TpmuKeyedhashScheme.Xor x ↦ λ qs. rw (tpms_scheme_xor_once.back x qs)
      | TpmuKeyedhashScheme.Null ↦ λ qs. refl
    ])

pub tpmu_kdf_scheme_once : Once tpmu_kdf_scheme_parts
tpmu_kdf_scheme_once =
    union
    (holds mgf1 TpmuKdfScheme.Mgf1 tpms_scheme_hash_once
    ∷ holds kdf1_sp800_56a TpmuKdfScheme.Kdf1Sp800_56a tpms_scheme_hash_once
    ∷ holds kdf2 TpmuKdfScheme.Kdf2 tpms_scheme_hash_once
    ∷ holds kdf1_sp800_108 TpmuKdfScheme.Kdf1Sp800_108 tpms_scheme_hash_once
    ∷ bare null TpmuKdfScheme.Null
    ∷ [])
    (elim [
      | TpmuKdfScheme.Mgf1 x ↦ λ qs. rw (tpms_scheme_hash_once.back x qs)
      | TpmuKdfScheme.Kdf1Sp800_56a x ↦ λ qs. rw (tpms_scheme_hash_once.back x qs)
      | TpmuKdfScheme.Kdf2 x ↦ λ qs. rw (tpms_scheme_hash_once.back x qs)
      | TpmuKdfScheme.Kdf1Sp800_108 x ↦ λ qs. rw (tpms_scheme_hash_once.back x qs)
      | TpmuKdfScheme.Null ↦ λ qs. refl
    ])

-- ---- kinds 3 to 8

pub tpmt_kdf_scheme_once : Once tpmt_kdf_scheme_parts
tpmt_kdf_scheme_once = fields (λ s. (s.scheme, s.details)) (λ (a, d). record { scheme = a; details = d }) (λ s. refl) (both tpm_alg_id_once tpmu_kdf_scheme_once)

pub tpmt_keyedhash_scheme_once : Once tpmt_keyedhash_scheme_parts
tpmt_keyedhash_scheme_once = fields (λ s. (s.scheme, s.details)) (λ (a, d). record { scheme = a; details = d }) (λ s. refl) (both tpm_alg_id_once tpmu_keyedhash_scheme_once)

pub tpmt_sig_scheme_once : Once tpmt_sig_scheme_parts
tpmt_sig_scheme_once = fields (λ s. (s.scheme, s.details)) (λ (a, d). record { scheme = a; details = d }) (λ s. refl) (both tpm_alg_id_once tpmu_sig_scheme_once)

pub tpmt_rsa_scheme_once : Once tpmt_rsa_scheme_parts
tpmt_rsa_scheme_once = fields (λ s. (s.scheme, s.details)) (λ (a, d). record { scheme = a; details = d }) (λ s. refl) (both tpm_alg_id_once tpmu_asym_scheme_once)

pub tpmt_ecc_scheme_once : Once tpmt_ecc_scheme_parts
tpmt_ecc_scheme_once = fields (λ s. (s.scheme, s.details)) (λ (a, d). record { scheme = a; details = d }) (λ s. refl) (both tpm_alg_id_once tpmu_asym_scheme_once)

pub tpmt_rsa_decrypt_once : Once tpmt_rsa_decrypt_parts
tpmt_rsa_decrypt_once = fields (λ s. (s.scheme, s.details)) (λ (a, d). record { scheme = a; details = d }) (λ s. refl) (both tpm_alg_id_once tpmu_asym_scheme_once)

-- ---- and so no two answers of a reader of one mean the same

pub tpms_scheme_hash_answer_once : Injective (answer tpms_scheme_hash_parts)
tpms_scheme_hash_answer_once = answer_once tpms_scheme_hash_once

pub tpms_scheme_ecdaa_answer_once : Injective (answer tpms_scheme_ecdaa_parts)
tpms_scheme_ecdaa_answer_once = answer_once tpms_scheme_ecdaa_once

pub tpms_scheme_xor_answer_once : Injective (answer tpms_scheme_xor_parts)
tpms_scheme_xor_answer_once = answer_once tpms_scheme_xor_once

pub tpmu_asym_scheme_answer_once : Injective (answer tpmu_asym_scheme_parts)
tpmu_asym_scheme_answer_once = answer_once tpmu_asym_scheme_once

pub tpmu_sig_scheme_answer_once : Injective (answer tpmu_sig_scheme_parts)
tpmu_sig_scheme_answer_once = answer_once tpmu_sig_scheme_once

pub tpmu_keyedhash_scheme_answer_once : Injective (answer tpmu_keyedhash_scheme_parts)
tpmu_keyedhash_scheme_answer_once = answer_once tpmu_keyedhash_scheme_once

pub tpmu_kdf_scheme_answer_once : Injective (answer tpmu_kdf_scheme_parts)
tpmu_kdf_scheme_answer_once = answer_once tpmu_kdf_scheme_once

pub tpmt_kdf_scheme_answer_once : Injective (answer tpmt_kdf_scheme_parts)
tpmt_kdf_scheme_answer_once = answer_once tpmt_kdf_scheme_once

pub tpmt_keyedhash_scheme_answer_once : Injective (answer tpmt_keyedhash_scheme_parts)
tpmt_keyedhash_scheme_answer_once = answer_once tpmt_keyedhash_scheme_once

pub tpmt_sig_scheme_answer_once : Injective (answer tpmt_sig_scheme_parts)
tpmt_sig_scheme_answer_once = answer_once tpmt_sig_scheme_once

pub tpmt_rsa_scheme_answer_once : Injective (answer tpmt_rsa_scheme_parts)
tpmt_rsa_scheme_answer_once = answer_once tpmt_rsa_scheme_once

pub tpmt_ecc_scheme_answer_once : Injective (answer tpmt_ecc_scheme_parts)
tpmt_ecc_scheme_answer_once = answer_once tpmt_ecc_scheme_once

pub tpmt_rsa_decrypt_answer_once : Injective (answer tpmt_rsa_decrypt_parts)
tpmt_rsa_decrypt_answer_once = answer_once tpmt_rsa_decrypt_once
