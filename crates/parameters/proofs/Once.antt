-- The parts of each type determine it, and no two answers of this crate mean the same. Assumes nothing.
use mathlib.Core.Path.{refl}
use mathlib.Core.List.{[], ◌∷◌}
use Rattle.wire.proofs.Once.{Injective, Once, number_once, both, fields, holds, bare, union}
use Rattle.wire.proofs.Answers.{answer_once}
use Rattle.wire.specs.Answers.{answer}
use Rattle.codes.specs.Codes.{rsa, keyed_hash, null, ecc, sym_cipher}
use Rattle.codes.proofs.Once.{tpm_alg_id_once, tpm_ecc_curve_once}
use Rattle.ciphers.proofs.Once.{tpmt_sym_def_once}
use Rattle.schemes.proofs.Once.{tpmt_kdf_scheme_once, tpmt_keyedhash_scheme_once, tpmt_rsa_scheme_once, tpmt_ecc_scheme_once}
use Rattle.parameters.specs.declared.tpmu.TpmuPublicParms.{TpmuPublicParms}
use Rattle.parameters.specs.Parts.{tpms_keyedhash_parms_parts, tpms_symcipher_parms_parts, tpms_rsa_parms_parts, tpms_ecc_parms_parts, tpmu_public_parms_parts, tpmt_public_parms_parts}

-- ---- structures

pub tpms_keyedhash_parms_once : Once tpms_keyedhash_parms_parts
tpms_keyedhash_parms_once = fields (λ s. s.scheme) (λ a. record { scheme = a }) (λ s. refl) tpmt_keyedhash_scheme_once

pub tpms_symcipher_parms_once : Once tpms_symcipher_parms_parts
tpms_symcipher_parms_once = fields (λ s. s.sym) (λ a. record { sym = a }) (λ s. refl) tpmt_sym_def_once

pub tpms_rsa_parms_once : Once tpms_rsa_parms_parts
tpms_rsa_parms_once = fields (λ s. (s.symmetric, (s.scheme, (s.key_bits, s.exponent)))) (λ (a, (b, (c, d))). record { symmetric = a; scheme = b; key_bits = c; exponent = d }) (λ s. refl) (both tpmt_sym_def_once (both tpmt_rsa_scheme_once (both number_once number_once)))

pub tpms_ecc_parms_once : Once tpms_ecc_parms_parts
tpms_ecc_parms_once = fields (λ s. (s.symmetric, (s.scheme, (s.curve_id, s.kdf)))) (λ (a, (b, (c, d))). record { symmetric = a; scheme = b; curve_id = c; kdf = d }) (λ s. refl) (both tpmt_sym_def_once (both tpmt_ecc_scheme_once (both tpm_ecc_curve_once tpmt_kdf_scheme_once)))

-- ---- unions

pub tpmu_public_parms_once : Once tpmu_public_parms_parts
tpmu_public_parms_once =
    union
    (holds keyed_hash TpmuPublicParms.KeyedHash tpms_keyedhash_parms_once
    ∷ holds sym_cipher TpmuPublicParms.SymCipher tpms_symcipher_parms_once
    ∷ holds rsa TpmuPublicParms.Rsa tpms_rsa_parms_once
    ∷ holds ecc TpmuPublicParms.Ecc tpms_ecc_parms_once
    ∷ bare null TpmuPublicParms.Null
    ∷ [])
    (elim [
      | TpmuPublicParms.KeyedHash x ↦ λ qs. rw (tpms_keyedhash_parms_once.back x qs)
      | TpmuPublicParms.SymCipher x ↦ λ qs. rw (tpms_symcipher_parms_once.back x qs)
      | TpmuPublicParms.Rsa x ↦ λ qs. rw (tpms_rsa_parms_once.back x qs)
      | TpmuPublicParms.Ecc x ↦ λ qs. rw (tpms_ecc_parms_once.back x qs)
      | TpmuPublicParms.Null ↦ λ qs. refl
    ])

-- ---- kind 9

pub tpmt_public_parms_once : Once tpmt_public_parms_parts
tpmt_public_parms_once = fields (λ s. (s.object_type, s.parameters)) (λ (a, b). record { object_type = a; parameters = b }) (λ s. refl) (both tpm_alg_id_once tpmu_public_parms_once)

-- ---- and so no two answers of a reader of one mean the same

pub tpms_keyedhash_parms_answer_once : Injective (answer tpms_keyedhash_parms_parts)
tpms_keyedhash_parms_answer_once = answer_once tpms_keyedhash_parms_once

pub tpms_symcipher_parms_answer_once : Injective (answer tpms_symcipher_parms_parts)
tpms_symcipher_parms_answer_once = answer_once tpms_symcipher_parms_once

pub tpms_rsa_parms_answer_once : Injective (answer tpms_rsa_parms_parts)
tpms_rsa_parms_answer_once = answer_once tpms_rsa_parms_once

pub tpms_ecc_parms_answer_once : Injective (answer tpms_ecc_parms_parts)
tpms_ecc_parms_answer_once = answer_once tpms_ecc_parms_once

pub tpmu_public_parms_answer_once : Injective (answer tpmu_public_parms_parts)
tpmu_public_parms_answer_once = answer_once tpmu_public_parms_once

pub tpmt_public_parms_answer_once : Injective (answer tpmt_public_parms_parts)
tpmt_public_parms_answer_once = answer_once tpmt_public_parms_once
