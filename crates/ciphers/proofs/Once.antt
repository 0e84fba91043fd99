-- The parts of each type determine it, and no two answers of this crate mean the same. Assumes nothing.
use mathlib.Core.Path.{refl}
use mathlib.Core.Bool.{cond}
use mathlib.Core.List.{[], ◌∷◌}
use lib.Dec.{eqb}
use Rattle.wire.proofs.Once.{Injective, Once, number_once, span_once, both, fields, holds, bare, tagged, union}
use Rattle.wire.proofs.Answers.{answer_once}
use Rattle.codes.specs.Codes.{aes, xor, null, sm4, camellia}
use Rattle.wire.specs.Answers.{answer, len_of}
use Rattle.codes.proofs.Digests.{digest_not_empty}
use Rattle.codes.proofs.Once.{tpm_alg_id_once}
use Rattle.ciphers.specs.declared.tpmu.TpmuHa.{TpmuHa}
use Rattle.ciphers.specs.declared.tpmu.TpmuSymKeyBits.{TpmuSymKeyBits}
use Rattle.ciphers.specs.declared.tpmu.TpmuSymMode.{TpmuSymMode}
use Rattle.ciphers.specs.Parts.{tpmu_ha_parts, tpmu_sym_key_bits_parts, tpmu_sym_mode_parts, tpmt_ha_parts, tpmt_sym_def_parts}

-- ---- unions

-- a digest has an arm for each length
pub tpmu_ha_once : Once tpmu_ha_parts
tpmu_ha_once = record {
  take = tagged (λ t. cond (eqb t null) (bare t TpmuHa.Null).take (holds t TpmuHa.Digest span_once).take);
  back = elim [ TpmuHa.Null ↦ λ qs. refl | TpmuHa.Digest s ↦ λ qs. rw (digest_not_empty (len_of s), span_once.back s qs) ];
}

pub tpmu_sym_key_bits_once : Once tpmu_sym_key_bits_parts
tpmu_sym_key_bits_once =
    union
    (holds aes TpmuSymKeyBits.Aes number_once
    ∷ holds sm4 TpmuSymKeyBits.Sm4 number_once
    ∷ holds camellia TpmuSymKeyBits.Camellia number_once
    ∷ holds xor TpmuSymKeyBits.Xor tpm_alg_id_once
    ∷ bare null TpmuSymKeyBits.Null
    ∷ [])
    (elim [
      | TpmuSymKeyBits.Aes x ↦ λ qs. rw (number_once.back x qs)
      | TpmuSymKeyBits.Sm4 x ↦ λ qs. rw (number_once.back x qs)
      | TpmuSymKeyBits.Camellia x ↦ λ qs. rw (number_once.back x qs)
      | TpmuSymKeyBits.Xor x ↦ λ qs. rw (tpm_alg_id_once.back x qs)
      | TpmuSymKeyBits.Null ↦ λ qs. refl
    ])

pub tpmu_sym_mode_once : Once tpmu_sym_mode_parts
tpmu_sym_mode_once =
    union
    (holds aes TpmuSymMode.Aes tpm_alg_id_once
    ∷ holds sm4 TpmuSymMode.Sm4 tpm_alg_id_once
    ∷ holds camellia TpmuSymMode.Camellia tpm_alg_id_once
    ∷ bare null TpmuSymMode.Null
    ∷ [])
    (elim [
      | TpmuSymMode.Aes x ↦ λ qs. rw (tpm_alg_id_once.back x qs)
      | TpmuSymMode.Sm4 x ↦ λ qs. rw (tpm_alg_id_once.back x qs)
      | TpmuSymMode.Camellia x ↦ λ qs. rw (tpm_alg_id_once.back x qs)
      | TpmuSymMode.Null ↦ λ qs. refl
    ])

-- ---- kinds 1 and 2

pub tpmt_ha_once : Once tpmt_ha_parts
tpmt_ha_once = fields (λ s. (s.hash_alg, s.digest)) (λ (a, b). record { hash_alg = a; digest = b }) (λ s. refl) (both tpm_alg_id_once tpmu_ha_once)

pub tpmt_sym_def_once : Once tpmt_sym_def_parts
tpmt_sym_def_once = fields (λ s. (s.algorithm, (s.key_bits, s.mode))) (λ (a, (k, m)). record { algorithm = a; key_bits = k; mode = m }) (λ s. refl) (both tpm_alg_id_once (both tpmu_sym_key_bits_once tpmu_sym_mode_once))

-- ---- and so no two answers of a reader of one mean the same

pub tpmu_ha_answer_once : Injective (answer tpmu_ha_parts)
tpmu_ha_answer_once = answer_once tpmu_ha_once

pub tpmu_sym_key_bits_answer_once : Injective (answer tpmu_sym_key_bits_parts)
tpmu_sym_key_bits_answer_once = answer_once tpmu_sym_key_bits_once

pub tpmu_sym_mode_answer_once : Injective (answer tpmu_sym_mode_parts)
tpmu_sym_mode_answer_once = answer_once tpmu_sym_mode_once

pub tpmt_ha_answer_once : Injective (answer tpmt_ha_parts)
tpmt_ha_answer_once = answer_once tpmt_ha_once

pub tpmt_sym_def_answer_once : Injective (answer tpmt_sym_def_parts)
tpmt_sym_def_answer_once = answer_once tpmt_sym_def_once
