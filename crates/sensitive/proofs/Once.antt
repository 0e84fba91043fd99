-- The parts of each type determine it, and no two answers of this crate mean the same. Assumes nothing.
use mathlib.Core.Path.{refl}
use mathlib.Core.List.{[], ◌∷◌}
use Rattle.wire.proofs.Once.{Injective, Once, span_once, both, fields, holds, union}
use Rattle.wire.proofs.Answers.{answer_once}
use Rattle.wire.specs.Answers.{answer}
use Rattle.codes.specs.Codes.{rsa, keyed_hash, ecc, sym_cipher}
use Rattle.codes.proofs.Once.{tpm_alg_id_once}
use Rattle.sensitive.specs.declared.tpmu.TpmuSensitiveComposite.{TpmuSensitiveComposite}
use Rattle.sensitive.specs.Parts.{tpmu_sensitive_composite_parts, tpmt_sensitive_parts}

pub tpmu_sensitive_composite_once : Once tpmu_sensitive_composite_parts
tpmu_sensitive_composite_once =
    union
    (holds rsa TpmuSensitiveComposite.Rsa span_once
    ∷ holds ecc TpmuSensitiveComposite.Ecc span_once
    ∷ holds keyed_hash TpmuSensitiveComposite.Bits span_once
    ∷ holds sym_cipher TpmuSensitiveComposite.Sym span_once
    ∷ [])
    (elim [
      | TpmuSensitiveComposite.Rsa x ↦ λ qs. rw (span_once.back x qs)
      | TpmuSensitiveComposite.Ecc x ↦ λ qs. rw (span_once.back x qs)
      | TpmuSensitiveComposite.Bits x ↦ λ qs. rw (span_once.back x qs)
      | TpmuSensitiveComposite.Sym x ↦ λ qs. rw (span_once.back x qs)
    ])

pub tpmt_sensitive_once : Once tpmt_sensitive_parts
tpmt_sensitive_once = fields (λ s. (s.sensitive_type, (s.auth_value, (s.seed_value, s.sensitive)))) (λ (a, (b, (c, d))). record { sensitive_type = a; auth_value = b; seed_value = c; sensitive = d }) (λ s. refl) (both tpm_alg_id_once (both span_once (both span_once tpmu_sensitive_composite_once)))

-- ---- and so no two answers of a reader of one mean the same

pub tpmu_sensitive_composite_answer_once : Injective (answer tpmu_sensitive_composite_parts)
tpmu_sensitive_composite_answer_once = answer_once tpmu_sensitive_composite_once

pub tpmt_sensitive_answer_once : Injective (answer tpmt_sensitive_parts)
tpmt_sensitive_answer_once = answer_once tpmt_sensitive_once
