-- The parts of a record determine it, and no two answers of a reader mean the same. Assumes nothing.
use mathlib.Core.Path.{refl}
use mathlib.Core.List.{[], ◌∷◌}
use Rattle.wire.specs.Answers.{answer, span_part}
use Rattle.wire.proofs.Once.{Injective, Once, span_once, both, fields, union, holds}
use Rattle.wire.proofs.Answers.{answer_once}
use Rattle.codes.specs.Codes.{cap_algs, cap_handles, cap_commands, cap_pp_commands, cap_audit_commands, cap_pcrs, cap_tpm_properties, cap_ecc_curves, cap_auth_policies, cap_act}
use Rattle.codes.proofs.Once.{tpm_cap_once}
use Rattle.attest.proofs.Once.{tpml_pcr_selection_once}
use Rattle.capabilities.specs.declared.list.TpmlAlgProperty.{TpmlAlgProperty}
use Rattle.capabilities.specs.declared.list.TpmlHandle.{TpmlHandle}
use Rattle.capabilities.specs.declared.list.TpmlCca.{TpmlCca}
use Rattle.capabilities.specs.declared.list.TpmlCc.{TpmlCc}
use Rattle.capabilities.specs.declared.list.TpmlTaggedTpmProperty.{TpmlTaggedTpmProperty}
use Rattle.capabilities.specs.declared.list.TpmlEccCurve.{TpmlEccCurve}
use Rattle.capabilities.specs.declared.list.TpmlTaggedPolicy.{TpmlTaggedPolicy}
use Rattle.capabilities.specs.declared.list.TpmlActData.{TpmlActData}
use Rattle.capabilities.specs.declared.tpmu.TpmuCapabilities.{TpmuCapabilities}
use Rattle.capabilities.specs.Parts.{tpmu_capabilities_parts, tpms_capability_data_parts}

-- ---- the lists

pub tpml_alg_property_once : Once (λ (l : TpmlAlgProperty). span_part l.items ∷ [])
tpml_alg_property_once = fields (λ l. l.items) (λ s. record { items = s }) (λ l. refl) span_once

pub tpml_handle_once : Once (λ (l : TpmlHandle). span_part l.items ∷ [])
tpml_handle_once = fields (λ l. l.items) (λ s. record { items = s }) (λ l. refl) span_once

pub tpml_cca_once : Once (λ (l : TpmlCca). span_part l.items ∷ [])
tpml_cca_once = fields (λ l. l.items) (λ s. record { items = s }) (λ l. refl) span_once

pub tpml_cc_once : Once (λ (l : TpmlCc). span_part l.items ∷ [])
tpml_cc_once = fields (λ l. l.items) (λ s. record { items = s }) (λ l. refl) span_once

pub tpml_tagged_tpm_property_once : Once (λ (l : TpmlTaggedTpmProperty). span_part l.items ∷ [])
tpml_tagged_tpm_property_once = fields (λ l. l.items) (λ s. record { items = s }) (λ l. refl) span_once

pub tpml_ecc_curve_once : Once (λ (l : TpmlEccCurve). span_part l.items ∷ [])
tpml_ecc_curve_once = fields (λ l. l.items) (λ s. record { items = s }) (λ l. refl) span_once

pub tpml_tagged_policy_once : Once (λ (l : TpmlTaggedPolicy). span_part l.items ∷ [])
tpml_tagged_policy_once = fields (λ l. l.items) (λ s. record { items = s }) (λ l. refl) span_once

pub tpml_act_data_once : Once (λ (l : TpmlActData). span_part l.items ∷ [])
tpml_act_data_once = fields (λ l. l.items) (λ s. record { items = s }) (λ l. refl) span_once

-- ---- the union

pub tpmu_capabilities_once : Once tpmu_capabilities_parts
tpmu_capabilities_once =
    union
    (holds cap_algs TpmuCapabilities.Algs tpml_alg_property_once
    ∷ holds cap_handles TpmuCapabilities.Handles tpml_handle_once
    ∷ holds cap_commands TpmuCapabilities.Commands tpml_cca_once
    ∷ holds cap_pp_commands TpmuCapabilities.PpCommands tpml_cc_once
    ∷ holds cap_audit_commands TpmuCapabilities.AuditCommands tpml_cc_once
    ∷ holds cap_pcrs TpmuCapabilities.Pcrs tpml_pcr_selection_once
    ∷ holds cap_tpm_properties TpmuCapabilities.TpmProperties tpml_tagged_tpm_property_once
    ∷ holds cap_ecc_curves TpmuCapabilities.EccCurves tpml_ecc_curve_once
    ∷ holds cap_auth_policies TpmuCapabilities.AuthPolicies tpml_tagged_policy_once
    ∷ holds cap_act TpmuCapabilities.Act tpml_act_data_once
    ∷ [])
    (elim [
      | TpmuCapabilities.Algs x ↦ λ qs. rw (tpml_alg_property_once.back x qs)
      | TpmuCapabilities.Handles x ↦ λ qs. rw (tpml_handle_once.back x qs)
      | TpmuCapabilities.Commands x ↦ λ qs. rw (tpml_cca_once.back x qs)
      | TpmuCapabilities.PpCommands x ↦ λ qs. rw (tpml_cc_once.back x qs)
      | TpmuCapabilities.AuditCommands x ↦ λ qs. rw (tpml_cc_once.back x qs)
      | TpmuCapabilities.Pcrs x ↦ λ qs. rw (tpml_pcr_selection_once.back x qs)
      | TpmuCapabilities.TpmProperties x ↦ λ qs. rw (tpml_tagged_tpm_property_once.back x qs)
      | TpmuCapabilities.EccCurves x ↦ λ qs. rw (tpml_ecc_curve_once.back x qs)
      | TpmuCapabilities.AuthPolicies x ↦ λ qs. rw (tpml_tagged_policy_once.back x qs)
      | TpmuCapabilities.Act x ↦ λ qs. rw (tpml_act_data_once.back x qs)
    ])

-- ---- kind 15

pub tpms_capability_data_once : Once tpms_capability_data_parts
tpms_capability_data_once = fields (λ s. (s.capability, s.«data»)) (λ (a, b). record { capability = a; «data» = b }) (λ s. refl) (both tpm_cap_once tpmu_capabilities_once)

-- ---- and so no two answers of a reader of one mean the same

pub tpmu_capabilities_answer_once : Injective (answer tpmu_capabilities_parts)
tpmu_capabilities_answer_once = answer_once tpmu_capabilities_once

pub tpms_capability_data_answer_once : Injective (answer tpms_capability_data_parts)
tpms_capability_data_answer_once = answer_once tpms_capability_data_once
