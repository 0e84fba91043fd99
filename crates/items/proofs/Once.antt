-- The parts of an item determine it. Assumes nothing.
use mathlib.Core.Path.{refl}
use Rattle.wire.proofs.Once.{Injective, Once, number_once, span_once, both, fields}
use Rattle.wire.proofs.Answers.{answer_once}
use Rattle.wire.specs.Answers.{answer}
use Rattle.codes.proofs.Once.{tpm_alg_id_once}
use Rattle.ciphers.proofs.Once.{tpmt_ha_once}
use Rattle.items.specs.Parts.{tpms_pcr_selection_parts, tpms_alg_property_parts, tpms_tagged_property_parts, tpms_tagged_policy_parts, tpms_act_data_parts}

pub tpms_pcr_selection_once : Once tpms_pcr_selection_parts
tpms_pcr_selection_once = fields (λ s. (s.hash, s.pcr_select)) (λ (a, b). record { hash = a; pcr_select = b }) (λ s. refl) (both tpm_alg_id_once span_once)

pub tpms_alg_property_once : Once tpms_alg_property_parts
tpms_alg_property_once = fields (λ s. (s.alg, s.alg_properties)) (λ (a, b). record { alg = a; alg_properties = b }) (λ s. refl) (both tpm_alg_id_once number_once)

pub tpms_tagged_property_once : Once tpms_tagged_property_parts
tpms_tagged_property_once = fields (λ s. (s.property, s.value)) (λ (a, b). record { property = a; value = b }) (λ s. refl) (both number_once number_once)

pub tpms_tagged_policy_once : Once tpms_tagged_policy_parts
tpms_tagged_policy_once = fields (λ s. (s.handle, s.policy_hash)) (λ (a, b). record { handle = a; policy_hash = b }) (λ s. refl) (both number_once tpmt_ha_once)

pub tpms_act_data_once : Once tpms_act_data_parts
tpms_act_data_once = fields (λ s. (s.handle, (s.timeout, s.attributes))) (λ (a, (b, c)). record { handle = a; timeout = b; attributes = c }) (λ s. refl) (both number_once (both number_once number_once))

-- ---- and so no two answers of a reader of one mean the same

pub tpms_pcr_selection_answer_once : Injective (answer tpms_pcr_selection_parts)
tpms_pcr_selection_answer_once = answer_once tpms_pcr_selection_once

pub tpms_alg_property_answer_once : Injective (answer tpms_alg_property_parts)
tpms_alg_property_answer_once = answer_once tpms_alg_property_once

pub tpms_tagged_property_answer_once : Injective (answer tpms_tagged_property_parts)
tpms_tagged_property_answer_once = answer_once tpms_tagged_property_once

pub tpms_tagged_policy_answer_once : Injective (answer tpms_tagged_policy_parts)
tpms_tagged_policy_answer_once = answer_once tpms_tagged_policy_once

pub tpms_act_data_answer_once : Injective (answer tpms_act_data_parts)
tpms_act_data_answer_once = answer_once tpms_act_data_once
