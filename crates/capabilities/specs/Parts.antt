-- The parts of capabilities, in wire order; of the union the arm that it holds comes first. Assumes nothing.
use Rattle.std.specs.Prelude.{ℕ, zero, suc, List, [], ◌∷◌}
use Rattle.wire.specs.declared.span.Span.{Span}
use Rattle.wire.specs.Answers.{span_part}
use Rattle.wire.specs.Records.{Part, num, tag}
use Rattle.codes.specs.Codes.{cap_algs, cap_handles, cap_commands, cap_pp_commands, cap_audit_commands, cap_pcrs, cap_tpm_properties, cap_ecc_curves, cap_auth_policies, cap_act}
use Rattle.format.specs.declared.list.ListOf.{ListOf}
use Rattle.format.specs.declared.list.ListOf.TheVariants.{AlgProperty, Handle, Cca, Cc, PcrSelection, TaggedTpmProperty, EccCurve, TaggedPolicy, ActData}
use Rattle.capabilities.specs.declared.tpmu.TpmuCapabilities.{TpmuCapabilities}
use Rattle.capabilities.specs.declared.tpms.TpmsCapabilityData.{TpmsCapabilityData}

-- ---- the union, a row an arm

-- the code of the capability that chooses the arm, which is the arm's number
abbrev pub code_of : TpmuCapabilities → ℕ
code_of (TpmuCapabilities.Algs x) = cap_algs
code_of (TpmuCapabilities.Handles x) = cap_handles
code_of (TpmuCapabilities.Commands x) = cap_commands
code_of (TpmuCapabilities.PpCommands x) = cap_pp_commands
code_of (TpmuCapabilities.AuditCommands x) = cap_audit_commands
code_of (TpmuCapabilities.Pcrs x) = cap_pcrs
code_of (TpmuCapabilities.TpmProperties x) = cap_tpm_properties
code_of (TpmuCapabilities.EccCurves x) = cap_ecc_curves
code_of (TpmuCapabilities.AuthPolicies x) = cap_auth_policies
code_of (TpmuCapabilities.Act x) = cap_act

-- the list that it holds
abbrev pub list_of : TpmuCapabilities → ListOf
list_of (TpmuCapabilities.Algs x) = AlgProperty
list_of (TpmuCapabilities.Handles x) = Handle
list_of (TpmuCapabilities.Commands x) = Cca
list_of (TpmuCapabilities.PpCommands x) = Cc
list_of (TpmuCapabilities.AuditCommands x) = Cc
list_of (TpmuCapabilities.Pcrs x) = PcrSelection
list_of (TpmuCapabilities.TpmProperties x) = TaggedTpmProperty
list_of (TpmuCapabilities.EccCurves x) = EccCurve
list_of (TpmuCapabilities.AuthPolicies x) = TaggedPolicy
list_of (TpmuCapabilities.Act x) = ActData

-- where the list stands
abbrev pub items_of : TpmuCapabilities → Span
items_of (TpmuCapabilities.Algs x) = x.items
items_of (TpmuCapabilities.Handles x) = x.items
items_of (TpmuCapabilities.Commands x) = x.items
items_of (TpmuCapabilities.PpCommands x) = x.items
items_of (TpmuCapabilities.AuditCommands x) = x.items
items_of (TpmuCapabilities.Pcrs x) = x.items
items_of (TpmuCapabilities.TpmProperties x) = x.items
items_of (TpmuCapabilities.EccCurves x) = x.items
items_of (TpmuCapabilities.AuthPolicies x) = x.items
items_of (TpmuCapabilities.Act x) = x.items

-- the arm of a capability, with that list; the last one for a number that has none
abbrev pub arm_for : (capability : ℕ) → Span → TpmuCapabilities
arm_for zero s = TpmuCapabilities.Algs (record { items = s })
arm_for (suc zero) s = TpmuCapabilities.Handles (record { items = s })
arm_for (suc (suc zero)) s = TpmuCapabilities.Commands (record { items = s })
arm_for (suc (suc (suc zero))) s = TpmuCapabilities.PpCommands (record { items = s })
arm_for (suc (suc (suc (suc zero)))) s = TpmuCapabilities.AuditCommands (record { items = s })
arm_for (suc (suc (suc (suc (suc zero))))) s = TpmuCapabilities.Pcrs (record { items = s })
arm_for (suc (suc (suc (suc (suc (suc zero)))))) s = TpmuCapabilities.TpmProperties (record { items = s })
arm_for (suc (suc (suc (suc (suc (suc (suc zero))))))) s = TpmuCapabilities.Act (record { items = s })
arm_for (suc (suc (suc (suc (suc (suc (suc (suc zero)))))))) s = TpmuCapabilities.EccCurves (record { items = s })
arm_for (suc (suc (suc (suc (suc (suc (suc (suc (suc zero))))))))) s = TpmuCapabilities.AuthPolicies (record { items = s })
arm_for (suc (suc (suc (suc (suc (suc (suc (suc (suc (suc n)))))))))) s = TpmuCapabilities.Act (record { items = s })

abbrev pub tpmu_capabilities_parts : TpmuCapabilities → List Part
tpmu_capabilities_parts u = tag (code_of u) ∷ span_part (items_of u) ∷ []

-- every arm holds a list
abbrev pub tpmu_capabilities_lists : TpmuCapabilities → List Part
tpmu_capabilities_lists u = span_part (items_of u) ∷ []

-- ---- kind 15

abbrev pub tpms_capability_data_parts : TpmsCapabilityData → List Part
tpms_capability_data_parts d = num d.capability.0 ∷ tpmu_capabilities_parts d.data
