-- The parts of an attestation, in wire order; of a union the arm that it holds comes first. Assumes nothing.
use mathlib.Core.Path.{refl}
use Rattle.std.specs.Prelude.{List, [], ◌∷◌, ◌++◌, ◌≡◌, true, length, leb}
use Rattle.wire.specs.Answers.{span_part}
use Rattle.wire.specs.Records.{Part, num, tag}
use Rattle.codes.specs.Codes.{attest_nv, attest_command_audit, attest_session_audit, attest_certify, attest_quote, attest_time, attest_creation, attest_nv_digest}
use Rattle.attest.specs.declared.list.TpmlPcrSelection.{TpmlPcrSelection}
use Rattle.attest.specs.declared.tpms.TpmsClockInfo.{TpmsClockInfo}
use Rattle.attest.specs.declared.tpms.TpmsTimeInfo.{TpmsTimeInfo}
use Rattle.attest.specs.declared.tpms.TpmsCertifyInfo.{TpmsCertifyInfo}
use Rattle.attest.specs.declared.tpms.TpmsCreationInfo.{TpmsCreationInfo}
use Rattle.attest.specs.declared.tpms.TpmsQuoteInfo.{TpmsQuoteInfo}
use Rattle.attest.specs.declared.tpms.TpmsCommandAuditInfo.{TpmsCommandAuditInfo}
use Rattle.attest.specs.declared.tpms.TpmsSessionAuditInfo.{TpmsSessionAuditInfo}
use Rattle.attest.specs.declared.tpms.TpmsTimeAttestInfo.{TpmsTimeAttestInfo}
use Rattle.attest.specs.declared.tpms.TpmsNvCertifyInfo.{TpmsNvCertifyInfo}
use Rattle.attest.specs.declared.tpms.TpmsNvDigestCertifyInfo.{TpmsNvDigestCertifyInfo}
use Rattle.attest.specs.declared.tpmu.TpmuAttest.{TpmuAttest}
use Rattle.attest.specs.declared.attestation.TpmsAttest.{TpmsAttest}

-- ---- kind 14

-- the list is one part
abbrev pub tpml_pcr_selection_parts : TpmlPcrSelection → List Part
tpml_pcr_selection_parts l = span_part l.items ∷ []

-- ---- structures

abbrev pub tpms_clock_info_parts : TpmsClockInfo → List Part
tpms_clock_info_parts c = num c.clock ∷ num c.reset_count ∷ num c.restart_count ∷ num c.safe ∷ []

abbrev pub tpms_time_info_parts : TpmsTimeInfo → List Part
tpms_time_info_parts t = num t.time ∷ tpms_clock_info_parts t.clock_info

abbrev pub tpms_certify_info_parts : TpmsCertifyInfo → List Part
tpms_certify_info_parts i = span_part i.name ∷ span_part i.qualified_name ∷ []

abbrev pub tpms_creation_info_parts : TpmsCreationInfo → List Part
tpms_creation_info_parts i = span_part i.object_name ∷ span_part i.creation_hash ∷ []

abbrev pub tpms_quote_info_parts : TpmsQuoteInfo → List Part
tpms_quote_info_parts i = tpml_pcr_selection_parts i.pcr_select ++ (span_part i.pcr_digest ∷ [])

abbrev pub tpms_command_audit_info_parts : TpmsCommandAuditInfo → List Part
tpms_command_audit_info_parts i = num i.audit_counter ∷ num i.digest_alg.0 ∷ span_part i.audit_digest ∷ span_part i.command_digest ∷ []

abbrev pub tpms_session_audit_info_parts : TpmsSessionAuditInfo → List Part
tpms_session_audit_info_parts i = num i.exclusive_session ∷ span_part i.session_digest ∷ []

abbrev pub tpms_time_attest_info_parts : TpmsTimeAttestInfo → List Part
tpms_time_attest_info_parts i = tpms_time_info_parts i.time ++ (num i.firmware_version ∷ [])

abbrev pub tpms_nv_certify_info_parts : TpmsNvCertifyInfo → List Part
tpms_nv_certify_info_parts i = span_part i.index_name ∷ num i.offset ∷ span_part i.nv_contents ∷ []

abbrev pub tpms_nv_digest_certify_info_parts : TpmsNvDigestCertifyInfo → List Part
tpms_nv_digest_certify_info_parts i = span_part i.index_name ∷ span_part i.nv_digest ∷ []

-- ---- the union

abbrev pub tpmu_attest_parts : TpmuAttest → List Part
tpmu_attest_parts (TpmuAttest.Certify i) = tag attest_certify ∷ tpms_certify_info_parts i
tpmu_attest_parts (TpmuAttest.Creation i) = tag attest_creation ∷ tpms_creation_info_parts i
tpmu_attest_parts (TpmuAttest.Quote i) = tag attest_quote ∷ tpms_quote_info_parts i
tpmu_attest_parts (TpmuAttest.CommandAudit i) = tag attest_command_audit ∷ tpms_command_audit_info_parts i
tpmu_attest_parts (TpmuAttest.SessionAudit i) = tag attest_session_audit ∷ tpms_session_audit_info_parts i
tpmu_attest_parts (TpmuAttest.Time i) = tag attest_time ∷ tpms_time_attest_info_parts i
tpmu_attest_parts (TpmuAttest.Nv i) = tag attest_nv ∷ tpms_nv_certify_info_parts i
tpmu_attest_parts (TpmuAttest.NvDigest i) = tag attest_nv_digest ∷ tpms_nv_digest_certify_info_parts i

-- the list that the union holds, by the arm that it holds: a quote has one
abbrev pub tpmu_attest_lists : TpmuAttest → List Part
tpmu_attest_lists (TpmuAttest.Certify i) = []
tpmu_attest_lists (TpmuAttest.Creation i) = []
tpmu_attest_lists (TpmuAttest.Quote i) = tpml_pcr_selection_parts i.pcr_select
tpmu_attest_lists (TpmuAttest.CommandAudit i) = []
tpmu_attest_lists (TpmuAttest.SessionAudit i) = []
tpmu_attest_lists (TpmuAttest.Time i) = []
tpmu_attest_lists (TpmuAttest.Nv i) = []
tpmu_attest_lists (TpmuAttest.NvDigest i) = []

-- an attestation has no more than one
pub one_list_at_most : (u : TpmuAttest) → leb (length (tpmu_attest_lists u)) 1 ≡ true
one_list_at_most (TpmuAttest.Certify i) = refl
one_list_at_most (TpmuAttest.Creation i) = refl
one_list_at_most (TpmuAttest.Quote i) = refl
one_list_at_most (TpmuAttest.CommandAudit i) = refl
one_list_at_most (TpmuAttest.SessionAudit i) = refl
one_list_at_most (TpmuAttest.Time i) = refl
one_list_at_most (TpmuAttest.Nv i) = refl
one_list_at_most (TpmuAttest.NvDigest i) = refl

-- ---- kind 13

abbrev pub tpms_attest_parts : TpmsAttest → List Part
tpms_attest_parts a =
    num a.magic ∷ num a.attest_type.0 ∷ span_part a.qualified_signer ∷ span_part a.extra_data
    ∷ (tpms_clock_info_parts a.clock_info ++ (num a.firmware_version ∷ tpmu_attest_parts a.attested))
