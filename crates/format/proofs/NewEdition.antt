-- One edition that is later than ours, and records of it, computed: one that we read, one whose code we do not list, and one whose arm we
-- do not have; and one for each of its lists and tables. Assumes nothing.
use Prim.Native.Nat.{ℕ}
use mathlib.Core.Path.{◌≡◌, refl}
use mathlib.Core.Bool.{◌||◌}
use mathlib.Core.List.{List, [], ◌∷◌, ◌++◌}
use lib.ListN.{replicate}
use lib.Dec.{eqb}
use Rattle.faults.specs.Faults.{unknown_code, no_such_arm, bad_value}
use Rattle.faults.specs.declared.Refusal.{Refusal}
use Rattle.wire.specs.Bytes.{be}
use Rattle.wire.specs.Layout.{one, free, ◌then◌}
use Rattle.wire.specs.Unions.{own}
use Rattle.wire.specs.Records.{num, tag, span, refused, parsed, Ans, Parsed}
use Rattle.wire.specs.Reading.{piece, field, read, list}
use Rattle.wire.specs.Editions.{Later}
use Rattle.codes.specs.Codes.{algorithms, is_algorithm, is_curve, is_attestation, is_cap, is_handle_type, is_hierarchy, handle_types, hierarchies, sha1, curves, attestations, caps, cap_algs, cap_pcrs, cap_pcr_properties, cap_ecc_curves, cap_auth_policies, cap_tpm_properties}
use Rattle.codes.specs.Digests.{digest_row}
use Rattle.format.specs.Kinds.{digest_of, tpmu_ha_arm, tpmu_ha, tpmt_ha, kinds, layout_of, tpmu_asym_scheme_arm, tpmu_asym_scheme, tpmu_sig_scheme_arm, tpmu_sig_scheme, tpmu_keyedhash_scheme_arm, tpmu_keyedhash_scheme, tpmu_kdf_scheme_arm, tpmu_kdf_scheme, tpmu_sym_key_bits_arm, tpmu_sym_key_bits, tpmu_sym_mode_arm, tpmu_sym_mode, tpmu_public_parms_arm, tpmu_public_parms, tpmu_public_id_arm, tpmu_public_id, tpmu_sensitive_composite_arm, tpmu_sensitive_composite, tpmu_signature_arm, tpmu_signature, tpmu_attest_arm, tpmu_attest, tpmu_capabilities_arm, tpmu_capabilities, tpms_scheme_hash, tpms_scheme_ecdaa, tpms_scheme_xor, tpmt_sym_def, tpmt_kdf_scheme, tpmt_keyedhash_scheme, tpmt_sig_scheme, tpmt_asym_scheme, tpms_rsa_parms, tpms_ecc_parms, tpms_signature_rsa, tpms_signature_ecc, tpmt_public_parms, tpmt_signature, tpmt_public, tpmt_sensitive, tpms_pcr_selection, tpms_alg_property, tpms_tagged_property, tpms_tagged_policy, tpml_pcr_selection, tpms_quote_info, tpms_command_audit_info, tpms_attest, tpms_capability_data, tpms_clock_info, tpmu_nv_public2_arm, tpmu_nv_public2, tpms_nv_public, tpms_nv_public_exp_attr, tpmt_nv_public2, ticket_body, tpmt_tk_creation, tpmt_tk_verified, tpmt_tk_hashcheck, tpmt_tk_auth}
use Rattle.format.specs.Editions.{Edition, Extends}
use Rattle.format.specs.EditionKinds.{tpmu_ha_in, tpmt_ha_in, kinds_in, layout_in, tpmu_asym_scheme_in, tpmu_sig_scheme_in, tpmu_keyedhash_scheme_in, tpmu_kdf_scheme_in, tpmu_sym_key_bits_in, tpmu_sym_mode_in, tpmu_public_parms_in, tpmu_public_id_in, tpmu_sensitive_composite_in, tpmu_signature_in, tpmu_attest_in, tpmu_capabilities_in, tpms_scheme_hash_in, tpms_scheme_ecdaa_in, tpms_scheme_xor_in, tpmt_sym_def_in, tpmt_kdf_scheme_in, tpmt_keyedhash_scheme_in, tpmt_sig_scheme_in, tpmt_asym_scheme_in, tpms_rsa_parms_in, tpms_ecc_parms_in, tpms_signature_rsa_in, tpms_signature_ecc_in, tpmt_public_parms_in, tpmt_signature_in, tpmt_public_in, tpmt_sensitive_in, tpms_pcr_selection_in, tpms_alg_property_in, tpms_tagged_policy_in, tpml_pcr_selection_in, tpms_quote_info_in, tpms_command_audit_info_in, tpms_attest_in, tpms_capability_data_in, tpmu_nv_public2_in, tpms_nv_public_in, tpms_nv_public_exp_attr_in, tpmt_nv_public2_in, ticket_body_in, tpmt_tk_creation_in, tpmt_tk_verified_in, tpmt_tk_hashcheck_in, tpmt_tk_auth_in}
use Rattle.format.proofs.Editions.{extension_is_later}

-- algorithm 002F, curve 0050, attestation type 8020, capability 0B, handle type 13 and hierarchy 40000010 are listed; 002F, 8020, 0B and 13 have an
-- arm in every table, a digest of 28 bytes or a number; and 002A and capability 7, which are listed here and have no arm, have a digest of 16 and a
-- number
abbrev pub new_edition : Edition
new_edition =
    record {
      is_algorithm = λ n. is_algorithm n || eqb n 0x2F;
      is_curve = λ n. is_curve n || eqb n 0x50;
      is_attestation = λ n. is_attestation n || eqb n 0x8020;
      is_cap = λ n. is_cap n || eqb n 0x0B;
      is_handle_type = λ n. is_handle_type n || eqb n 0x13;
      is_hierarchy = λ n. is_hierarchy n || eqb n 0x40000010;
      tpmu_ha = digest_row 0x2F 28 ∷ digest_row 0x2A 16 ∷ [];
      tpmu_asym_scheme = own 0x2F (one 2 free) ∷ [];
      tpmu_sig_scheme = own 0x2F (one 2 free) ∷ [];
      tpmu_keyedhash_scheme = own 0x2F (one 2 free) ∷ [];
      tpmu_kdf_scheme = own 0x2F (one 2 free) ∷ [];
      tpmu_sym_key_bits = own 0x2F (one 2 free) ∷ [];
      tpmu_sym_mode = own 0x2F (one 2 free) ∷ [];
      tpmu_public_parms = own 0x2F (one 2 free) ∷ [];
      tpmu_public_id = own 0x2F (one 2 free) ∷ [];
      tpmu_sensitive_composite = own 0x2F (one 2 free) ∷ [];
      tpmu_signature = own 0x2F (one 2 free) ∷ [];
      tpmu_attest = own 0x8020 (one 2 free) ∷ [];
      tpmu_capabilities = own cap_pcr_properties (one 4 free) ∷ own 0x0B (one 4 free) ∷ [];
      tpmu_nv_public2 = own 0x13 (one 2 free) ∷ [];
    }

pub new_extends : Extends new_edition
new_extends = record { algorithms = λ n h. rw h; curves = λ n h. rw h; attestations = λ n h. rw h; caps = λ n h. rw h; handle_types = λ n h. rw h; hierarchies = λ n h. rw h }

-- so each of its kinds is later than ours
pub new_is_later : (k : ℕ) → Later (layout_of k) (layout_in new_edition k)
new_is_later = extension_is_later new_extends

-- its digests: of SHA-1, of 002F and of 002A
abbrev pub shared : List ℕ
shared = 0x00 ∷ 0x04 ∷ replicate 20 7

abbrev pub unlisted : List ℕ
unlisted = 0x00 ∷ 0x2F ∷ replicate 28 7

abbrev pub armless : List ℕ
armless = 0x00 ∷ 0x2A ∷ replicate 16 7

-- the edition reads all three
pub new_reads_all :
    (read (layout_in new_edition 1) shared 0 ≡ parsed (num sha1 ∷ tag (digest_of 20) ∷ span 2 20 ∷ []) 22)
    × (read (layout_in new_edition 1) unlisted 0 ≡ parsed (num 0x2F ∷ tag (digest_of 28) ∷ span 2 28 ∷ []) 30)
    × (read (layout_in new_edition 1) armless 0 ≡ parsed (num 0x2A ∷ tag (digest_of 16) ∷ span 2 16 ∷ []) 18)
unfolding read field piece be layout_in kinds_in tpmt_ha_in tpmu_ha_in is_algorithm algorithms
new_reads_all = (refl, refl, refl)

-- we read the first, and refuse the second with UnknownCode at its code and the third with NoArm where its arm is due
pub ours_reads_ours :
    (read (layout_of 1) shared 0 ≡ parsed (num sha1 ∷ tag (digest_of 20) ∷ span 2 20 ∷ []) 22)
    × (read (layout_of 1) unlisted 0 ≡ refused (unknown_code 0 0x2F))
    × (read (layout_of 1) armless 0 ≡ refused (no_such_arm 2 0x2A))
unfolding read field piece be layout_of kinds tpmt_ha tpmu_ha tpmu_ha_arm is_algorithm algorithms
ours_reads_ours = (refl, refl, refl)

-- a count is no code: a record whose count is a code of the edition's alone is ours, and both read it alike
pub count_is_no_code :
    (read (layout_in new_edition 7) (0x00 ∷ 0x1A ∷ 0x00 ∷ 0x0B ∷ 0x00 ∷ 0x2F ∷ []) 0 ≡ parsed (num 0x1A ∷ tag 0x1A ∷ num 0x0B ∷ num 0x2F ∷ []) 6)
    × (read (layout_of 7) (0x00 ∷ 0x1A ∷ 0x00 ∷ 0x0B ∷ 0x00 ∷ 0x2F ∷ []) 0 ≡ parsed (num 0x1A ∷ tag 0x1A ∷ num 0x0B ∷ num 0x2F ∷ []) 6)
unfolding read field piece be layout_in kinds_in tpmt_asym_scheme_in tpmu_asym_scheme_in tpms_scheme_ecdaa_in layout_of kinds tpmt_asym_scheme tpmu_asym_scheme tpmu_asym_scheme_arm tpms_scheme_ecdaa is_algorithm algorithms
count_is_no_code = (refl, refl)

-- nor are a property's tag and value: codes of the edition's alone are free numbers there, and both read them alike
pub property_is_no_code :
    (read (layout_in new_edition 15) (0 ∷ 0 ∷ 0 ∷ cap_tpm_properties ∷ 0 ∷ 0 ∷ 0 ∷ 1 ∷ 0 ∷ 0 ∷ 0x00 ∷ 0x2F ∷ 0 ∷ 0 ∷ 0x00 ∷ 0x2F ∷ []) 0 ≡ parsed (num 6 ∷ tag 6 ∷ span 4 12 ∷ []) 16)
    × (read (layout_of 15) (0 ∷ 0 ∷ 0 ∷ cap_tpm_properties ∷ 0 ∷ 0 ∷ 0 ∷ 1 ∷ 0 ∷ 0 ∷ 0x00 ∷ 0x2F ∷ 0 ∷ 0 ∷ 0x00 ∷ 0x2F ∷ []) 0 ≡ parsed (num 6 ∷ tag 6 ∷ span 4 12 ∷ []) 16)
unfolding read field piece list be layout_in kinds_in tpms_capability_data_in tpmu_capabilities_in layout_of kinds tpms_capability_data tpmu_capabilities tpmu_capabilities_arm tpms_tagged_property is_cap caps
property_is_no_code = (refl, refl)

-- a tag of another ticket is refused in the edition as it is here: a fixed value is no matter of editions
pub tag_is_no_code :
    (read (layout_in new_edition 18) (0x80 ∷ 0x21 ∷ 0x40 ∷ 0 ∷ 0 ∷ 0x10 ∷ 0 ∷ 0 ∷ []) 0 ≡ refused (bad_value 0 0x8021))
    × (read (layout_of 18) (0x80 ∷ 0x21 ∷ 0x40 ∷ 0 ∷ 0 ∷ 0x10 ∷ 0 ∷ 0 ∷ []) 0 ≡ refused (bad_value 0 0x8021))
unfolding read field piece be layout_in kinds_in tpmt_tk_verified_in layout_of kinds tpmt_tk_verified
tag_is_no_code = (refl, refl)

-- ---- every list and every table of the edition is used

-- a record of the edition: its kind and its bytes, what the edition's reader answers, and how ours refuses it
pub record NewRecord : Type 0 where
  pub kind : ℕ
  pub spelled : List ℕ
  pub theirs : Ans Parsed
  pub ours : Refusal

-- a capability, and its list
abbrev cap_one : (capability : ℕ) → List ℕ → List ℕ
cap_one c xs = 0 ∷ 0 ∷ 0 ∷ c ∷ xs

abbrev new : (kind : ℕ) → List ℕ → Ans Parsed → Refusal → NewRecord
new k bs a f = record { kind = k; spelled = bs; theirs = a; ours = f }

-- seventeen zeros, a clock, and eight, a firmware version
abbrev clock : List ℕ → List ℕ
clock bs = replicate 25 0 ++ bs

abbrev pub new_records : List NewRecord
new_records =
    -- 002F as a selector, of each union in turn
    new 2 (0x00 ∷ 0x2F ∷ 0 ∷ 1 ∷ 0 ∷ 2 ∷ []) (parsed (num 0x2F ∷ tag 0x2F ∷ num 1 ∷ tag 0x2F ∷ num 2 ∷ []) 6) (unknown_code 0 0x2F)
    ∷ new 3 (0x00 ∷ 0x2F ∷ 0 ∷ 1 ∷ []) (parsed (num 0x2F ∷ tag 0x2F ∷ num 1 ∷ []) 4) (unknown_code 0 0x2F)
    ∷ new 4 (0x00 ∷ 0x2F ∷ 0 ∷ 1 ∷ []) (parsed (num 0x2F ∷ tag 0x2F ∷ num 1 ∷ []) 4) (unknown_code 0 0x2F)
    ∷ new 5 (0x00 ∷ 0x2F ∷ 0 ∷ 1 ∷ []) (parsed (num 0x2F ∷ tag 0x2F ∷ num 1 ∷ []) 4) (unknown_code 0 0x2F)
    ∷ new 6 (0x00 ∷ 0x2F ∷ 0 ∷ 1 ∷ []) (parsed (num 0x2F ∷ tag 0x2F ∷ num 1 ∷ []) 4) (unknown_code 0 0x2F)
    ∷ new 9 (0x00 ∷ 0x2F ∷ 0 ∷ 1 ∷ []) (parsed (num 0x2F ∷ tag 0x2F ∷ num 1 ∷ []) 4) (unknown_code 0 0x2F)
    ∷ new 10 (0x00 ∷ 0x2F ∷ 0 ∷ 1 ∷ []) (parsed (num 0x2F ∷ tag 0x2F ∷ num 1 ∷ []) 4) (unknown_code 0 0x2F)
    ∷ new 11 (0x00 ∷ 0x2F ∷ 0x00 ∷ 0x04 ∷ 0 ∷ 0 ∷ 0 ∷ 0 ∷ 0 ∷ 0 ∷ 0 ∷ 1 ∷ 0 ∷ 2 ∷ [])
    (parsed (num 0x2F ∷ num 4 ∷ num 0 ∷ span 10 0 ∷ tag 0x2F ∷ num 1 ∷ tag 0x2F ∷ num 2 ∷ []) 14) (unknown_code 0 0x2F)
    ∷ new 12 (0x00 ∷ 0x2F ∷ 0 ∷ 0 ∷ 0 ∷ 0 ∷ 0 ∷ 1 ∷ []) (parsed (num 0x2F ∷ span 4 0 ∷ span 6 0 ∷ tag 0x2F ∷ num 1 ∷ []) 8) (unknown_code 0 0x2F)
    ∷ new 13 (0xFF ∷ 0x54 ∷ 0x43 ∷ 0x47 ∷ 0x80 ∷ 0x20 ∷ 0 ∷ 0 ∷ 0 ∷ 0 ∷ clock (0 ∷ 1 ∷ []))
    (parsed (num 0xFF544347 ∷ num 0x8020 ∷ span 8 0 ∷ span 10 0 ∷ num 0 ∷ num 0 ∷ num 0 ∷ num 0 ∷ num 0 ∷ tag 0x8020 ∷ num 1 ∷ []) 37) (unknown_code 4 0x8020)
    -- 002F as a hash, a KDF or a bank, and a curve of the edition's
    ∷ new 3 (0x00 ∷ 0x07 ∷ 0x00 ∷ 0x2F ∷ []) (parsed (num 7 ∷ tag 7 ∷ num 0x2F ∷ []) 4) (unknown_code 2 0x2F)
    ∷ new 4 (0x00 ∷ 0x0A ∷ 0x00 ∷ 0x0B ∷ 0x00 ∷ 0x2F ∷ []) (parsed (num 10 ∷ tag 10 ∷ num 11 ∷ num 0x2F ∷ []) 6) (unknown_code 4 0x2F)
    ∷ new 2 (0x00 ∷ 0x0A ∷ 0x00 ∷ 0x2F ∷ []) (parsed (num 10 ∷ tag 10 ∷ num 0x2F ∷ tag 0x10 ∷ []) 4) (unknown_code 2 0x2F)
    ∷ new 5 (0x00 ∷ 0x1A ∷ 0x00 ∷ 0x2F ∷ 0x00 ∷ 0x2F ∷ []) (parsed (num 0x1A ∷ tag 0x1A ∷ num 0x2F ∷ num 0x2F ∷ []) 6) (unknown_code 2 0x2F)
    ∷ new 7 (0x00 ∷ 0x1A ∷ 0x00 ∷ 0x2F ∷ 0x00 ∷ 0x2F ∷ []) (parsed (num 0x1A ∷ tag 0x1A ∷ num 0x2F ∷ num 0x2F ∷ []) 6) (unknown_code 2 0x2F)
    ∷ new 10 (0x00 ∷ 0x14 ∷ 0x00 ∷ 0x2F ∷ 0 ∷ 0 ∷ []) (parsed (num 0x14 ∷ tag 0x14 ∷ num 0x2F ∷ span 6 0 ∷ []) 6) (unknown_code 2 0x2F)
    ∷ new 10 (0x00 ∷ 0x18 ∷ 0x00 ∷ 0x2F ∷ 0 ∷ 0 ∷ 0 ∷ 0 ∷ []) (parsed (num 0x18 ∷ tag 0x18 ∷ num 0x2F ∷ span 6 0 ∷ span 8 0 ∷ []) 8) (unknown_code 2 0x2F)
    ∷ new 13 (0xFF ∷ 0x54 ∷ 0x43 ∷ 0x47 ∷ 0x80 ∷ 0x15 ∷ 0 ∷ 0 ∷ 0 ∷ 0 ∷ clock (replicate 8 0 ++ (0x00 ∷ 0x2F ∷ 0 ∷ 0 ∷ 0 ∷ 0 ∷ [])))
    (parsed (num 0xFF544347 ∷ num 0x8015 ∷ span 8 0 ∷ span 10 0 ∷ num 0 ∷ num 0 ∷ num 0 ∷ num 0 ∷ num 0 ∷ tag 0x8015 ∷ num 0 ∷ num 0x2F ∷ span 47 0 ∷ span 49 0 ∷ []) 49) (unknown_code 43 0x2F)
    ∷ new 14 (0 ∷ 0 ∷ 0 ∷ 1 ∷ 0x00 ∷ 0x2F ∷ 0 ∷ []) (parsed (span 0 7 ∷ []) 7) (unknown_code 4 0x2F)
    ∷ new 9 (0x00 ∷ 0x23 ∷ 0x00 ∷ 0x10 ∷ 0x00 ∷ 0x10 ∷ 0x00 ∷ 0x50 ∷ 0x00 ∷ 0x10 ∷ [])
    (parsed (num 0x23 ∷ tag 0x23 ∷ num 0x10 ∷ tag 0x10 ∷ tag 0x10 ∷ num 0x10 ∷ tag 0x10 ∷ num 0x50 ∷ num 0x10 ∷ tag 0x10 ∷ []) 10) (unknown_code 6 0x50)
    ∷ new 15 (cap_one 0x0B (0 ∷ 0 ∷ 0 ∷ 1 ∷ [])) (parsed (num 0x0B ∷ tag 0x0B ∷ num 1 ∷ []) 8) (unknown_code 0 0x0B)
    ∷ new 15 (cap_one cap_pcr_properties (0 ∷ 0 ∷ 0 ∷ 1 ∷ [])) (parsed (num 7 ∷ tag 7 ∷ num 1 ∷ []) 8) (no_such_arm 4 7)
    ∷ new 15 (cap_one cap_algs (0 ∷ 0 ∷ 0 ∷ 1 ∷ 0x00 ∷ 0x2F ∷ 0 ∷ 0 ∷ 0 ∷ 0 ∷ [])) (parsed (num 0 ∷ tag 0 ∷ span 4 10 ∷ []) 14) (unknown_code 8 0x2F)
    ∷ new 15 (cap_one cap_pcrs (0 ∷ 0 ∷ 0 ∷ 1 ∷ 0x00 ∷ 0x2F ∷ 0 ∷ [])) (parsed (num 5 ∷ tag 5 ∷ span 4 7 ∷ []) 11) (unknown_code 8 0x2F)
    ∷ new 15 (cap_one cap_ecc_curves (0 ∷ 0 ∷ 0 ∷ 1 ∷ 0x00 ∷ 0x50 ∷ [])) (parsed (num 8 ∷ tag 8 ∷ span 4 6 ∷ []) 10) (unknown_code 8 0x50)
    ∷ new 15 (cap_one cap_auth_policies (0 ∷ 0 ∷ 0 ∷ 1 ∷ 0 ∷ 0 ∷ 0 ∷ 0 ∷ 0x00 ∷ 0x2A ∷ replicate 16 7)) (parsed (num 9 ∷ tag 9 ∷ span 4 26 ∷ []) 30) (no_such_arm 14 0x2A)
    ∷ new 15 (cap_one cap_auth_policies (0 ∷ 0 ∷ 0 ∷ 1 ∷ 0 ∷ 0 ∷ 0 ∷ 0 ∷ unlisted)) (parsed (num 9 ∷ tag 9 ∷ span 4 38 ∷ []) 42) (unknown_code 12 0x2F)
    -- a handle type of the edition's, 002F as the name algorithm of either area, and a hierarchy of the edition's in each ticket
    ∷ new 16 (0x13 ∷ 0 ∷ 1 ∷ []) (parsed (num 0x13 ∷ tag 0x13 ∷ num 1 ∷ []) 3) (unknown_code 0 0x13)
    ∷ new 16 (0x01 ∷ 0 ∷ 0 ∷ 0 ∷ 1 ∷ 0x00 ∷ 0x2F ∷ 0 ∷ 0 ∷ 0 ∷ 2 ∷ 0 ∷ 0 ∷ 0 ∷ 3 ∷ []) (parsed (num 1 ∷ tag 1 ∷ num 1 ∷ num 0x2F ∷ num 2 ∷ span 13 0 ∷ num 3 ∷ []) 15) (unknown_code 5 0x2F)
    ∷ new 16 (0x11 ∷ 0 ∷ 0 ∷ 0 ∷ 1 ∷ 0x00 ∷ 0x2F ∷ 0 ∷ 0 ∷ 0 ∷ 0 ∷ 0 ∷ 0 ∷ 0 ∷ 2 ∷ 0 ∷ 0 ∷ 0 ∷ 3 ∷ []) (parsed (num 0x11 ∷ tag 0x11 ∷ num 1 ∷ num 0x2F ∷ num 2 ∷ span 17 0 ∷ num 3 ∷ []) 19) (unknown_code 5 0x2F)
    ∷ new 17 (0x80 ∷ 0x21 ∷ 0x40 ∷ 0 ∷ 0 ∷ 0x10 ∷ 0 ∷ 0 ∷ []) (parsed (num 0x8021 ∷ num 0x40000010 ∷ span 8 0 ∷ []) 8) (unknown_code 2 0x40000010)
    ∷ new 18 (0x80 ∷ 0x22 ∷ 0x40 ∷ 0 ∷ 0 ∷ 0x10 ∷ 0 ∷ 0 ∷ []) (parsed (num 0x8022 ∷ num 0x40000010 ∷ span 8 0 ∷ []) 8) (unknown_code 2 0x40000010)
    ∷ new 19 (0x80 ∷ 0x24 ∷ 0x40 ∷ 0 ∷ 0 ∷ 0x10 ∷ 0 ∷ 0 ∷ []) (parsed (num 0x8024 ∷ num 0x40000010 ∷ span 8 0 ∷ []) 8) (unknown_code 2 0x40000010)
    ∷ new 20 (0x80 ∷ 0x25 ∷ 0x40 ∷ 0 ∷ 0 ∷ 0x10 ∷ 0 ∷ 0 ∷ []) (parsed (num 0x8025 ∷ num 0x40000010 ∷ span 8 0 ∷ []) 8) (unknown_code 2 0x40000010)
    ∷ []

-- the edition reads each of them so, and we refuse it so
abbrev pub AllAnswered : List NewRecord → Type 0
AllAnswered [] = Unit {0}
AllAnswered (r ∷ rs) = (read (layout_in new_edition r.kind) r.spelled 0 ≡ r.theirs) × (read (layout_of r.kind) r.spelled 0 ≡ refused r.ours) × AllAnswered rs

pub new_records_are_answered : AllAnswered new_records
unfolding read field piece list be layout_in layout_of is_algorithm algorithms is_curve curves is_attestation attestations is_cap caps is_handle_type handle_types is_hierarchy hierarchies ◌then◌ kinds_in kinds tpmu_ha_in tpmu_asym_scheme_in tpmu_sig_scheme_in tpmu_keyedhash_scheme_in tpmu_kdf_scheme_in tpmu_sym_key_bits_in tpmu_sym_mode_in tpmu_public_parms_in tpmu_public_id_in tpmu_sensitive_composite_in tpmu_signature_in tpmu_attest_in tpmu_capabilities_in tpms_scheme_hash_in tpms_scheme_ecdaa_in tpms_scheme_xor_in tpmt_ha_in tpmt_sym_def_in tpmt_kdf_scheme_in tpmt_keyedhash_scheme_in tpmt_sig_scheme_in tpmt_asym_scheme_in tpms_rsa_parms_in tpms_ecc_parms_in tpms_signature_rsa_in tpms_signature_ecc_in tpmt_public_parms_in tpmt_signature_in tpmt_public_in tpmt_sensitive_in tpms_pcr_selection_in tpms_alg_property_in tpms_tagged_policy_in tpml_pcr_selection_in tpms_quote_info_in tpms_command_audit_info_in tpms_attest_in tpms_capability_data_in tpmu_ha_arm tpmu_ha tpmu_asym_scheme_arm tpmu_asym_scheme tpmu_sig_scheme_arm tpmu_sig_scheme tpmu_keyedhash_scheme_arm tpmu_keyedhash_scheme tpmu_kdf_scheme_arm tpmu_kdf_scheme tpmu_sym_key_bits_arm tpmu_sym_key_bits tpmu_sym_mode_arm tpmu_sym_mode tpmu_public_parms_arm tpmu_public_parms tpmu_public_id_arm tpmu_public_id tpmu_sensitive_composite_arm tpmu_sensitive_composite tpmu_signature_arm tpmu_signature tpmu_attest_arm tpmu_attest tpmu_capabilities_arm tpmu_capabilities tpms_scheme_hash tpms_scheme_ecdaa tpms_scheme_xor tpmt_ha tpmt_sym_def tpmt_kdf_scheme tpmt_keyedhash_scheme tpmt_sig_scheme tpmt_asym_scheme tpms_rsa_parms tpms_ecc_parms tpms_signature_rsa tpms_signature_ecc tpmt_public_parms tpmt_signature tpmt_public tpmt_sensitive tpms_pcr_selection tpms_alg_property tpms_tagged_policy tpml_pcr_selection tpms_quote_info tpms_command_audit_info tpms_clock_info tpms_attest tpms_capability_data tpmu_nv_public2_in tpms_nv_public_in tpms_nv_public_exp_attr_in tpmt_nv_public2_in ticket_body_in tpmt_tk_creation_in tpmt_tk_verified_in tpmt_tk_hashcheck_in tpmt_tk_auth_in tpmu_nv_public2_arm tpmu_nv_public2 tpms_nv_public tpms_nv_public_exp_attr tpmt_nv_public2 ticket_body tpmt_tk_creation tpmt_tk_verified tpmt_tk_hashcheck tpmt_tk_auth
new_records_are_answered = (refl, refl, (refl, refl, (refl, refl, (refl, refl, (refl, refl, (refl, refl, (refl, refl, (refl, refl, (refl, refl, (refl, refl, (refl, refl, (refl, refl, (refl, refl, (refl, refl, (refl, refl, (refl, refl, (refl, refl, (refl, refl, (refl, refl, (refl, refl, (refl, refl, (refl, refl, (refl, refl, (refl, refl, (refl, refl, (refl, refl, (refl, refl, (refl, refl, (refl, refl, (refl, refl, (refl, refl, (refl, refl, (refl, refl, (refl, refl, tt))))))))))))))))))))))))))))))))))
