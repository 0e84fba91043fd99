-- The kinds of an edition: all layouts made from its lists and tables, line for line as Kinds has them. Layouts with neither a code
-- of a list nor a union are those of Kinds. Assumes nothing.
use Rattle.std.specs.Prelude.{ℕ, zero, suc, List, [], ◌∷◌, ◌++◌, get_or}
use Rattle.wire.specs.Layout.{Rule, listed, Layout, stop, no_arm, number, buffer, counted, one, free, ◌then◌}
use Rattle.wire.specs.Unions.{Row, row, own, arm_of, body_of, union}
use Rattle.codes.specs.declared.Ticket.TheVariants.{Creation, Verified, Hashcheck, Auth}
use Rattle.codes.specs.Codes.{magic, ticket_tag, rsa, hmac, aes, mgf1, keyed_hash, xor, null, sm4, rsassa, rsaes, rsapss, oaep, ecdsa, ecdh, ecdaa, sm2, ecschnorr, ecmqv, kdf1_sp800_56a, kdf2, kdf1_sp800_108, ecc, sym_cipher, camellia, attest_nv, attest_command_audit, attest_session_audit, attest_certify, attest_quote, attest_time, attest_creation, attest_nv_digest, cap_algs, cap_handles, cap_commands, cap_pp_commands, cap_audit_commands, cap_pcrs, cap_tpm_properties, cap_ecc_curves, cap_auth_policies, cap_act, ht_nv_index, ht_external_nv, ht_permanent_nv}
use Rattle.format.specs.declared.list.ListOf.{ListOf}
use Rattle.format.specs.declared.list.ListOf.TheVariants.{AlgProperty, Handle, Cca, Cc, PcrSelection, TaggedTpmProperty, EccCurve, TaggedPolicy, ActData}
use Rattle.format.specs.Kinds.{hash, most_items, tpmu_ha_table, tpmu_public_id_table, tpmu_sensitive_composite_table, digest, public_key_rsa, ecc_parameter, name, qualifying, tpms_clock_info, tpms_certify_info, tpms_creation_info, tpms_session_audit_info, tpms_time_attest_info, tpms_nv_certify_info, tpms_nv_digest_certify_info, tpms_tagged_property, tpms_act_data, nv_public_tail}
use Rattle.format.specs.Editions.{Edition}

-- the union of a table: what its selector v chooses
abbrev pub union_of : List Row → (v : ℕ) → Layout
union_of rs v = union (arm_of rs v) (λ t. body_of rs t) v

module _ (e : Edition) where
  -- ---- what a field of each list takes

  abbrev pub alg_in : Rule
  alg_in = listed (λ n. e.is_algorithm n)

  abbrev pub curve_in : Rule
  curve_in = listed (λ n. e.is_curve n)

  abbrev pub attestation_in : Rule
  attestation_in = listed (λ n. e.is_attestation n)

  abbrev pub cap_in : Rule
  cap_in = listed (λ n. e.is_cap n)

  abbrev pub handle_type_in : Rule
  handle_type_in = listed (λ n. e.is_handle_type n)

  abbrev pub hierarchy_in : Rule
  hierarchy_in = listed (λ n. e.is_hierarchy n)

  -- ---- digests, ciphers and schemes: kinds 1 to 8

  -- TPMS_SCHEME_HASH: a hash code
  unfoldable pub tpms_scheme_hash_in : Layout
  tpms_scheme_hash_in = one 2 alg_in

  -- TPMS_SCHEME_ECDAA: a hash code and a count, which is any number
  unfoldable pub tpms_scheme_ecdaa_in : Layout
  tpms_scheme_ecdaa_in = number 2 alg_in (λ hashAlg. one 2 free)

  -- TPMS_SCHEME_XOR: a hash code and a KDF code
  unfoldable pub tpms_scheme_xor_in : Layout
  tpms_scheme_xor_in = number 2 alg_in (λ hashAlg. one 2 alg_in)

  -- TPMU_HA: a plain digest as long as its algorithm has it, or nothing; its table is with the codes
  unfoldable pub tpmu_ha_in : ℕ → Layout
  tpmu_ha_in v = union_of (tpmu_ha_table ++ e.tpmu_ha) v

  -- TPMU_ASYM_SCHEME: a hash code, or nothing; Ecdaa has a count too
  abbrev pub tpmu_asym_scheme_table_in : List Row
  tpmu_asym_scheme_table_in =
      row rsaes null stop
      ∷ own null stop
      ∷ row rsassa hash tpms_scheme_hash_in
      ∷ row rsapss hash tpms_scheme_hash_in
      ∷ row ecdsa hash tpms_scheme_hash_in
      ∷ own ecdaa tpms_scheme_ecdaa_in
      ∷ row sm2 hash tpms_scheme_hash_in
      ∷ row ecschnorr hash tpms_scheme_hash_in
      ∷ row oaep hash tpms_scheme_hash_in
      ∷ row ecdh hash tpms_scheme_hash_in
      ∷ row ecmqv hash tpms_scheme_hash_in
      ∷ e.tpmu_asym_scheme

  unfoldable pub tpmu_asym_scheme_in : ℕ → Layout
  tpmu_asym_scheme_in v = union_of tpmu_asym_scheme_table_in v

  -- TPMU_SIG_SCHEME: a hash code, or nothing; the Hmac arm is apart, and Ecdaa has a count too
  abbrev pub tpmu_sig_scheme_table_in : List Row
  tpmu_sig_scheme_table_in =
      own hmac tpms_scheme_hash_in
      ∷ row rsassa hash tpms_scheme_hash_in
      ∷ row rsapss hash tpms_scheme_hash_in
      ∷ row ecdsa hash tpms_scheme_hash_in
      ∷ own ecdaa tpms_scheme_ecdaa_in
      ∷ row sm2 hash tpms_scheme_hash_in
      ∷ row ecschnorr hash tpms_scheme_hash_in
      ∷ own null stop
      ∷ e.tpmu_sig_scheme

  unfoldable pub tpmu_sig_scheme_in : ℕ → Layout
  tpmu_sig_scheme_in v = union_of tpmu_sig_scheme_table_in v

  -- TPMU_SCHEME_KEYEDHASH
  abbrev pub tpmu_keyedhash_scheme_table_in : List Row
  tpmu_keyedhash_scheme_table_in =
      own hmac tpms_scheme_hash_in
      ∷ own xor tpms_scheme_xor_in
      ∷ own null stop
      ∷ e.tpmu_keyedhash_scheme

  unfoldable pub tpmu_keyedhash_scheme_in : ℕ → Layout
  tpmu_keyedhash_scheme_in v = union_of tpmu_keyedhash_scheme_table_in v

  -- TPMU_KDF_SCHEME
  abbrev pub tpmu_kdf_scheme_table_in : List Row
  tpmu_kdf_scheme_table_in =
      own mgf1 tpms_scheme_hash_in
      ∷ own kdf1_sp800_56a tpms_scheme_hash_in
      ∷ own kdf2 tpms_scheme_hash_in
      ∷ own kdf1_sp800_108 tpms_scheme_hash_in
      ∷ own null stop
      ∷ e.tpmu_kdf_scheme

  unfoldable pub tpmu_kdf_scheme_in : ℕ → Layout
  tpmu_kdf_scheme_in v = union_of tpmu_kdf_scheme_table_in v

  -- TPMU_SYM_KEY_BITS: key bits, which are no count of bytes; of Xor a hash code
  abbrev pub tpmu_sym_key_bits_table_in : List Row
  tpmu_sym_key_bits_table_in =
      own aes (one 2 free)
      ∷ own sm4 (one 2 free)
      ∷ own camellia (one 2 free)
      ∷ own xor (one 2 alg_in)
      ∷ own null stop
      ∷ e.tpmu_sym_key_bits

  unfoldable pub tpmu_sym_key_bits_in : ℕ → Layout
  tpmu_sym_key_bits_in v = union_of tpmu_sym_key_bits_table_in v

  -- TPMU_SYM_MODE: a mode; Xor has none, so that its arm is the empty one
  abbrev pub tpmu_sym_mode_table_in : List Row
  tpmu_sym_mode_table_in =
      own aes (one 2 alg_in)
      ∷ own sm4 (one 2 alg_in)
      ∷ own camellia (one 2 alg_in)
      ∷ row xor null stop
      ∷ own null stop
      ∷ e.tpmu_sym_mode

  unfoldable pub tpmu_sym_mode_in : ℕ → Layout
  tpmu_sym_mode_in v = union_of tpmu_sym_mode_table_in v

  -- ---- kinds 1 to 8

  -- kind 1, TPMT_HA
  unfoldable pub tpmt_ha_in : Layout
  tpmt_ha_in = number 2 alg_in (λ hashAlg. tpmu_ha_in hashAlg)

  -- kind 2, TPMT_SYM_DEF: a Null cipher has neither key bits nor mode, and Xor no mode
  unfoldable pub tpmt_sym_def_in : Layout
  tpmt_sym_def_in = number 2 alg_in (λ algorithm. tpmu_sym_key_bits_in algorithm then tpmu_sym_mode_in algorithm)

  -- kind 3, TPMT_KDF_SCHEME
  unfoldable pub tpmt_kdf_scheme_in : Layout
  tpmt_kdf_scheme_in = number 2 alg_in (λ scheme. tpmu_kdf_scheme_in scheme)

  -- kind 4, TPMT_KEYEDHASH_SCHEME
  unfoldable pub tpmt_keyedhash_scheme_in : Layout
  tpmt_keyedhash_scheme_in = number 2 alg_in (λ scheme. tpmu_keyedhash_scheme_in scheme)

  -- kind 5, TPMT_SIG_SCHEME
  unfoldable pub tpmt_sig_scheme_in : Layout
  tpmt_sig_scheme_in = number 2 alg_in (λ scheme. tpmu_sig_scheme_in scheme)

  -- kinds 6, 7 and 8, TPMT_RSA_SCHEME, TPMT_ECC_SCHEME and TPMT_RSA_DECRYPT
  unfoldable pub tpmt_asym_scheme_in : Layout
  tpmt_asym_scheme_in = number 2 alg_in (λ scheme. tpmu_asym_scheme_in scheme)

  -- ---- keys

  -- TPMS_RSA_PARMS
  unfoldable pub tpms_rsa_parms_in : Layout
  tpms_rsa_parms_in =
      tpmt_sym_def_in
      then tpmt_asym_scheme_in
      then number 2 free (λ keyBits. number 4 free (λ exponent. stop))

  -- TPMS_ECC_PARMS
  unfoldable pub tpms_ecc_parms_in : Layout
  tpms_ecc_parms_in =
      tpmt_sym_def_in
      then tpmt_asym_scheme_in
      then number 2 curve_in (λ curveID. tpmt_kdf_scheme_in)

  -- TPMU_PUBLIC_PARMS
  abbrev pub tpmu_public_parms_table_in : List Row
  tpmu_public_parms_table_in =
      own keyed_hash tpmt_keyedhash_scheme_in
      ∷ own sym_cipher tpmt_sym_def_in
      ∷ own rsa tpms_rsa_parms_in
      ∷ own ecc tpms_ecc_parms_in
      ∷ own null stop
      ∷ e.tpmu_public_parms

  unfoldable pub tpmu_public_parms_in : ℕ → Layout
  tpmu_public_parms_in v = union_of tpmu_public_parms_table_in v

  -- TPMU_PUBLIC_ID
  unfoldable pub tpmu_public_id_in : ℕ → Layout
  tpmu_public_id_in v = union_of (tpmu_public_id_table ++ e.tpmu_public_id) v

  -- TPMU_SENSITIVE_COMPOSITE: no Null
  unfoldable pub tpmu_sensitive_composite_in : ℕ → Layout
  tpmu_sensitive_composite_in v = union_of (tpmu_sensitive_composite_table ++ e.tpmu_sensitive_composite) v

  -- TPMS_SIGNATURE_RSA: hash, sig
  unfoldable pub tpms_signature_rsa_in : Layout
  tpms_signature_rsa_in = number 2 alg_in (λ hashAlg. public_key_rsa stop)

  -- TPMS_SIGNATURE_ECC: hash, r, s
  unfoldable pub tpms_signature_ecc_in : Layout
  tpms_signature_ecc_in = number 2 alg_in (λ hashAlg. ecc_parameter (ecc_parameter stop))

  -- TPMU_SIGNATURE
  abbrev pub tpmu_signature_table_in : List Row
  tpmu_signature_table_in =
      own rsassa tpms_signature_rsa_in
      ∷ own rsapss tpms_signature_rsa_in
      ∷ own ecdsa tpms_signature_ecc_in
      ∷ own ecdaa tpms_signature_ecc_in
      ∷ own sm2 tpms_signature_ecc_in
      ∷ own ecschnorr tpms_signature_ecc_in
      ∷ own hmac tpmt_ha_in
      ∷ own null stop
      ∷ e.tpmu_signature

  unfoldable pub tpmu_signature_in : ℕ → Layout
  tpmu_signature_in v = union_of tpmu_signature_table_in v

  -- kind 9, TPMT_PUBLIC_PARMS
  unfoldable pub tpmt_public_parms_in : Layout
  tpmt_public_parms_in = number 2 alg_in (λ type. tpmu_public_parms_in type)

  -- kind 10, TPMT_SIGNATURE
  unfoldable pub tpmt_signature_in : Layout
  tpmt_signature_in = number 2 alg_in (λ sigAlg. tpmu_signature_in sigAlg)

  -- kind 11, TPMT_PUBLIC: both arms by type
  unfoldable pub tpmt_public_in : Layout
  tpmt_public_in =
      number 2 alg_in (λ type.
      number 2 alg_in (λ nameAlg.
      number 4 free (λ objectAttributes.
      digest (
      tpmu_public_parms_in type then tpmu_public_id_in type))))

  -- kind 12, TPMT_SENSITIVE
  unfoldable pub tpmt_sensitive_in : Layout
  tpmt_sensitive_in =
      number 2 alg_in (λ sensitiveType.
      digest (
      digest (
      tpmu_sensitive_composite_in sensitiveType)))

  -- ---- the lists

  -- TPMS_PCR_SELECTION: hash, size and so many bytes of bits
  unfoldable pub tpms_pcr_selection_in : Layout
  tpms_pcr_selection_in = number 2 alg_in (λ hashAlg. buffer 1 4 stop)

  -- TPMS_ALG_PROPERTY: an algorithm and its attributes
  unfoldable pub tpms_alg_property_in : Layout
  tpms_alg_property_in = number 2 alg_in (λ algId. one 4 free)

  -- TPMS_TAGGED_POLICY: a handle, and a policy's digest, which is a record of kind 1
  unfoldable pub tpms_tagged_policy_in : Layout
  tpms_tagged_policy_in = number 4 free (λ handle. tpmt_ha_in)

  -- the lists, a line each: what an item is. Handles, command attributes and command codes are free numbers in every edition
  abbrev pub item_layout_in : ListOf → Layout
  item_layout_in AlgProperty = tpms_alg_property_in
  item_layout_in Handle = one 4 free
  item_layout_in Cca = one 4 free
  item_layout_in Cc = one 4 free
  item_layout_in PcrSelection = tpms_pcr_selection_in
  item_layout_in TaggedTpmProperty = tpms_tagged_property
  item_layout_in EccCurve = one 2 curve_in
  item_layout_in TaggedPolicy = tpms_tagged_policy_in
  item_layout_in ActData = tpms_act_data

  -- a list: its count, and so many items
  abbrev pub tpml_in : ListOf → Layout
  tpml_in which = counted (most_items which) (item_layout_in which) stop

  -- ---- PCR selections and attestations: kinds 14 and 13

  -- kind 14, TPML_PCR_SELECTION
  unfoldable pub tpml_pcr_selection_in : Layout
  tpml_pcr_selection_in = tpml_in PcrSelection

  -- TPMS_QUOTE_INFO: PCR selections, PCR digest
  unfoldable pub tpms_quote_info_in : Layout
  tpms_quote_info_in = tpml_pcr_selection_in then digest stop

  -- TPMS_COMMAND_AUDIT_INFO: audit digest and command digest last
  unfoldable pub tpms_command_audit_info_in : Layout
  tpms_command_audit_info_in = number 8 free (λ auditCounter. number 2 alg_in (λ digestAlg. digest (digest stop)))

  -- TPMU_ATTEST
  abbrev pub tpmu_attest_table_in : List Row
  tpmu_attest_table_in =
      own attest_certify tpms_certify_info
      ∷ own attest_creation tpms_creation_info
      ∷ own attest_quote tpms_quote_info_in
      ∷ own attest_command_audit tpms_command_audit_info_in
      ∷ own attest_session_audit tpms_session_audit_info
      ∷ own attest_time tpms_time_attest_info
      ∷ own attest_nv tpms_nv_certify_info
      ∷ own attest_nv_digest tpms_nv_digest_certify_info
      ∷ e.tpmu_attest

  unfoldable pub tpmu_attest_in : ℕ → Layout
  tpmu_attest_in v = union_of tpmu_attest_table_in v

  -- kind 13, TPMS_ATTEST
  unfoldable pub tpms_attest_in : Layout
  tpms_attest_in =
      number 4 magic (λ magic.
      number 2 attestation_in (λ type.
      name (
      qualifying (
      tpms_clock_info then
      number 8 free (λ firmwareVersion.
      tpmu_attest_in type)))))

  -- ---- what a TPM says it can do: kind 15

  -- TPMU_CAPABILITIES: a list for each capability; PcrProperties has no arm
  abbrev pub tpmu_capabilities_table_in : List Row
  tpmu_capabilities_table_in =
      own cap_algs (tpml_in AlgProperty)
      ∷ own cap_handles (tpml_in Handle)
      ∷ own cap_commands (tpml_in Cca)
      ∷ own cap_pp_commands (tpml_in Cc)
      ∷ own cap_audit_commands (tpml_in Cc)
      ∷ own cap_pcrs tpml_pcr_selection_in
      ∷ own cap_tpm_properties (tpml_in TaggedTpmProperty)
      ∷ own cap_ecc_curves (tpml_in EccCurve)
      ∷ own cap_auth_policies (tpml_in TaggedPolicy)
      ∷ own cap_act (tpml_in ActData)
      ∷ e.tpmu_capabilities

  unfoldable pub tpmu_capabilities_in : ℕ → Layout
  tpmu_capabilities_in v = union_of tpmu_capabilities_table_in v

  -- kind 15, TPMS_CAPABILITY_DATA
  unfoldable pub tpms_capability_data_in : Layout
  tpms_capability_data_in = number 4 cap_in (λ capability. tpmu_capabilities_in capability)

  -- ---- where a TPM keeps its own data, and what it has checked: kinds 16 to 20

  -- TPMS_NV_PUBLIC
  unfoldable pub tpms_nv_public_in : Layout
  tpms_nv_public_in =
      number 4 free (λ nvIndex.
      number 2 alg_in (λ nameAlg.
      number 4 free (λ attributes.
      nv_public_tail)))

  -- TPMS_NV_PUBLIC_EXP_ATTR: the same with attributes of 8 bytes
  unfoldable pub tpms_nv_public_exp_attr_in : Layout
  tpms_nv_public_exp_attr_in =
      number 4 free (λ nvIndex.
      number 2 alg_in (λ nameAlg.
      number 8 free (λ attributes.
      nv_public_tail)))

  -- TPMU_NV_PUBLIC_2
  abbrev pub tpmu_nv_public2_table_in : List Row
  tpmu_nv_public2_table_in =
      own ht_nv_index tpms_nv_public_in
      ∷ own ht_external_nv tpms_nv_public_exp_attr_in
      ∷ own ht_permanent_nv tpms_nv_public_in
      ∷ e.tpmu_nv_public2

  unfoldable pub tpmu_nv_public2_in : ℕ → Layout
  tpmu_nv_public2_in v = union_of tpmu_nv_public2_table_in v

  -- kind 16, TPMT_NV_PUBLIC_2
  unfoldable pub tpmt_nv_public2_in : Layout
  tpmt_nv_public2_in = number 1 handle_type_in (λ handle_type. tpmu_nv_public2_in handle_type)

  -- what every ticket has behind its tag: a hierarchy and a digest
  unfoldable pub ticket_body_in : Layout
  ticket_body_in = number 4 hierarchy_in (λ hierarchy. digest stop)

  -- a ticket whose tag is under that rule, which is the same in every edition
  abbrev pub ticket_in : Rule → Layout
  ticket_in r = number 2 r (λ tag. ticket_body_in)

  -- kind 17, TPMT_TK_CREATION
  unfoldable pub tpmt_tk_creation_in : Layout
  tpmt_tk_creation_in = ticket_in (ticket_tag Creation)

  -- kind 18, TPMT_TK_VERIFIED
  unfoldable pub tpmt_tk_verified_in : Layout
  tpmt_tk_verified_in = ticket_in (ticket_tag Verified)

  -- kind 19, TPMT_TK_HASHCHECK
  unfoldable pub tpmt_tk_hashcheck_in : Layout
  tpmt_tk_hashcheck_in = ticket_in (ticket_tag Hashcheck)

  -- kind 20, TPMT_TK_AUTH
  unfoldable pub tpmt_tk_auth_in : Layout
  tpmt_tk_auth_in = ticket_in (ticket_tag Auth)

  -- ---- by number

  -- the kinds of the edition from 1 on
  unfoldable pub kinds_in : List Layout
  kinds_in =
      tpmt_ha_in ∷ tpmt_sym_def_in ∷ tpmt_kdf_scheme_in ∷ tpmt_keyedhash_scheme_in ∷ tpmt_sig_scheme_in ∷ tpmt_asym_scheme_in ∷ tpmt_asym_scheme_in ∷ tpmt_asym_scheme_in
      ∷ tpmt_public_parms_in ∷ tpmt_signature_in ∷ tpmt_public_in ∷ tpmt_sensitive_in ∷ tpms_attest_in ∷ tpml_pcr_selection_in ∷ tpms_capability_data_in
      ∷ tpmt_nv_public2_in ∷ tpmt_tk_creation_in ∷ tpmt_tk_verified_in ∷ tpmt_tk_hashcheck_in ∷ tpmt_tk_auth_in
      ∷ []

  -- the layout of a kind in the edition; no bytes spell a kind that there is not
  unfoldable pub layout_in : ℕ → Layout
  layout_in zero = no_arm 0
  layout_in (suc k) = get_or kinds_in k (no_arm 0)
