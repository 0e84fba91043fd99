-- The kinds as layouts: a line a field, in wire order, with Part 2's names; and one table a union. Assumes nothing.
use Rattle.std.specs.Prelude.{ℕ, zero, suc, Bool, ◌&&◌, cond, List, [], ◌∷◌, length, get_or, leb, ltb, Option}
use Rattle.faults.specs.Faults.{bad_kind}
use Rattle.wire.specs.Layout.{Rule, Layout, stop, no_arm, number, buffer, counted, one, free, ◌then◌}
use Rattle.wire.specs.Records.{Parsed, refused}
use Rattle.wire.specs.Reading.{Reader, read}
use Rattle.wire.specs.Unions.{Row, row, own, arm_of, body_of, union}
use Rattle.format.specs.declared.list.ListOf.{ListOf}
use Rattle.format.specs.declared.list.ListOf.TheVariants.{AlgProperty, Handle, Cca, Cc, PcrSelection, TaggedTpmProperty, EccCurve, TaggedPolicy, ActData}
pub use Rattle.codes.specs.Digests.{digest_of, digest_size, tpmu_ha_table}
unfoldable pub use Rattle.codes.specs.Digests.{tpmu_ha_arm}
use Rattle.codes.specs.declared.Ticket.TheVariants.{Creation, Verified, Hashcheck, Auth}
use Rattle.codes.specs.Codes.{alg, curve, attestation, cap, handle_type, hierarchy, yes_no, magic, ticket_tag, rsa, hmac, aes, mgf1, keyed_hash, xor, null, sm4, rsassa, rsaes, rsapss, oaep, ecdsa, ecdh, ecdaa, sm2, ecschnorr, ecmqv, kdf1_sp800_56a, kdf2, kdf1_sp800_108, ecc, sym_cipher, camellia, attest_nv, attest_command_audit, attest_session_audit, attest_certify, attest_quote, attest_time, attest_creation, attest_nv_digest, cap_algs, cap_handles, cap_commands, cap_pp_commands, cap_audit_commands, cap_pcrs, cap_tpm_properties, cap_ecc_curves, cap_auth_policies, cap_act, ht_nv_index, ht_external_nv, ht_permanent_nv}

-- ---- limits of the buffers, in bytes

-- a digest, an auth value, a seed
abbrev pub digest : Layout → Layout
digest l = buffer 2 64 l

abbrev pub public_key_rsa : Layout → Layout
public_key_rsa l = buffer 2 512 l

-- an RSA private key, or sensitive data
abbrev pub private_data : Layout → Layout
private_data l = buffer 2 256 l

abbrev pub ecc_parameter : Layout → Layout
ecc_parameter l = buffer 2 66 l

abbrev pub sym_key : Layout → Layout
sym_key l = buffer 2 32 l

abbrev pub name : Layout → Layout
name l = buffer 2 66 l

-- qualifying data
abbrev pub qualifying : Layout → Layout
qualifying l = buffer 2 66 l

abbrev pub nv_contents : Layout → Layout
nv_contents l = buffer 2 2048 l

-- ---- the numbers of arms: a digest's is 256 more than its length (digest_of). Of the others, one that a single selector chooses has that
-- selector's code; the empty arm is Null's and has Null's code, also where Rsaes or Xor chooses it too; and a hash code that several choose is 1

-- a hash code that several schemes choose
abbrev pub hash : ℕ
hash = 1

-- ---- digests, ciphers and schemes: kinds 1 to 8

-- TPMS_SCHEME_HASH: a hash code
unfoldable pub tpms_scheme_hash : Layout
tpms_scheme_hash = one 2 alg

-- TPMS_SCHEME_ECDAA: a hash code and a count, which is any number
unfoldable pub tpms_scheme_ecdaa : Layout
tpms_scheme_ecdaa = number 2 alg (λ hashAlg. one 2 free)

-- TPMS_SCHEME_XOR: a hash code and a KDF code
unfoldable pub tpms_scheme_xor : Layout
tpms_scheme_xor = number 2 alg (λ hashAlg. one 2 alg)

-- TPMU_HA: a plain digest as long as its algorithm has it, or nothing; its table is with the codes
abbrev pub tpmu_ha_body : ℕ → Layout
tpmu_ha_body t = body_of tpmu_ha_table t

unfoldable pub tpmu_ha : ℕ → Layout
tpmu_ha v = union (tpmu_ha_arm v) tpmu_ha_body v

-- TPMU_ASYM_SCHEME: a hash code, or nothing; Ecdaa has a count too
abbrev pub tpmu_asym_scheme_table : List Row
tpmu_asym_scheme_table =
    row rsaes null stop
    ∷ own null stop
    ∷ row rsassa hash tpms_scheme_hash
    ∷ row rsapss hash tpms_scheme_hash
    ∷ row ecdsa hash tpms_scheme_hash
    ∷ own ecdaa tpms_scheme_ecdaa
    ∷ row sm2 hash tpms_scheme_hash
    ∷ row ecschnorr hash tpms_scheme_hash
    ∷ row oaep hash tpms_scheme_hash
    ∷ row ecdh hash tpms_scheme_hash
    ∷ row ecmqv hash tpms_scheme_hash
    ∷ []

unfoldable pub tpmu_asym_scheme_arm : ℕ → Option ℕ
tpmu_asym_scheme_arm v = arm_of tpmu_asym_scheme_table v

abbrev pub tpmu_asym_scheme_body : ℕ → Layout
tpmu_asym_scheme_body t = body_of tpmu_asym_scheme_table t

unfoldable pub tpmu_asym_scheme : ℕ → Layout
tpmu_asym_scheme v = union (tpmu_asym_scheme_arm v) tpmu_asym_scheme_body v

-- TPMU_SIG_SCHEME: a hash code, or nothing; the Hmac arm is apart, and Ecdaa has a count too
abbrev pub tpmu_sig_scheme_table : List Row
tpmu_sig_scheme_table =
    own hmac tpms_scheme_hash
    ∷ row rsassa hash tpms_scheme_hash
    ∷ row rsapss hash tpms_scheme_hash
    ∷ row ecdsa hash tpms_scheme_hash
    ∷ own ecdaa tpms_scheme_ecdaa
    ∷ row sm2 hash tpms_scheme_hash
    ∷ row ecschnorr hash tpms_scheme_hash
    ∷ own null stop
    ∷ []

unfoldable pub tpmu_sig_scheme_arm : ℕ → Option ℕ
tpmu_sig_scheme_arm v = arm_of tpmu_sig_scheme_table v

abbrev pub tpmu_sig_scheme_body : ℕ → Layout
tpmu_sig_scheme_body t = body_of tpmu_sig_scheme_table t

unfoldable pub tpmu_sig_scheme : ℕ → Layout
tpmu_sig_scheme v = union (tpmu_sig_scheme_arm v) tpmu_sig_scheme_body v

-- TPMU_SCHEME_KEYEDHASH
abbrev pub tpmu_keyedhash_scheme_table : List Row
tpmu_keyedhash_scheme_table =
    own hmac tpms_scheme_hash
    ∷ own xor tpms_scheme_xor
    ∷ own null stop
    ∷ []

unfoldable pub tpmu_keyedhash_scheme_arm : ℕ → Option ℕ
tpmu_keyedhash_scheme_arm v = arm_of tpmu_keyedhash_scheme_table v

abbrev pub tpmu_keyedhash_scheme_body : ℕ → Layout
tpmu_keyedhash_scheme_body t = body_of tpmu_keyedhash_scheme_table t

unfoldable pub tpmu_keyedhash_scheme : ℕ → Layout
tpmu_keyedhash_scheme v = union (tpmu_keyedhash_scheme_arm v) tpmu_keyedhash_scheme_body v

-- TPMU_KDF_SCHEME
abbrev pub tpmu_kdf_scheme_table : List Row
tpmu_kdf_scheme_table =
    own mgf1 tpms_scheme_hash
    ∷ own kdf1_sp800_56a tpms_scheme_hash
    ∷ own kdf2 tpms_scheme_hash
    ∷ own kdf1_sp800_108 tpms_scheme_hash
    ∷ own null stop
    ∷ []

unfoldable pub tpmu_kdf_scheme_arm : ℕ → Option ℕ
tpmu_kdf_scheme_arm v = arm_of tpmu_kdf_scheme_table v

abbrev pub tpmu_kdf_scheme_body : ℕ → Layout
tpmu_kdf_scheme_body t = body_of tpmu_kdf_scheme_table t

unfoldable pub tpmu_kdf_scheme : ℕ → Layout
tpmu_kdf_scheme v = union (tpmu_kdf_scheme_arm v) tpmu_kdf_scheme_body v

-- TPMU_SYM_KEY_BITS: key bits, which are no count of bytes; of Xor a hash code
abbrev pub tpmu_sym_key_bits_table : List Row
tpmu_sym_key_bits_table =
    own aes (one 2 free)
    ∷ own sm4 (one 2 free)
    ∷ own camellia (one 2 free)
    ∷ own xor (one 2 alg)
    ∷ own null stop
    ∷ []

unfoldable pub tpmu_sym_key_bits_arm : ℕ → Option ℕ
tpmu_sym_key_bits_arm v = arm_of tpmu_sym_key_bits_table v

abbrev pub tpmu_sym_key_bits_body : ℕ → Layout
tpmu_sym_key_bits_body t = body_of tpmu_sym_key_bits_table t

unfoldable pub tpmu_sym_key_bits : ℕ → Layout
tpmu_sym_key_bits v = union (tpmu_sym_key_bits_arm v) tpmu_sym_key_bits_body v

-- TPMU_SYM_MODE: a mode; Xor has none, so that its arm is the empty one
abbrev pub tpmu_sym_mode_table : List Row
tpmu_sym_mode_table =
    own aes (one 2 alg)
    ∷ own sm4 (one 2 alg)
    ∷ own camellia (one 2 alg)
    ∷ row xor null stop
    ∷ own null stop
    ∷ []

unfoldable pub tpmu_sym_mode_arm : ℕ → Option ℕ
tpmu_sym_mode_arm v = arm_of tpmu_sym_mode_table v

abbrev pub tpmu_sym_mode_body : ℕ → Layout
tpmu_sym_mode_body t = body_of tpmu_sym_mode_table t

unfoldable pub tpmu_sym_mode : ℕ → Layout
tpmu_sym_mode v = union (tpmu_sym_mode_arm v) tpmu_sym_mode_body v

-- ---- kinds 1 to 8

-- kind 1, TPMT_HA
unfoldable pub tpmt_ha : Layout
tpmt_ha = number 2 alg (λ hashAlg. tpmu_ha hashAlg)

-- kind 2, TPMT_SYM_DEF: a Null cipher has neither key bits nor mode, and Xor no mode
unfoldable pub tpmt_sym_def : Layout
tpmt_sym_def = number 2 alg (λ algorithm. tpmu_sym_key_bits algorithm then tpmu_sym_mode algorithm)

-- kind 3, TPMT_KDF_SCHEME
unfoldable pub tpmt_kdf_scheme : Layout
tpmt_kdf_scheme = number 2 alg (λ scheme. tpmu_kdf_scheme scheme)

-- kind 4, TPMT_KEYEDHASH_SCHEME
unfoldable pub tpmt_keyedhash_scheme : Layout
tpmt_keyedhash_scheme = number 2 alg (λ scheme. tpmu_keyedhash_scheme scheme)

-- kind 5, TPMT_SIG_SCHEME
unfoldable pub tpmt_sig_scheme : Layout
tpmt_sig_scheme = number 2 alg (λ scheme. tpmu_sig_scheme scheme)

-- kinds 6, 7 and 8, TPMT_RSA_SCHEME, TPMT_ECC_SCHEME and TPMT_RSA_DECRYPT
unfoldable pub tpmt_asym_scheme : Layout
tpmt_asym_scheme = number 2 alg (λ scheme. tpmu_asym_scheme scheme)

-- ---- keys

-- TPMS_RSA_PARMS
unfoldable pub tpms_rsa_parms : Layout
tpms_rsa_parms =
    tpmt_sym_def
    then tpmt_asym_scheme
    then number 2 free (λ keyBits. number 4 free (λ exponent. stop))

-- TPMS_ECC_PARMS
unfoldable pub tpms_ecc_parms : Layout
tpms_ecc_parms =
    tpmt_sym_def
    then tpmt_asym_scheme
    then number 2 curve (λ curveID. tpmt_kdf_scheme)

-- TPMU_PUBLIC_PARMS
abbrev pub tpmu_public_parms_table : List Row
tpmu_public_parms_table =
    own keyed_hash tpmt_keyedhash_scheme
    ∷ own sym_cipher tpmt_sym_def
    ∷ own rsa tpms_rsa_parms
    ∷ own ecc tpms_ecc_parms
    ∷ own null stop
    ∷ []

unfoldable pub tpmu_public_parms_arm : ℕ → Option ℕ
tpmu_public_parms_arm v = arm_of tpmu_public_parms_table v

abbrev pub tpmu_public_parms_body : ℕ → Layout
tpmu_public_parms_body t = body_of tpmu_public_parms_table t

unfoldable pub tpmu_public_parms : ℕ → Layout
tpmu_public_parms v = union (tpmu_public_parms_arm v) tpmu_public_parms_body v

-- TPMS_ECC_POINT: x and y
unfoldable pub tpms_ecc_point : Layout
tpms_ecc_point = ecc_parameter (ecc_parameter stop)

-- TPMU_PUBLIC_ID
abbrev pub tpmu_public_id_table : List Row
tpmu_public_id_table =
    own keyed_hash (digest stop)
    ∷ own sym_cipher (sym_key stop)
    ∷ own rsa (public_key_rsa stop)
    ∷ own ecc tpms_ecc_point
    ∷ own null stop
    ∷ []

unfoldable pub tpmu_public_id_arm : ℕ → Option ℕ
tpmu_public_id_arm v = arm_of tpmu_public_id_table v

abbrev pub tpmu_public_id_body : ℕ → Layout
tpmu_public_id_body t = body_of tpmu_public_id_table t

unfoldable pub tpmu_public_id : ℕ → Layout
tpmu_public_id v = union (tpmu_public_id_arm v) tpmu_public_id_body v

-- TPMU_SENSITIVE_COMPOSITE: no Null
abbrev pub tpmu_sensitive_composite_table : List Row
tpmu_sensitive_composite_table =
    own rsa (private_data stop)
    ∷ own ecc (ecc_parameter stop)
    ∷ own keyed_hash (private_data stop)
    ∷ own sym_cipher (sym_key stop)
    ∷ []

unfoldable pub tpmu_sensitive_composite_arm : ℕ → Option ℕ
tpmu_sensitive_composite_arm v = arm_of tpmu_sensitive_composite_table v

abbrev pub tpmu_sensitive_composite_body : ℕ → Layout
tpmu_sensitive_composite_body t = body_of tpmu_sensitive_composite_table t

unfoldable pub tpmu_sensitive_composite : ℕ → Layout
tpmu_sensitive_composite v = union (tpmu_sensitive_composite_arm v) tpmu_sensitive_composite_body v

-- TPMS_SIGNATURE_RSA: hash, sig
unfoldable pub tpms_signature_rsa : Layout
tpms_signature_rsa = number 2 alg (λ hashAlg. public_key_rsa stop)

-- TPMS_SIGNATURE_ECC: hash, r, s
unfoldable pub tpms_signature_ecc : Layout
tpms_signature_ecc = number 2 alg (λ hashAlg. ecc_parameter (ecc_parameter stop))

-- TPMU_SIGNATURE
abbrev pub tpmu_signature_table : List Row
tpmu_signature_table =
    own rsassa tpms_signature_rsa
    ∷ own rsapss tpms_signature_rsa
    ∷ own ecdsa tpms_signature_ecc
    ∷ own ecdaa tpms_signature_ecc
    ∷ own sm2 tpms_signature_ecc
    ∷ own ecschnorr tpms_signature_ecc
    ∷ own hmac tpmt_ha
    ∷ own null stop
    ∷ []

unfoldable pub tpmu_signature_arm : ℕ → Option ℕ
tpmu_signature_arm v = arm_of tpmu_signature_table v

abbrev pub tpmu_signature_body : ℕ → Layout
tpmu_signature_body t = body_of tpmu_signature_table t

unfoldable pub tpmu_signature : ℕ → Layout
tpmu_signature v = union (tpmu_signature_arm v) tpmu_signature_body v

-- kind 9, TPMT_PUBLIC_PARMS
unfoldable pub tpmt_public_parms : Layout
tpmt_public_parms = number 2 alg (λ type. tpmu_public_parms type)

-- kind 10, TPMT_SIGNATURE
unfoldable pub tpmt_signature : Layout
tpmt_signature = number 2 alg (λ sigAlg. tpmu_signature sigAlg)

-- kind 11, TPMT_PUBLIC: both arms by type
unfoldable pub tpmt_public : Layout
tpmt_public =
    number 2 alg (λ type.
    number 2 alg (λ nameAlg.
    number 4 free (λ objectAttributes.
    digest (
    tpmu_public_parms type then tpmu_public_id type))))

-- kind 12, TPMT_SENSITIVE
unfoldable pub tpmt_sensitive : Layout
tpmt_sensitive =
    number 2 alg (λ sensitiveType.
    digest (
    digest (
    tpmu_sensitive_composite sensitiveType)))

-- ---- the lists

-- TPMS_PCR_SELECTION: hash, size and so many bytes of bits
unfoldable pub tpms_pcr_selection : Layout
tpms_pcr_selection = number 2 alg (λ hashAlg. buffer 1 4 stop)

-- TPMS_ALG_PROPERTY: an algorithm and its attributes
unfoldable pub tpms_alg_property : Layout
tpms_alg_property = number 2 alg (λ algId. one 4 free)

-- TPMS_TAGGED_PROPERTY: a tag, which is any number, and a value
unfoldable pub tpms_tagged_property : Layout
tpms_tagged_property = number 4 free (λ property. one 4 free)

-- TPMS_TAGGED_POLICY: a handle, and a policy's digest, which is a record of kind 1
unfoldable pub tpms_tagged_policy : Layout
tpms_tagged_policy = number 4 free (λ handle. tpmt_ha)

-- TPMS_ACT_DATA: a handle, a timeout and attributes
unfoldable pub tpms_act_data : Layout
tpms_act_data = number 4 free (λ handle. number 4 free (λ timeout. one 4 free))

-- the lists, a line each: what an item is, and how many there are at most. Handles, command attributes and command codes are free numbers
abbrev pub item_layout : ListOf → Layout
item_layout AlgProperty = tpms_alg_property
item_layout Handle = one 4 free
item_layout Cca = one 4 free
item_layout Cc = one 4 free
item_layout PcrSelection = tpms_pcr_selection
item_layout TaggedTpmProperty = tpms_tagged_property
item_layout EccCurve = one 2 curve
item_layout TaggedPolicy = tpms_tagged_policy
item_layout ActData = tpms_act_data

abbrev pub most_items : ListOf → ℕ
most_items AlgProperty = 128
most_items Handle = 128
most_items Cca = 128
most_items Cc = 128
most_items PcrSelection = 16
most_items TaggedTpmProperty = 128
most_items EccCurve = 128
most_items TaggedPolicy = 16
most_items ActData = 16

-- a list: its count, and so many items
abbrev pub tpml : ListOf → Layout
tpml which = counted (most_items which) (item_layout which) stop

-- ---- PCR selections and attestations: kinds 14 and 13

-- kind 14, TPML_PCR_SELECTION
unfoldable pub tpml_pcr_selection : Layout
tpml_pcr_selection = tpml PcrSelection

-- TPMS_CLOCK_INFO
unfoldable pub tpms_clock_info : Layout
tpms_clock_info =
    number 8 free (λ clock.
    number 4 free (λ resetCount.
    number 4 free (λ restartCount.
    number 1 yes_no (λ safe. stop))))

-- TPMS_CERTIFY_INFO: name, qualified name
unfoldable pub tpms_certify_info : Layout
tpms_certify_info = name (name stop)

-- TPMS_CREATION_INFO: object name, creation hash
unfoldable pub tpms_creation_info : Layout
tpms_creation_info = name (digest stop)

-- TPMS_QUOTE_INFO: PCR selections, PCR digest
unfoldable pub tpms_quote_info : Layout
tpms_quote_info = tpml_pcr_selection then digest stop

-- TPMS_COMMAND_AUDIT_INFO: audit digest and command digest last
unfoldable pub tpms_command_audit_info : Layout
tpms_command_audit_info = number 8 free (λ auditCounter. number 2 alg (λ digestAlg. digest (digest stop)))

-- TPMS_SESSION_AUDIT_INFO
unfoldable pub tpms_session_audit_info : Layout
tpms_session_audit_info = number 1 yes_no (λ exclusiveSession. digest stop)

-- TPMS_TIME_INFO
unfoldable pub tpms_time_info : Layout
tpms_time_info = number 8 free (λ time. tpms_clock_info)

-- TPMS_TIME_ATTEST_INFO: time and clock, then firmware
unfoldable pub tpms_time_attest_info : Layout
tpms_time_attest_info = tpms_time_info then one 8 free

-- TPMS_NV_CERTIFY_INFO: index name, offset, contents
unfoldable pub tpms_nv_certify_info : Layout
tpms_nv_certify_info = name (number 2 free (λ offset. nv_contents stop))

-- TPMS_NV_DIGEST_CERTIFY_INFO: index name, digest
unfoldable pub tpms_nv_digest_certify_info : Layout
tpms_nv_digest_certify_info = name (digest stop)

-- TPMU_ATTEST
abbrev pub tpmu_attest_table : List Row
tpmu_attest_table =
    own attest_certify tpms_certify_info
    ∷ own attest_creation tpms_creation_info
    ∷ own attest_quote tpms_quote_info
    ∷ own attest_command_audit tpms_command_audit_info
    ∷ own attest_session_audit tpms_session_audit_info
    ∷ own attest_time tpms_time_attest_info
    ∷ own attest_nv tpms_nv_certify_info
    ∷ own attest_nv_digest tpms_nv_digest_certify_info
    ∷ []

unfoldable pub tpmu_attest_arm : ℕ → Option ℕ
tpmu_attest_arm v = arm_of tpmu_attest_table v

abbrev pub tpmu_attest_body : ℕ → Layout
tpmu_attest_body t = body_of tpmu_attest_table t

unfoldable pub tpmu_attest : ℕ → Layout
tpmu_attest v = union (tpmu_attest_arm v) tpmu_attest_body v

-- kind 13, TPMS_ATTEST
unfoldable pub tpms_attest : Layout
tpms_attest =
    number 4 magic (λ magic.
    number 2 attestation (λ type.
    name (
    qualifying (
    tpms_clock_info then
    number 8 free (λ firmwareVersion.
    tpmu_attest type)))))

-- ---- what a TPM says it can do: kind 15

-- TPMU_CAPABILITIES: a list for each capability; PcrProperties has no arm
abbrev pub tpmu_capabilities_table : List Row
tpmu_capabilities_table =
    own cap_algs (tpml AlgProperty)
    ∷ own cap_handles (tpml Handle)
    ∷ own cap_commands (tpml Cca)
    ∷ own cap_pp_commands (tpml Cc)
    ∷ own cap_audit_commands (tpml Cc)
    ∷ own cap_pcrs tpml_pcr_selection
    ∷ own cap_tpm_properties (tpml TaggedTpmProperty)
    ∷ own cap_ecc_curves (tpml EccCurve)
    ∷ own cap_auth_policies (tpml TaggedPolicy)
    ∷ own cap_act (tpml ActData)
    ∷ []

unfoldable pub tpmu_capabilities_arm : ℕ → Option ℕ
tpmu_capabilities_arm v = arm_of tpmu_capabilities_table v

abbrev pub tpmu_capabilities_body : ℕ → Layout
tpmu_capabilities_body t = body_of tpmu_capabilities_table t

unfoldable pub tpmu_capabilities : ℕ → Layout
tpmu_capabilities v = union (tpmu_capabilities_arm v) tpmu_capabilities_body v

-- kind 15, TPMS_CAPABILITY_DATA
unfoldable pub tpms_capability_data : Layout
tpms_capability_data = number 4 cap (λ capability. tpmu_capabilities capability)

-- ---- where a TPM keeps its own data, and what it has checked: kinds 16 to 20

-- what every NV area ends with: the policy's digest, and the size of the data
abbrev pub nv_public_tail : Layout
nv_public_tail = digest (one 2 free)

-- TPMS_NV_PUBLIC
unfoldable pub tpms_nv_public : Layout
tpms_nv_public =
    number 4 free (λ nvIndex.
    number 2 alg (λ nameAlg.
    number 4 free (λ attributes.
    nv_public_tail)))

-- TPMS_NV_PUBLIC_EXP_ATTR: the same with attributes of 8 bytes
unfoldable pub tpms_nv_public_exp_attr : Layout
tpms_nv_public_exp_attr =
    number 4 free (λ nvIndex.
    number 2 alg (λ nameAlg.
    number 8 free (λ attributes.
    nv_public_tail)))

-- TPMU_NV_PUBLIC_2: every handle type that is listed has its arm
abbrev pub tpmu_nv_public2_table : List Row
tpmu_nv_public2_table =
    own ht_nv_index tpms_nv_public
    ∷ own ht_external_nv tpms_nv_public_exp_attr
    ∷ own ht_permanent_nv tpms_nv_public
    ∷ []

unfoldable pub tpmu_nv_public2_arm : ℕ → Option ℕ
tpmu_nv_public2_arm v = arm_of tpmu_nv_public2_table v

abbrev pub tpmu_nv_public2_body : ℕ → Layout
tpmu_nv_public2_body t = body_of tpmu_nv_public2_table t

unfoldable pub tpmu_nv_public2 : ℕ → Layout
tpmu_nv_public2 v = union (tpmu_nv_public2_arm v) tpmu_nv_public2_body v

-- kind 16, TPMT_NV_PUBLIC_2
unfoldable pub tpmt_nv_public2 : Layout
tpmt_nv_public2 = number 1 handle_type (λ handle_type. tpmu_nv_public2 handle_type)

-- what every ticket has behind its tag: a hierarchy and a digest
unfoldable pub ticket_body : Layout
ticket_body = number 4 hierarchy (λ hierarchy. digest stop)

-- a ticket whose tag is under that rule
abbrev pub ticket : Rule → Layout
ticket r = number 2 r (λ tag. ticket_body)

-- kind 17, TPMT_TK_CREATION
unfoldable pub tpmt_tk_creation : Layout
tpmt_tk_creation = ticket (ticket_tag Creation)

-- kind 18, TPMT_TK_VERIFIED
unfoldable pub tpmt_tk_verified : Layout
tpmt_tk_verified = ticket (ticket_tag Verified)

-- kind 19, TPMT_TK_HASHCHECK
unfoldable pub tpmt_tk_hashcheck : Layout
tpmt_tk_hashcheck = ticket (ticket_tag Hashcheck)

-- kind 20, TPMT_TK_AUTH
unfoldable pub tpmt_tk_auth : Layout
tpmt_tk_auth = ticket (ticket_tag Auth)

-- ---- by number

-- the kinds from 1 on; 0 is none
unfoldable pub kinds : List Layout
kinds =
    tpmt_ha ∷ tpmt_sym_def ∷ tpmt_kdf_scheme ∷ tpmt_keyedhash_scheme ∷ tpmt_sig_scheme ∷ tpmt_asym_scheme ∷ tpmt_asym_scheme ∷ tpmt_asym_scheme
    ∷ tpmt_public_parms ∷ tpmt_signature ∷ tpmt_public ∷ tpmt_sensitive ∷ tpms_attest ∷ tpml_pcr_selection ∷ tpms_capability_data
    ∷ tpmt_nv_public2 ∷ tpmt_tk_creation ∷ tpmt_tk_verified ∷ tpmt_tk_hashcheck ∷ tpmt_tk_auth
    ∷ []

-- the numbers of the kinds
abbrev pub is_kind : ℕ → Bool
is_kind k = ltb 0 k && leb k (length kinds)

-- the layout of a kind; no bytes spell a kind that there is not
unfoldable pub layout_of : ℕ → Layout
layout_of zero = no_arm 0
layout_of (suc k) = get_or kinds k (no_arm 0)

-- what a reader of records of any kind answers: a number that is no kind is refused before any byte is looked at
unfoldable pub read_kind : (kind : ℕ) → Reader Parsed
read_kind k src at = cond (is_kind k) (read (layout_of k) src at) (refused (bad_kind k))
