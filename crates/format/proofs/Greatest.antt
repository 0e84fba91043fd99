-- The greatest record of each kind: no record is larger, and one is so large. Assumes nothing.
use Prim.Native.Nat.{ℕ, zero, suc, ◌^◌, ◌≤◌, ◌<◌}
use native.Mathlib.Omega.{arith}
use mathlib.Core.Path.{◌≡◌, refl}
use mathlib.Core.Bool.{true}
use mathlib.Core.List.{List, [], ◌∷◌}
use lib.ListN.{get_or}
use Rattle.wire.specs.Layout.{Rule, allows, Layout, no_arm, one, free}
use Rattle.wire.specs.Sizes.{AtMost, Reaches, Greatest}
use Rattle.wire.proofs.Sizes.{stop_most, no_arm_most, buffer_most, then_most, most_wider, stop_reaches, arm_reaches, number_reaches, buffer_reaches, then_reaches}
use Rattle.format.specs.declared.list.ListOf.{ListOf}
use Rattle.format.specs.declared.list.ListOf.TheVariants.{AlgProperty, Handle, Cca, Cc, PcrSelection, TaggedTpmProperty, EccCurve, TaggedPolicy, ActData}
use Rattle.codes.specs.declared.Ticket.TheVariants.{Creation, Verified, Hashcheck, Auth}
use Rattle.codes.specs.Codes.{algorithms, attestations, caps, handle_types, hierarchies, is_algorithm, is_attestation, is_cap, is_handle_type, is_hierarchy, alg, curve, attestation, cap, handle_type, hierarchy, yes_no, magic, ticket_tag, cap_auth_policies, ht_external_nv, rh_owner, st_creation, st_verified, st_hashcheck, st_auth_signed}
use Rattle.format.specs.Kinds.{tpmu_asym_scheme_table, tpmu_sig_scheme_table, tpmu_keyedhash_scheme_table, tpmu_kdf_scheme_table, tpmu_sym_key_bits_table, tpmu_sym_mode_table, tpmu_public_parms_table, tpmu_public_id_table, tpmu_sensitive_composite_table, tpmu_signature_table, tpmu_attest_table, tpmu_capabilities_table, tpmu_nv_public2_table, tpmu_asym_scheme_arm, tpmu_sig_scheme_arm, tpmu_keyedhash_scheme_arm, tpmu_kdf_scheme_arm, tpmu_sym_key_bits_arm, tpmu_sym_mode_arm, tpmu_public_parms_arm, tpmu_public_id_arm, tpmu_sensitive_composite_arm, tpmu_signature_arm, tpmu_attest_arm, tpmu_capabilities_arm, tpmu_nv_public2_arm, tpms_scheme_hash, tpms_scheme_ecdaa, tpms_scheme_xor, tpmu_asym_scheme, tpmu_sig_scheme, tpmu_keyedhash_scheme, tpmu_kdf_scheme, tpmu_sym_key_bits, tpmu_sym_mode, tpmu_public_parms, tpmu_public_id, tpmu_sensitive_composite, tpmu_signature, tpmu_attest, tpmu_capabilities, tpmu_nv_public2, tpmt_sym_def, tpmt_kdf_scheme, tpmt_keyedhash_scheme, tpmt_sig_scheme, tpmt_asym_scheme, tpms_rsa_parms, tpms_ecc_parms, tpms_ecc_point, tpms_signature_rsa, tpms_signature_ecc, tpmt_public_parms, tpmt_signature, tpmt_public, tpmt_sensitive, tpml, tpml_pcr_selection, tpms_clock_info, tpms_certify_info, tpms_creation_info, tpms_quote_info, tpms_command_audit_info, tpms_session_audit_info, tpms_time_info, tpms_time_attest_info, tpms_nv_certify_info, tpms_nv_digest_certify_info, tpms_attest, tpms_capability_data, nv_public_tail, tpms_nv_public, tpms_nv_public_exp_attr, tpmt_nv_public2, ticket_body, ticket, tpmt_tk_creation, tpmt_tk_verified, tpmt_tk_hashcheck, tpmt_tk_auth, kinds, layout_of}
use Rattle.format.specs.Sizes.{greatest, AllGreatest}
use Rattle.format.proofs.Tables.{◌&◌}
use Rattle.format.proofs.Bounds.{one_most, none_most, RowsMost, union_most, follows, ha_most, ha_reaches}
use Rattle.format.proofs.Lists.{list_small, list_greatest}

-- ---- no record of the kind is larger

-- a code
hash_most : AtMost tpms_scheme_hash 2
unfolding tpms_scheme_hash
hash_most = one_most 2 alg

-- a code and a count
ecdaa_most : AtMost tpms_scheme_ecdaa 4
unfolding tpms_scheme_ecdaa
ecdaa_most = follows 2 2 alg (λ n. one_most 2 free)

asym_most : AtMost tpmt_asym_scheme 6
unfolding tpmt_asym_scheme tpmu_asym_scheme
asym_most = follows 2 4 alg (λ v. union_most 4 tpmu_asym_scheme_table rows (tpmu_asym_scheme_arm v) v)
  where
    rows : RowsMost tpmu_asym_scheme_table 4
    rows =
        let h : AtMost tpms_scheme_hash 4 = most_wider (omega arith) hash_most in
        none_most & none_most & h & h & h & ecdaa_most & h & h & h & h & h & tt

sig_most : AtMost tpmt_sig_scheme 6
unfolding tpmt_sig_scheme tpmu_sig_scheme
sig_most = follows 2 4 alg (λ v. union_most 4 tpmu_sig_scheme_table rows (tpmu_sig_scheme_arm v) v)
  where
    rows : RowsMost tpmu_sig_scheme_table 4
    rows =
        let h : AtMost tpms_scheme_hash 4 = most_wider (omega arith) hash_most in
        h & h & h & h & ecdaa_most & h & h & none_most & tt

keyedhash_most : AtMost tpmt_keyedhash_scheme 6
unfolding tpmt_keyedhash_scheme tpmu_keyedhash_scheme tpms_scheme_xor
keyedhash_most = follows 2 4 alg (λ v. union_most 4 tpmu_keyedhash_scheme_table rows (tpmu_keyedhash_scheme_arm v) v)
  where
    rows : RowsMost tpmu_keyedhash_scheme_table 4
    rows = most_wider (omega arith) hash_most & follows 2 2 alg (λ n. one_most 2 alg) & none_most & tt

kdf_most : AtMost tpmt_kdf_scheme 4
unfolding tpmt_kdf_scheme tpmu_kdf_scheme
kdf_most = follows 2 2 alg (λ v. union_most 2 tpmu_kdf_scheme_table rows (tpmu_kdf_scheme_arm v) v)
  where
    rows : RowsMost tpmu_kdf_scheme_table 2
    rows = hash_most & hash_most & hash_most & hash_most & none_most & tt

key_bits_most : (v : ℕ) → AtMost (tpmu_sym_key_bits v) 2
unfolding tpmu_sym_key_bits
key_bits_most v = union_most 2 tpmu_sym_key_bits_table (one_most 2 free & one_most 2 free & one_most 2 free & one_most 2 alg & none_most & tt) (tpmu_sym_key_bits_arm v) v

mode_most : (v : ℕ) → AtMost (tpmu_sym_mode v) 2
unfolding tpmu_sym_mode
mode_most v = union_most 2 tpmu_sym_mode_table (one_most 2 alg & one_most 2 alg & one_most 2 alg & none_most & none_most & tt) (tpmu_sym_mode_arm v) v

sym_def_most : AtMost tpmt_sym_def 6
unfolding tpmt_sym_def
sym_def_most = follows 2 4 alg (λ v. then_most _ _ 2 2 (key_bits_most v) (mode_most v))

rsa_parms_most : AtMost tpms_rsa_parms 18
unfolding tpms_rsa_parms
rsa_parms_most = then_most _ _ 6 12 sym_def_most (then_most _ _ 6 6 asym_most (follows 2 4 free (λ n. one_most 4 free)))

ecc_parms_most : AtMost tpms_ecc_parms 18
unfolding tpms_ecc_parms
ecc_parms_most = then_most _ _ 6 12 sym_def_most (then_most _ _ 6 6 asym_most (follows 2 4 curve (λ n. kdf_most)))

parms_by_most : (v : ℕ) → AtMost (tpmu_public_parms v) 18
unfolding tpmu_public_parms
parms_by_most v = union_most 18 tpmu_public_parms_table rows (tpmu_public_parms_arm v) v
  where
    rows : RowsMost tpmu_public_parms_table 18
    rows = most_wider (omega arith) keyedhash_most & most_wider (omega arith) sym_def_most & rsa_parms_most & ecc_parms_most & none_most & tt

unique_by_most : (v : ℕ) → AtMost (tpmu_public_id v) 514
unfolding tpmu_public_id tpms_ecc_point
unique_by_most v = union_most 514 tpmu_public_id_table rows (tpmu_public_id_arm v) v
  where
    rows : RowsMost tpmu_public_id_table 514
    rows =
        most_wider (omega arith) (buffer_most 2 64 0 stop_most)
        & most_wider (omega arith) (buffer_most 2 32 0 stop_most)
        & buffer_most 2 512 0 stop_most
        & most_wider (omega arith) (buffer_most 2 66 68 (buffer_most 2 66 0 stop_most))
        & none_most & tt

sensitive_by_most : (v : ℕ) → AtMost (tpmu_sensitive_composite v) 258
unfolding tpmu_sensitive_composite
sensitive_by_most v = union_most 258 tpmu_sensitive_composite_table rows (tpmu_sensitive_composite_arm v) v
  where
    rows : RowsMost tpmu_sensitive_composite_table 258
    rows =
        buffer_most 2 256 0 stop_most
        & most_wider (omega arith) (buffer_most 2 66 0 stop_most)
        & buffer_most 2 256 0 stop_most
        & most_wider (omega arith) (buffer_most 2 32 0 stop_most)
        & tt

signature_rsa_most : AtMost tpms_signature_rsa 516
unfolding tpms_signature_rsa
signature_rsa_most = follows 2 514 alg (λ n. buffer_most 2 512 0 stop_most)

signature_ecc_most : AtMost tpms_signature_ecc 516
unfolding tpms_signature_ecc
signature_ecc_most = most_wider (omega arith) (follows 2 136 alg (λ n. buffer_most 2 66 68 (buffer_most 2 66 0 stop_most)))

signature_by_most : (v : ℕ) → AtMost (tpmu_signature v) 516
unfolding tpmu_signature
signature_by_most v = union_most 516 tpmu_signature_table rows (tpmu_signature_arm v) v
  where
    rows : RowsMost tpmu_signature_table 516
    rows =
        signature_rsa_most & signature_rsa_most
        & signature_ecc_most & signature_ecc_most & signature_ecc_most & signature_ecc_most
        & most_wider (omega arith) ha_most
        & none_most & tt

public_parms_most : AtMost tpmt_public_parms 20
unfolding tpmt_public_parms
public_parms_most = follows 2 18 alg parms_by_most

signature_most : AtMost tpmt_signature 518
unfolding tpmt_signature
signature_most = follows 2 516 alg signature_by_most

public_area_most : AtMost tpmt_public 606
unfolding tpmt_public
public_area_most =
    follows 2 604 alg (λ type. follows 2 602 alg (λ n. follows 4 598 free (λ n. buffer_most 2 64 532 (then_most _ _ 18 514 (parms_by_most type) (unique_by_most type)))))

sensitive_most : AtMost tpmt_sensitive 392
unfolding tpmt_sensitive
sensitive_most = follows 2 390 alg (λ type. buffer_most 2 64 324 (buffer_most 2 64 258 (sensitive_by_most type)))

pcr_most : AtMost tpml_pcr_selection 116
unfolding tpml_pcr_selection
pcr_most = (list_greatest PcrSelection).most

clock_most : AtMost tpms_clock_info 17
unfolding tpms_clock_info
clock_most = follows 8 9 free (λ n. follows 4 5 free (λ n. follows 4 1 free (λ n. one_most 1 yes_no)))

attest_by_most : (v : ℕ) → AtMost (tpmu_attest v) 2120
unfolding tpmu_attest tpms_certify_info tpms_creation_info tpms_quote_info tpms_command_audit_info tpms_session_audit_info tpms_time_info tpms_time_attest_info tpms_nv_certify_info tpms_nv_digest_certify_info
attest_by_most v = union_most 2120 tpmu_attest_table rows (tpmu_attest_arm v) v
  where
    rows : RowsMost tpmu_attest_table 2120
    rows =
        most_wider (omega arith) (buffer_most 2 66 68 (buffer_most 2 66 0 stop_most))
        & most_wider (omega arith) (buffer_most 2 66 66 (buffer_most 2 64 0 stop_most))
        & most_wider (omega arith) (then_most _ _ 116 66 pcr_most (buffer_most 2 64 0 stop_most))
        & most_wider (omega arith) (follows 8 134 free (λ n. follows 2 132 alg (λ n. buffer_most 2 64 66 (buffer_most 2 64 0 stop_most))))
        & most_wider (omega arith) (follows 1 66 yes_no (λ n. buffer_most 2 64 0 stop_most))
        & most_wider (omega arith) (then_most _ _ 25 8 (follows 8 17 free (λ n. clock_most)) (one_most 8 free))
        & buffer_most 2 66 2052 (follows 2 2050 free (λ n. buffer_most 2 2048 0 stop_most))
        & most_wider (omega arith) (buffer_most 2 66 66 (buffer_most 2 64 0 stop_most))
        & tt

attest_most : AtMost tpms_attest 2287
unfolding tpms_attest
attest_most =
    follows 4 2283 magic (λ n. follows 2 2281 attestation (λ type. buffer_most 2 66 2213 (buffer_most 2 66 2145 (then_most _ _ 17 2128 clock_most (follows 8 2120 free (λ n. attest_by_most type))))))

capability_most : AtMost tpms_capability_data 1128
unfolding tpms_capability_data tpmu_capabilities tpml_pcr_selection
capability_most = follows 4 1124 cap (λ v. union_most 1124 tpmu_capabilities_table rows (tpmu_capabilities_arm v) v)
  where
    list_most : (which : ListOf) → AtMost (tpml which) 1124
    list_most which = most_wider (list_small which) (list_greatest which).most

    rows : RowsMost tpmu_capabilities_table 1124
    rows =
        list_most AlgProperty & list_most Handle & list_most Cca & list_most Cc & list_most Cc & list_most PcrSelection
        & list_most TaggedTpmProperty & list_most EccCurve & list_most TaggedPolicy & list_most ActData & tt

area_tail_most : AtMost nv_public_tail 68
area_tail_most = buffer_most 2 64 2 (one_most 2 free)

area_most : AtMost tpmt_nv_public2 83
unfolding tpmt_nv_public2 tpmu_nv_public2 tpms_nv_public tpms_nv_public_exp_attr
area_most = follows 1 82 handle_type (λ v. union_most 82 tpmu_nv_public2_table rows (tpmu_nv_public2_arm v) v)
  where
    area : AtMost tpms_nv_public 82
    area = most_wider (omega arith) (follows 4 74 free (λ n. follows 2 72 alg (λ n. follows 4 68 free (λ n. area_tail_most))))

    rows : RowsMost tpmu_nv_public2_table 82
    rows = area & follows 4 78 free (λ n. follows 2 76 alg (λ n. follows 8 68 free (λ n. area_tail_most))) & area & tt

-- whatever the rule of its tag is
ticket_most : (r : Rule) → AtMost (ticket r) 72
unfolding ticket_body
ticket_most r = follows 2 70 r (λ n. follows 4 66 hierarchy (λ n. buffer_most 2 64 0 stop_most))

-- ---- and one is so large

code_reaches : Reaches (one 2 alg) 2
unfolding is_algorithm algorithms
code_reaches = number_reaches 2 alg 0x0B (omega arith) refl stop_reaches

ecdaa_reaches : Reaches tpms_scheme_ecdaa 4
unfolding tpms_scheme_ecdaa is_algorithm algorithms
ecdaa_reaches = number_reaches 2 alg 0x0B (omega arith) refl (number_reaches 2 free 0 (omega arith) refl stop_reaches)

asym_reaches : Reaches tpmt_asym_scheme 6
unfolding tpmt_asym_scheme is_algorithm algorithms tpmu_asym_scheme tpmu_asym_scheme_arm
asym_reaches = number_reaches 2 alg 0x1A (omega arith) refl (arm_reaches 0x1A 0x1A ecdaa_reaches)

sig_reaches : Reaches tpmt_sig_scheme 6
unfolding tpmt_sig_scheme is_algorithm algorithms tpmu_sig_scheme tpmu_sig_scheme_arm
sig_reaches = number_reaches 2 alg 0x1A (omega arith) refl (arm_reaches 0x1A 0x1A ecdaa_reaches)

keyedhash_reaches : Reaches tpmt_keyedhash_scheme 6
unfolding tpmt_keyedhash_scheme is_algorithm algorithms tpmu_keyedhash_scheme tpmu_keyedhash_scheme_arm tpms_scheme_xor
keyedhash_reaches = number_reaches 2 alg 0x0A (omega arith) refl (arm_reaches 0x0A 0x0A (number_reaches 2 alg 0x0B (omega arith) refl code_reaches))

kdf_reaches : Reaches tpmt_kdf_scheme 4
unfolding tpmt_kdf_scheme is_algorithm algorithms tpmu_kdf_scheme tpmu_kdf_scheme_arm tpms_scheme_hash
kdf_reaches = number_reaches 2 alg 0x07 (omega arith) refl (arm_reaches 0x07 0x07 code_reaches)

sym_def_reaches : Reaches tpmt_sym_def 6
unfolding tpmt_sym_def is_algorithm algorithms tpmu_sym_key_bits tpmu_sym_mode tpmu_sym_key_bits_arm tpmu_sym_mode_arm
sym_def_reaches =
    number_reaches 2 alg 0x06 (omega arith) refl (then_reaches (arm_reaches 0x06 0x06 (number_reaches 2 free 128 (omega arith) refl stop_reaches)) (arm_reaches 0x06 0x06 code_reaches))

rsa_parms_reaches : Reaches tpms_rsa_parms 18
unfolding tpms_rsa_parms
rsa_parms_reaches = then_reaches sym_def_reaches (then_reaches asym_reaches (number_reaches 2 free 2048 (omega arith) refl (number_reaches 4 free 0 (omega arith) refl stop_reaches)))

parms_reaches : Reaches (tpmu_public_parms 0x01) 18
unfolding tpmu_public_parms tpmu_public_parms_arm
parms_reaches = arm_reaches 0x01 0x01 rsa_parms_reaches

unique_reaches : Reaches (tpmu_public_id 0x01) 514
unfolding tpmu_public_id tpmu_public_id_arm
unique_reaches = arm_reaches 0x01 0x01 (buffer_reaches 2 512 (omega arith) stop_reaches)

public_parms_reaches : Reaches tpmt_public_parms 20
unfolding tpmt_public_parms is_algorithm algorithms
public_parms_reaches = number_reaches 2 alg 0x01 (omega arith) refl parms_reaches

signature_reaches : Reaches tpmt_signature 518
unfolding tpmt_signature is_algorithm algorithms tpmu_signature tpmu_signature_arm tpms_signature_rsa
signature_reaches = number_reaches 2 alg 0x14 (omega arith) refl (arm_reaches 0x14 0x14 (number_reaches 2 alg 0x0B (omega arith) refl (buffer_reaches 2 512 (omega arith) stop_reaches)))

public_area_reaches : Reaches tpmt_public 606
unfolding tpmt_public is_algorithm algorithms
public_area_reaches =
    number_reaches 2 alg 0x01 (omega arith) refl
    (number_reaches 2 alg 0x0B (omega arith) refl
    (number_reaches 4 free 0 (omega arith) refl
    (buffer_reaches 2 64 (omega arith) (then_reaches parms_reaches unique_reaches))))

sensitive_reaches : Reaches tpmt_sensitive 392
unfolding tpmt_sensitive is_algorithm algorithms tpmu_sensitive_composite tpmu_sensitive_composite_arm
sensitive_reaches =
    number_reaches 2 alg 0x01 (omega arith) refl
    (buffer_reaches 2 64 (omega arith) (buffer_reaches 2 64 (omega arith) (arm_reaches 0x01 0x01 (buffer_reaches 2 256 (omega arith) stop_reaches))))

pcr_reaches : Reaches tpml_pcr_selection 116
unfolding tpml_pcr_selection
pcr_reaches = (list_greatest PcrSelection).reached

clock_reaches : Reaches tpms_clock_info 17
unfolding tpms_clock_info
clock_reaches =
    number_reaches 8 free 0 (omega arith) refl
    (number_reaches 4 free 0 (omega arith) refl
    (number_reaches 4 free 0 (omega arith) refl
    (number_reaches 1 yes_no 1 (omega arith) refl stop_reaches)))

nv_reaches : Reaches (tpmu_attest 0x8014) 2120
unfolding tpmu_attest tpmu_attest_arm tpms_nv_certify_info
nv_reaches = arm_reaches 0x8014 0x8014 (buffer_reaches 2 66 (omega arith) (number_reaches 2 free 0 (omega arith) refl (buffer_reaches 2 2048 (omega arith) stop_reaches)))

attest_reaches : Reaches tpms_attest 2287
unfolding tpms_attest is_attestation attestations
attest_reaches =
    number_reaches 4 magic 0xFF544347 (omega arith) refl
    (number_reaches 2 attestation 0x8014 (omega arith) refl
    (buffer_reaches 2 66 (omega arith)
    (buffer_reaches 2 66 (omega arith) (then_reaches clock_reaches (number_reaches 8 free 0 (omega arith) refl nv_reaches)))))

-- sixteen policies of 64 bytes
capability_reaches : Reaches tpms_capability_data 1128
unfolding tpms_capability_data is_cap caps tpmu_capabilities tpmu_capabilities_arm
capability_reaches = number_reaches 4 cap cap_auth_policies (omega arith) refl (arm_reaches cap_auth_policies cap_auth_policies (list_greatest TaggedPolicy).reached)

-- an expanded area with a policy of 64 bytes
area_reaches : Reaches tpmt_nv_public2 83
unfolding tpmt_nv_public2 is_handle_type handle_types tpmu_nv_public2 tpmu_nv_public2_arm tpms_nv_public_exp_attr is_algorithm algorithms
area_reaches =
    number_reaches 1 handle_type ht_external_nv (omega arith) refl
    (arm_reaches ht_external_nv ht_external_nv
    (number_reaches 4 free 0 (omega arith) refl
    (number_reaches 2 alg 0x0B (omega arith) refl
    (number_reaches 8 free 0 (omega arith) refl
    (buffer_reaches 2 64 (omega arith) (number_reaches 2 free 0 (omega arith) refl stop_reaches))))))

-- a ticket with a digest of 64 bytes, by a tag that its rule takes
ticket_reaches : (r : Rule) (n : ℕ) → n < 256 ^ 2 → allows r n ≡ true → Reaches (ticket r) 72
unfolding ticket_body is_hierarchy hierarchies
ticket_reaches r n h a = number_reaches 2 r n h a (number_reaches 4 hierarchy rh_owner (omega arith) refl (buffer_reaches 2 64 (omega arith) stop_reaches))

-- ---- all kinds

both : {l : Layout} {m : ℕ} → AtMost l m → Reaches l m → Greatest l m
both h g = record { most = h; reached = g }

-- no record of a kind is larger than this, and one is so large
pub greatest_sizes : AllGreatest kinds greatest
unfolding kinds greatest tpmt_tk_creation tpmt_tk_verified tpmt_tk_hashcheck tpmt_tk_auth
greatest_sizes =
    let scheme = both asym_most asym_reaches in
    both ha_most ha_reaches
    & both sym_def_most sym_def_reaches
    & both kdf_most kdf_reaches
    & both keyedhash_most keyedhash_reaches
    & both sig_most sig_reaches
    & scheme & scheme & scheme
    & both public_parms_most public_parms_reaches
    & both signature_most signature_reaches
    & both public_area_most public_area_reaches
    & both sensitive_most sensitive_reaches
    & both attest_most attest_reaches
    & both pcr_most pcr_reaches
    & both capability_most capability_reaches
    & both area_most area_reaches
    & both (ticket_most (ticket_tag Creation)) (ticket_reaches (ticket_tag Creation) st_creation (omega arith) refl)
    & both (ticket_most (ticket_tag Verified)) (ticket_reaches (ticket_tag Verified) st_verified (omega arith) refl)
    & both (ticket_most (ticket_tag Hashcheck)) (ticket_reaches (ticket_tag Hashcheck) st_hashcheck (omega arith) refl)
    & both (ticket_most (ticket_tag Auth)) (ticket_reaches (ticket_tag Auth) st_auth_signed (omega arith) refl)
    & tt

-- ---- and any

abbrev Within : ℕ → List ℕ → Type 0
Within m [] = Unit {0}
Within m (n ∷ ns) = (n ≤ m) × Within m ns

all_within : Within 2287 greatest
unfolding greatest
all_within =
    omega arith & omega arith & omega arith & omega arith & omega arith & omega arith & omega arith & omega arith & omega arith & omega arith
    & omega arith & omega arith & omega arith & omega arith & omega arith & omega arith & omega arith & omega arith & omega arith & omega arith & tt

each_most : {m : ℕ} (ls : List Layout) (ns : List ℕ) → AllGreatest ls ns → Within m ns → (k : ℕ) → AtMost (get_or ls k (no_arm 0)) m
each_most {m} [] [] g w k = no_arm_most 0 m
each_most [] (n ∷ ns) g w k = absurd g
each_most (l ∷ ls) [] g w k = absurd g
each_most (l ∷ ls) (n ∷ ns) (g, gs) (h, hs) zero = most_wider h g.most
each_most (l ∷ ls) (n ∷ ns) (g, gs) (h, hs) (suc k) = each_most ls ns gs hs k

-- no record of any kind has more than 2,287 bytes
pub no_record_is_larger : (k : ℕ) → AtMost (layout_of k) 2287
unfolding layout_of
no_record_is_larger zero = no_arm_most 0 2287
no_record_is_larger (suc k) = each_most kinds greatest greatest_sizes all_within k
