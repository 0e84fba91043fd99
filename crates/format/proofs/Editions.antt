-- Every edition that extends ours makes later layouts of all our kinds: its lists have our codes, and its tables have our rows, first.
-- Assumes nothing.
use Prim.Native.Nat.{ℕ, zero, suc}
use native.Mathlib.Omega.{arith}
use mathlib.Core.Path.{◌≡◌, refl}
use mathlib.Core.List.{List, [], ◌∷◌}
use lib.ListN.{get_or}
use Rattle.wire.specs.Layout.{Rule, Layout, stop, no_arm, number, free}
use Rattle.wire.specs.Editions.{LaterRule, rule_same, rule_longer, Later, stop_same, arm_new, number_later, buffer_same, counted_same}
use Rattle.wire.proofs.Order.{later_refl, later_then}
use Rattle.wire.proofs.Rows.{more_rows, row_later, rows_behind, union_later}
use Rattle.codes.specs.Codes.{alg, curve, attestation, cap, handle_type, hierarchy}
use Rattle.format.specs.declared.list.ListOf.{ListOf}
use Rattle.format.specs.declared.list.ListOf.TheVariants.{AlgProperty, Handle, Cca, Cc, PcrSelection, TaggedTpmProperty, EccCurve, TaggedPolicy, ActData}
use Rattle.format.specs.Kinds.{tpmu_ha_table, tpmu_ha_arm, tpmu_ha, tpmu_asym_scheme_arm, tpmu_asym_scheme, tpmu_sig_scheme_arm, tpmu_sig_scheme, tpmu_keyedhash_scheme_arm, tpmu_keyedhash_scheme, tpmu_kdf_scheme_arm, tpmu_kdf_scheme, tpmu_sym_key_bits_arm, tpmu_sym_key_bits, tpmu_sym_mode_arm, tpmu_sym_mode, tpmu_public_parms_arm, tpmu_public_parms, tpmu_public_id_table, tpmu_public_id_arm, tpmu_public_id, tpmu_sensitive_composite_table, tpmu_sensitive_composite_arm, tpmu_sensitive_composite, tpmu_signature_arm, tpmu_signature, tpmu_attest_arm, tpmu_attest, tpmu_capabilities_arm, tpmu_capabilities, tpms_scheme_hash, tpms_scheme_ecdaa, tpms_scheme_xor, tpmt_ha, tpmt_sym_def, tpmt_kdf_scheme, tpmt_keyedhash_scheme, tpmt_sig_scheme, tpmt_asym_scheme, tpms_rsa_parms, tpms_ecc_parms, tpms_signature_rsa, tpms_signature_ecc, tpmt_public_parms, tpmt_signature, tpmt_public, tpmt_sensitive, tpms_pcr_selection, tpms_alg_property, tpms_tagged_policy, item_layout, tpml, tpml_pcr_selection, tpms_clock_info, tpms_quote_info, tpms_command_audit_info, tpms_attest, tpms_capability_data, ticket, tpmu_nv_public2_arm, tpmu_nv_public2, tpms_nv_public, tpms_nv_public_exp_attr, tpmt_nv_public2, ticket_body, tpmt_tk_creation, tpmt_tk_verified, tpmt_tk_hashcheck, tpmt_tk_auth, kinds, layout_of}
use Rattle.format.specs.Editions.{Edition, ours, Extends}
use Rattle.format.specs.EditionKinds.{alg_in, curve_in, attestation_in, cap_in, handle_type_in, hierarchy_in, tpmu_ha_in, tpmu_asym_scheme_in, tpmu_sig_scheme_in, tpmu_keyedhash_scheme_in, tpmu_kdf_scheme_in, tpmu_sym_key_bits_in, tpmu_sym_mode_in, tpmu_public_parms_in, tpmu_public_id_in, tpmu_sensitive_composite_in, tpmu_signature_in, tpmu_attest_in, tpmu_capabilities_in, tpms_scheme_hash_in, tpms_scheme_ecdaa_in, tpms_scheme_xor_in, tpmt_ha_in, tpmt_sym_def_in, tpmt_kdf_scheme_in, tpmt_keyedhash_scheme_in, tpmt_sig_scheme_in, tpmt_asym_scheme_in, tpms_rsa_parms_in, tpms_ecc_parms_in, tpms_signature_rsa_in, tpms_signature_ecc_in, tpmt_public_parms_in, tpmt_signature_in, tpmt_public_in, tpmt_sensitive_in, tpms_pcr_selection_in, tpms_alg_property_in, tpms_tagged_policy_in, item_layout_in, tpml_in, tpml_pcr_selection_in, tpms_quote_info_in, tpms_command_audit_info_in, tpms_attest_in, tpms_capability_data_in, ticket_in, tpmu_nv_public2_in, tpms_nv_public_in, tpms_nv_public_exp_attr_in, tpmt_nv_public2_in, ticket_body_in, tpmt_tk_creation_in, tpmt_tk_verified_in, tpmt_tk_hashcheck_in, tpmt_tk_auth_in, kinds_in, layout_in}

-- our own edition makes our kinds
pub ours_makes_the_kinds : kinds_in ours ≡ kinds
unfolding kinds_in kinds tpmu_ha_in tpmu_asym_scheme_in tpmu_sig_scheme_in tpmu_keyedhash_scheme_in tpmu_kdf_scheme_in tpmu_sym_key_bits_in tpmu_sym_mode_in tpmu_public_parms_in tpmu_public_id_in tpmu_sensitive_composite_in tpmu_signature_in tpmu_attest_in tpmu_capabilities_in tpms_scheme_hash_in tpms_scheme_ecdaa_in tpms_scheme_xor_in tpmt_ha_in tpmt_sym_def_in tpmt_kdf_scheme_in tpmt_keyedhash_scheme_in tpmt_sig_scheme_in tpmt_asym_scheme_in tpms_rsa_parms_in tpms_ecc_parms_in tpms_signature_rsa_in tpms_signature_ecc_in tpmt_public_parms_in tpmt_signature_in tpmt_public_in tpmt_sensitive_in tpms_pcr_selection_in tpms_alg_property_in tpms_tagged_policy_in tpml_pcr_selection_in tpms_quote_info_in tpms_command_audit_info_in tpms_attest_in tpms_capability_data_in tpmu_ha_arm tpmu_ha tpmu_asym_scheme_arm tpmu_asym_scheme tpmu_sig_scheme_arm tpmu_sig_scheme tpmu_keyedhash_scheme_arm tpmu_keyedhash_scheme tpmu_kdf_scheme_arm tpmu_kdf_scheme tpmu_sym_key_bits_arm tpmu_sym_key_bits tpmu_sym_mode_arm tpmu_sym_mode tpmu_public_parms_arm tpmu_public_parms tpmu_public_id_arm tpmu_public_id tpmu_sensitive_composite_arm tpmu_sensitive_composite tpmu_signature_arm tpmu_signature tpmu_attest_arm tpmu_attest tpmu_capabilities_arm tpmu_capabilities tpms_scheme_hash tpms_scheme_ecdaa tpms_scheme_xor tpmt_ha tpmt_sym_def tpmt_kdf_scheme tpmt_keyedhash_scheme tpmt_sig_scheme tpmt_asym_scheme tpms_rsa_parms tpms_ecc_parms tpms_signature_rsa tpms_signature_ecc tpmt_public_parms tpmt_signature tpmt_public tpmt_sensitive tpms_pcr_selection tpms_alg_property tpms_tagged_policy tpml_pcr_selection tpms_quote_info tpms_command_audit_info tpms_attest tpms_capability_data tpmu_nv_public2_in tpms_nv_public_in tpms_nv_public_exp_attr_in tpmt_nv_public2_in ticket_body_in tpmt_tk_creation_in tpmt_tk_verified_in tpmt_tk_hashcheck_in tpmt_tk_auth_in tpmu_nv_public2_arm tpmu_nv_public2 tpms_nv_public tpms_nv_public_exp_attr tpmt_nv_public2 ticket_body tpmt_tk_creation tpmt_tk_verified tpmt_tk_hashcheck tpmt_tk_auth
ours_makes_the_kinds = refl

-- two lists of layouts, one by one: the second has a later one
abbrev AllLater : List Layout → List Layout → Type 0
AllLater [] [] = Unit {0}
AllLater [] (m ∷ ms) = ⊥
AllLater (l ∷ ls) [] = ⊥
AllLater (l ∷ ls) (m ∷ ms) = Later l m × AllLater ls ms

each : (ls ms : List Layout) → AllLater ls ms → (k : ℕ) → Later (get_or ls k (no_arm 0)) (get_or ms k (no_arm 0))
each [] [] xs k = arm_new
each [] (m ∷ ms) xs k = absurd xs
each (l ∷ ls) [] xs k = absurd xs
each (l ∷ ls) (m ∷ ms) xs zero = xs.0
each (l ∷ ls) (m ∷ ms) xs (suc k) = each ls ms xs.1 k

module _ {e : Edition} (x : Extends e) where
  -- ---- the lists of codes

  algs : LaterRule 2 alg (alg_in e)
  algs = rule_longer (omega arith) x.algorithms

  curves : LaterRule 2 curve (curve_in e)
  curves = rule_longer (omega arith) x.curves

  attestations : LaterRule 2 attestation (attestation_in e)
  attestations = rule_longer (omega arith) x.attestations

  caps : LaterRule 4 cap (cap_in e)
  caps = rule_longer (omega arith) x.caps

  handle_types_lem : LaterRule 1 handle_type (handle_type_in e)
  handle_types_lem = rule_longer (omega arith) x.handle_types

  hierarchies : LaterRule 4 hierarchy (hierarchy_in e)
  hierarchies = rule_longer (omega arith) x.hierarchies

  -- a code of ours, and then what follows it
  by_alg : {k k' : ℕ → Layout} → ((n : ℕ) → Later (k n) (k' n)) → Later (number 2 alg k) (number 2 (alg_in e) k')
  by_alg later = number_later algs (λ n a. later n)

  -- ---- digests, ciphers and schemes

  scheme_hash : Later tpms_scheme_hash (tpms_scheme_hash_in e)
  unfolding tpms_scheme_hash tpms_scheme_hash_in
  scheme_hash = by_alg (λ n. stop_same)

  scheme_ecdaa : Later tpms_scheme_ecdaa (tpms_scheme_ecdaa_in e)
  unfolding tpms_scheme_ecdaa tpms_scheme_ecdaa_in
  scheme_ecdaa = by_alg (λ n. later_refl _)

  scheme_xor : Later tpms_scheme_xor (tpms_scheme_xor_in e)
  unfolding tpms_scheme_xor tpms_scheme_xor_in
  scheme_xor = by_alg (λ n. by_alg (λ m. stop_same))

  ha : Later tpmt_ha (tpmt_ha_in e)
  unfolding tpmt_ha tpmt_ha_in tpmu_ha tpmu_ha_arm tpmu_ha_in
  ha = by_alg (union_later (rows_behind tpmu_ha_table e.tpmu_ha))

  sym_def : Later tpmt_sym_def (tpmt_sym_def_in e)
  unfolding tpmt_sym_def tpmt_sym_def_in tpmu_sym_key_bits tpmu_sym_key_bits_arm tpmu_sym_key_bits_in tpmu_sym_mode tpmu_sym_mode_arm tpmu_sym_mode_in
  sym_def =
      let code : Later (number 2 alg (λ n. stop)) (number 2 (alg_in e) (λ n. stop)) = by_alg (λ n. stop_same) in
      let bits : Later (number 2 free (λ n. stop)) (number 2 free (λ n. stop)) = later_refl _ in
      by_alg (λ v. later_then
      (union_later (row_later bits (row_later bits (row_later bits (row_later code (row_later stop_same (more_rows e.tpmu_sym_key_bits)))))) v)
      (union_later (row_later code (row_later code (row_later code (row_later stop_same (row_later stop_same (more_rows e.tpmu_sym_mode)))))) v))

  kdf_scheme : Later tpmt_kdf_scheme (tpmt_kdf_scheme_in e)
  unfolding tpmt_kdf_scheme tpmt_kdf_scheme_in tpmu_kdf_scheme tpmu_kdf_scheme_arm tpmu_kdf_scheme_in
  kdf_scheme =
      let h = scheme_hash in
      by_alg (union_later (row_later h (row_later h (row_later h (row_later h (row_later stop_same (more_rows e.tpmu_kdf_scheme)))))))

  keyedhash_scheme : Later tpmt_keyedhash_scheme (tpmt_keyedhash_scheme_in e)
  unfolding tpmt_keyedhash_scheme tpmt_keyedhash_scheme_in tpmu_keyedhash_scheme tpmu_keyedhash_scheme_arm tpmu_keyedhash_scheme_in
  keyedhash_scheme = by_alg (union_later (row_later scheme_hash (row_later scheme_xor (row_later stop_same (more_rows e.tpmu_keyedhash_scheme)))))

  sig_scheme : Later tpmt_sig_scheme (tpmt_sig_scheme_in e)
  unfolding tpmt_sig_scheme tpmt_sig_scheme_in tpmu_sig_scheme tpmu_sig_scheme_arm tpmu_sig_scheme_in
  sig_scheme =
      let h = scheme_hash in
      by_alg (union_later (row_later h (row_later h (row_later h (row_later h (row_later scheme_ecdaa (row_later h (row_later h (row_later stop_same (more_rows e.tpmu_sig_scheme))))))))))

  asym_scheme : Later tpmt_asym_scheme (tpmt_asym_scheme_in e)
  unfolding tpmt_asym_scheme tpmt_asym_scheme_in tpmu_asym_scheme tpmu_asym_scheme_arm tpmu_asym_scheme_in
  asym_scheme =
      let h = scheme_hash in
      by_alg (union_later (row_later stop_same (row_later stop_same
      (row_later h (row_later h (row_later h (row_later scheme_ecdaa (row_later h (row_later h (row_later h (row_later h (row_later h (more_rows e.tpmu_asym_scheme)))))))))))))

  -- ---- keys

  rsa_parms : Later tpms_rsa_parms (tpms_rsa_parms_in e)
  unfolding tpms_rsa_parms tpms_rsa_parms_in
  rsa_parms = later_then sym_def (later_then asym_scheme (later_refl _))

  ecc_parms : Later tpms_ecc_parms (tpms_ecc_parms_in e)
  unfolding tpms_ecc_parms tpms_ecc_parms_in
  ecc_parms = later_then sym_def (later_then asym_scheme (number_later curves (λ n a. kdf_scheme)))

  -- the parameters, of kinds 9 and 11
  parms : (v : ℕ) → Later (tpmu_public_parms v) (tpmu_public_parms_in e v)
  unfolding tpmu_public_parms tpmu_public_parms_arm tpmu_public_parms_in
  parms = union_later (row_later keyedhash_scheme (row_later sym_def (row_later rsa_parms (row_later ecc_parms (row_later stop_same (more_rows e.tpmu_public_parms))))))

  public_parms : Later tpmt_public_parms (tpmt_public_parms_in e)
  unfolding tpmt_public_parms tpmt_public_parms_in
  public_parms = by_alg parms

  public : Later tpmt_public (tpmt_public_in e)
  unfolding tpmt_public tpmt_public_in tpmu_public_id tpmu_public_id_arm tpmu_public_id_in
  public =
      by_alg (λ v. by_alg (λ n. number_later rule_same (λ m a. buffer_same
      (later_then (parms v) (union_later (rows_behind tpmu_public_id_table e.tpmu_public_id) v)))))

  sensitive : Later tpmt_sensitive (tpmt_sensitive_in e)
  unfolding tpmt_sensitive tpmt_sensitive_in tpmu_sensitive_composite tpmu_sensitive_composite_arm tpmu_sensitive_composite_in
  sensitive = by_alg (λ v. buffer_same (buffer_same (union_later (rows_behind tpmu_sensitive_composite_table e.tpmu_sensitive_composite) v)))

  signature : Later tpmt_signature (tpmt_signature_in e)
  unfolding tpmt_signature tpmt_signature_in tpmu_signature tpmu_signature_arm tpmu_signature_in tpms_signature_rsa tpms_signature_rsa_in tpms_signature_ecc tpms_signature_ecc_in
  signature =
      let one : Later tpms_signature_rsa (tpms_signature_rsa_in e) = by_alg (λ n. later_refl _) in
      let two : Later tpms_signature_ecc (tpms_signature_ecc_in e) = by_alg (λ n. later_refl _) in
      by_alg (union_later (row_later one (row_later one (row_later two (row_later two (row_later two (row_later two (row_later ha (row_later stop_same (more_rows e.tpmu_signature))))))))))

  -- ---- the lists, a line each

  items : (which : ListOf) → Later (item_layout which) (item_layout_in e which)
  unfolding tpms_pcr_selection tpms_pcr_selection_in tpms_alg_property tpms_alg_property_in tpms_tagged_policy tpms_tagged_policy_in
  items AlgProperty = by_alg (λ n. later_refl _)
  items Handle = later_refl _
  items Cca = later_refl _
  items Cc = later_refl _
  items PcrSelection = by_alg (λ n. later_refl _)
  items TaggedTpmProperty = later_refl _
  items EccCurve = number_later curves (λ n a. stop_same)
  items TaggedPolicy = number_later rule_same (λ n a. ha)
  items ActData = later_refl _

  lists : (which : ListOf) → Later (tpml which) (tpml_in e which)
  lists which = counted_same (items which) stop_same

  -- ---- PCR selections and attestations

  pcr_selections : Later tpml_pcr_selection (tpml_pcr_selection_in e)
  unfolding tpml_pcr_selection tpml_pcr_selection_in
  pcr_selections = lists PcrSelection

  attest : Later tpms_attest (tpms_attest_in e)
  unfolding tpms_attest tpms_attest_in tpmu_attest tpmu_attest_arm tpmu_attest_in tpms_quote_info tpms_quote_info_in tpms_command_audit_info tpms_command_audit_info_in
  attest =
      let same : (l : Layout) → Later l l = later_refl in
      let quote : Later tpms_quote_info (tpms_quote_info_in e) = later_then pcr_selections (same _) in
      let audit : Later tpms_command_audit_info (tpms_command_audit_info_in e) = number_later rule_same (λ n a. by_alg (λ m. same _)) in
      number_later rule_same (λ m a. number_later attestations (λ v b. buffer_same (buffer_same (later_then (same tpms_clock_info)
      (number_later rule_same (λ f c. union_later (row_later (same _) (row_later (same _) (row_later quote (row_later audit
      (row_later (same _) (row_later (same _) (row_later (same _) (row_later (same _) (more_rows e.tpmu_attest))))))))) v))))))

  capability_data : Later tpms_capability_data (tpms_capability_data_in e)
  unfolding tpms_capability_data tpms_capability_data_in tpmu_capabilities tpmu_capabilities_arm tpmu_capabilities_in
  capability_data =
      number_later caps (λ v a. union_later (row_later (lists AlgProperty) (row_later (lists Handle) (row_later (lists Cca) (row_later (lists Cc) (row_later (lists Cc)
      (row_later pcr_selections (row_later (lists TaggedTpmProperty) (row_later (lists EccCurve) (row_later (lists TaggedPolicy) (row_later (lists ActData) (more_rows e.tpmu_capabilities))))))))))) v)

  -- ---- NV areas and tickets

  nv_public : Later tpms_nv_public (tpms_nv_public_in e)
  unfolding tpms_nv_public tpms_nv_public_in
  nv_public = number_later rule_same (λ n a. by_alg (λ m. later_refl _))

  nv_public_exp_attr : Later tpms_nv_public_exp_attr (tpms_nv_public_exp_attr_in e)
  unfolding tpms_nv_public_exp_attr tpms_nv_public_exp_attr_in
  nv_public_exp_attr = number_later rule_same (λ n a. by_alg (λ m. later_refl _))

  nv_public2 : Later tpmt_nv_public2 (tpmt_nv_public2_in e)
  unfolding tpmt_nv_public2 tpmt_nv_public2_in tpmu_nv_public2 tpmu_nv_public2_arm tpmu_nv_public2_in
  nv_public2 = number_later handle_types_lem (λ v a. union_later (row_later nv_public (row_later nv_public_exp_attr (row_later nv_public (more_rows e.tpmu_nv_public2)))) v)

  -- a tag's rule is the same in every edition
  a_ticket : (r : Rule) → Later (ticket r) (ticket_in e r)
  unfolding ticket_body ticket_body_in
  a_ticket r = number_later rule_same (λ n a. number_later hierarchies (λ m b. later_refl _))

  creation : Later tpmt_tk_creation (tpmt_tk_creation_in e)
  unfolding tpmt_tk_creation tpmt_tk_creation_in
  creation = a_ticket _

  verified : Later tpmt_tk_verified (tpmt_tk_verified_in e)
  unfolding tpmt_tk_verified tpmt_tk_verified_in
  verified = a_ticket _

  hashcheck : Later tpmt_tk_hashcheck (tpmt_tk_hashcheck_in e)
  unfolding tpmt_tk_hashcheck tpmt_tk_hashcheck_in
  hashcheck = a_ticket _

  auth : Later tpmt_tk_auth (tpmt_tk_auth_in e)
  unfolding tpmt_tk_auth tpmt_tk_auth_in
  auth = a_ticket _

  -- ---- all kinds

  all : AllLater kinds (kinds_in e)
  unfolding kinds kinds_in
  all =
      (ha, (sym_def, (kdf_scheme, (keyedhash_scheme, (sig_scheme, (asym_scheme, (asym_scheme, (asym_scheme, (public_parms, (signature, (public, (sensitive, (attest, (pcr_selections, (capability_data, (nv_public2, (creation, (verified, (hashcheck, (auth, tt))))))))))))))))))))

  -- of every number the layout in the edition is a later one than ours
  pub extension_is_later : (k : ℕ) → Later (layout_of k) (layout_in e k)
  unfolding layout_of layout_in
  extension_is_later zero = arm_new
  extension_is_later (suc k) = each kinds (kinds_in e) all k
