-- The marked samples, computed; where any bytes may follow, their number alone decides. Assumes nothing.
use Prim.Native.Nat.{ℕ}
use native.Mathlib.Omega.{arith}
use mathlib.Core.Path.{◌≡◌, refl}
use mathlib.Core.List.{List, [], ◌∷◌}
use lib.ListN.{length, drop_of_length-le}
use Rattle.faults.specs.Faults.{short}
use Rattle.wire.specs.Bytes.{be}
use Rattle.wire.specs.Layout.{◌then◌}
use Rattle.wire.specs.Records.{num, tag, span, refused}
use Rattle.wire.specs.Reading.{piece, field, list, read}
use Rattle.wire.specs.Writing.{cut, whole, lay}
use Rattle.codes.specs.Codes.{algorithms, curves, is_algorithm, is_curve, caps, is_cap, handle_types, is_handle_type, hierarchies, is_hierarchy, ht_external_nv, st_creation, rh_owner}
use Rattle.format.specs.Kinds.{tpmu_ha_arm, tpmu_asym_scheme_arm, tpmu_kdf_scheme_arm, tpmu_sym_key_bits_arm, tpmu_sym_mode_arm, tpmu_public_parms_arm, tpmu_public_id_arm, tpms_scheme_hash, tpmu_ha, tpmu_asym_scheme, tpmu_kdf_scheme, tpmu_sym_key_bits, tpmu_sym_mode, tpmu_public_parms, tpmu_public_id, tpmt_ha, tpmt_sym_def, tpmt_kdf_scheme, tpmt_asym_scheme, tpms_ecc_parms, tpms_ecc_point, tpmt_public, tpms_pcr_selection, tpml_pcr_selection, kinds, layout_of, read_kind, tpms_alg_property, tpms_tagged_policy, tpmu_capabilities_arm, tpmu_capabilities, tpms_capability_data, tpms_nv_public, tpms_nv_public_exp_attr, tpmu_nv_public2_arm, tpmu_nv_public2, tpmt_nv_public2, ticket_body, tpmt_tk_creation, tpmt_tk_verified, tpmt_tk_hashcheck, tpmt_tk_auth}
use Rattle.format.specs.Samples.{consumed, answer_to, AllHold, samples}
use Rattle.format.proofs.Tables.{◌&◌}

-- no bytes more
alone : (P : List ℕ → Type 0) → P [] → (xs : List ℕ) → length xs ≡ 0 → P xs
alone P p [] e = p
alone P p (x ∷ xs) e = absurd (omega arith)

-- each sample is read, or refused, as it says
pub samples_hold : AllHold samples
unfolding samples read_kind layout_of kinds read piece field list be ◌then◌ algorithms curves caps is_algorithm is_curve is_cap tpms_scheme_hash tpmu_ha_arm tpmu_asym_scheme_arm tpmu_kdf_scheme_arm tpmu_sym_key_bits_arm tpmu_sym_mode_arm tpmu_public_parms_arm tpmu_public_id_arm tpmu_ha tpmu_asym_scheme tpmu_kdf_scheme tpmu_sym_key_bits tpmu_sym_mode tpmu_public_parms tpmu_public_id tpmt_ha tpmt_sym_def tpmt_kdf_scheme tpmt_asym_scheme tpms_ecc_parms tpms_ecc_point tpmt_public tpms_pcr_selection tpml_pcr_selection tpms_alg_property tpms_tagged_policy tpmu_capabilities_arm tpmu_capabilities tpms_capability_data is_handle_type handle_types is_hierarchy hierarchies tpms_nv_public tpms_nv_public_exp_attr tpmu_nv_public2_arm tpmu_nv_public2 tpmt_nv_public2 ticket_body tpmt_tk_creation tpmt_tk_verified tpmt_tk_hashcheck tpmt_tk_auth
samples_hold =
    alone _ refl & alone _ refl & alone _ refl
    & (λ xs e. rw (e, e, drop_of_length-le xs {i = 20} (omega arith)))
    & (λ xs e. rw (e, e))
    & alone _ refl & alone _ refl & alone _ refl & alone _ refl & alone _ refl & alone _ refl & alone _ refl
    & alone _ refl & alone _ refl & alone _ refl & alone _ refl & alone _ refl & alone _ refl
    & alone _ refl & alone _ refl & alone _ refl & alone _ refl & alone _ refl & alone _ refl & alone _ refl & alone _ refl & alone _ refl & alone _ refl & alone _ refl
    & alone _ refl & alone _ refl & alone _ refl & alone _ refl & alone _ refl & alone _ refl & alone _ refl & alone _ refl & alone _ refl & alone _ refl & alone _ refl & alone _ refl & alone _ refl & alone _ refl & alone _ refl & tt

-- a list's span is walked as if it were the whole input: of these seven bytes, a legal list, the span holds five, so an item's first field
-- is cut and had one byte, though the source goes on
pub span_ends_the_list : lay (layout_of 14) (span 0 5 ∷ []) (0x00 ∷ 0x00 ∷ 0x00 ∷ 0x01 ∷ 0x00 ∷ 0x0B ∷ 0x00 ∷ []) 0 ≡ refused (short 4 2 1)
unfolding lay cut whole layout_of kinds read piece field list be ◌then◌ algorithms is_algorithm tpms_pcr_selection tpml_pcr_selection
span_ends_the_list = refl

-- eighteen bytes that are a whole ticket of kind 17
abbrev pub as_ticket : List ℕ
as_ticket = 0x80 ∷ 0x21 ∷ 0x40 ∷ 0x00 ∷ 0x00 ∷ 0x01 ∷ 0x00 ∷ 0x0A ∷ 0x00 ∷ 0x00 ∷ 0x00 ∷ 0x00 ∷ 0x00 ∷ 0x00 ∷ 0x00 ∷ 0x00 ∷ 0x00 ∷ 0x00 ∷ []

-- and, behind the handle type 11, a whole area. Handed over as a deposit, without a kind byte of its own, such an area is taken for the ticket: 11 is the number of
-- a kind, 17
pub bare_area_may_be_a_ticket :
    (answer_to 16 (ht_external_nv ∷ as_ticket) ≡ consumed (num ht_external_nv ∷ tag ht_external_nv ∷ num 0x80214000 ∷ num 1 ∷ num 0x000A000000000000 ∷ span 17 0 ∷ num 0 ∷ []) 19 [])
    × (answer_to ht_external_nv as_ticket ≡ consumed (num st_creation ∷ num rh_owner ∷ span 8 10 ∷ []) 18 [])
unfolding read_kind layout_of kinds read piece field be algorithms is_algorithm is_handle_type handle_types is_hierarchy hierarchies tpms_nv_public_exp_attr tpmu_nv_public2_arm tpmu_nv_public2 tpmt_nv_public2 ticket_body tpmt_tk_creation
bare_area_may_be_a_ticket = (refl, refl)
