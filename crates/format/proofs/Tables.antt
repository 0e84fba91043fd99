-- What holds of the tables. Assumes nothing.
use Prim.Native.Nat.{ℕ, ◌≤◌}
use native.Mathlib.Omega.{arith}
use mathlib.Core.Path.{◌≡◌, refl, sym, ap, ◌∙◌}
use mathlib.Core.Bool.{Bool, true, false, cond}
use mathlib.Core.List.{List, [], ◌∷◌}
use lib.Dec.{eqb}
use borrow.Author.Tests.{ne_eqb, leb-true}
use Rattle.std.specs.Prelude.{None, Option, Some}
use Rattle.wire.specs.Layout.{stop, plain}
use Rattle.wire.specs.Unions.{Row}
use Rattle.format.specs.Kinds.{digest_of, digest_size, tpms_scheme_hash, tpmu_ha_table, tpmu_asym_scheme_table, tpmu_sig_scheme_table, tpmu_keyedhash_scheme_table, tpmu_kdf_scheme_table, tpmu_sym_key_bits_table, tpmu_sym_mode_table, tpmu_public_parms_table, tpmu_public_id_table, tpmu_sensitive_composite_table, tpmu_signature_table, tpmu_attest_table, tpmu_capabilities_table, tpmu_nv_public2_table, tpmu_ha_arm, tpmu_ha_body, tpmu_sig_scheme_arm, tpmu_sig_scheme_body, tpmu_public_parms_arm, tpmu_public_id_arm, tpmu_attest_arm, tpmu_capabilities_arm}
use Rattle.codes.specs.Codes.{null, ecdaa, member, attestations, caps, is_attestation, is_cap, cap_pcr_properties}
use Rattle.codes.proofs.Ranges.{cap_test}
use Rattle.codes.proofs.Digests.{Agrees, digests_agree, digest_sized}
use Rattle.codes.proofs.Choices.{Each, chosen_has, chosen_listed, none_listed}

-- a proof for each row of a table, one behind the other
infixr 20 ◌&◌
abbrev pub ◌&◌ : {A B : Type 0} → A → B → A × B
a & b = (a, b)

-- in each of some tables
abbrev pub AllAgree : List (List Row) → Type 0
AllAgree [] = Unit {0}
AllAgree (rs ∷ rss) = Agrees rs × AllAgree rss

-- the tables
abbrev pub tables : List (List Row)
tables =
    tpmu_ha_table
    ∷ tpmu_asym_scheme_table
    ∷ tpmu_sig_scheme_table
    ∷ tpmu_keyedhash_scheme_table
    ∷ tpmu_kdf_scheme_table
    ∷ tpmu_sym_key_bits_table
    ∷ tpmu_sym_mode_table
    ∷ tpmu_public_parms_table
    ∷ tpmu_public_id_table
    ∷ tpmu_sensitive_composite_table
    ∷ tpmu_signature_table
    ∷ tpmu_attest_table
    ∷ tpmu_capabilities_table
    ∷ tpmu_nv_public2_table
    ∷ []

pub tables_agree : AllAgree tables
tables_agree = digests_agree & refl & refl & refl & refl & refl & refl & refl & refl & refl & refl & refl & refl & refl & tt

-- parameters and unique are chosen alike
pub id_arm : (v : ℕ) → tpmu_public_id_arm v ≡ tpmu_public_parms_arm v
unfolding tpmu_public_id_arm tpmu_public_parms_arm
id_arm v = refl

-- a digest's arm, 256 more than its length, is at most 320
pub digest_short : (v : ℕ) {t : ℕ} → tpmu_ha_arm v ≡ Some t → t ≤ 320
unfolding tpmu_ha_arm
digest_short v e = chosen_has (λ t. t ≤ 320) tpmu_ha_table (omega arith) v e

-- and holds as many bytes as its length
pub digest_body : (v : ℕ) {n : ℕ} → tpmu_ha_arm v ≡ Some (digest_of n) → tpmu_ha_body (digest_of n) ≡ plain n stop
unfolding tpmu_ha_arm
digest_body v {n} e = rw (digest_sized n) at (chosen_has (λ t. (t ≡ null → ⊥) → tpmu_ha_body t ≡ plain (digest_size t) stop) tpmu_ha_table rows v e (λ q. omega arith))
  where
    rows : Each (λ t. (t ≡ null → ⊥) → tpmu_ha_body t ≡ plain (digest_size t) stop) tpmu_ha_table
    rows =
        (λ h. refl) & (λ h. refl) & (λ h. refl) & (λ h. refl) & (λ h. refl) & (λ h. refl) & (λ h. refl) & (λ h. refl) & (λ h. refl) & (λ h. refl) & (λ h. refl)
        & (λ h. absurd (h refl)) & tt

-- an arm of the signing schemes that is neither empty nor Ecdaa's holds a hash code
pub hash_body : (v : ℕ) (t : ℕ) → tpmu_sig_scheme_arm v ≡ Some t → (t ≡ null → ⊥) → (t ≡ ecdaa → ⊥) → tpmu_sig_scheme_body t ≡ tpms_scheme_hash
unfolding tpmu_sig_scheme_arm
hash_body v t e = chosen_has (λ t. (t ≡ null → ⊥) → (t ≡ ecdaa → ⊥) → tpmu_sig_scheme_body t ≡ tpms_scheme_hash) tpmu_sig_scheme_table rows v e
  where
    rows : Each (λ t. (t ≡ null → ⊥) → (t ≡ ecdaa → ⊥) → tpmu_sig_scheme_body t ≡ tpms_scheme_hash) tpmu_sig_scheme_table
    rows = (λ h g. refl) & (λ h g. refl) & (λ h g. refl) & (λ h g. refl) & (λ h g. absurd (g refl)) & (λ h g. refl) & (λ h g. refl) & (λ h g. absurd (h refl)) & tt

-- the listed attestation types are those with an arm
pub attestation_arm : (v : ℕ) → tpmu_attest_arm v ≡ cond (is_attestation v) (Some v) None
unfolding tpmu_attest_arm is_attestation attestations
attestation_arm v = by (member attestations v) refl
  where
    by : (b : Bool) → member attestations v ≡ b → tpmu_attest_arm v ≡ cond b (Some v) None
    by true e = sym (chosen_listed Some tpmu_attest_table attestations refl v e)
    by false e = sym (none_listed tpmu_attest_table attestations refl v e)

-- the listed capabilities but PcrProperties are those with an arm
abbrev pub own_arm : ℕ → Option ℕ
own_arm v = cond (eqb v cap_pcr_properties) None (Some v)

pub capability_arm : (v : ℕ) → is_cap v ≡ true → (v ≡ cap_pcr_properties → ⊥) → Some v ≡ tpmu_capabilities_arm v
unfolding tpmu_capabilities_arm is_cap caps
capability_arm v e h = ap (λ b. cond b None (Some v)) (sym (ne_eqb v cap_pcr_properties h)) ∙ chosen_listed own_arm tpmu_capabilities_table caps refl v e

pub no_pcr_properties : (v : ℕ) → v ≡ cap_pcr_properties → None ≡ tpmu_capabilities_arm v
unfolding tpmu_capabilities_arm
no_pcr_properties v e = rw e

pub no_capability : (v : ℕ) → is_cap v ≡ false → None ≡ tpmu_capabilities_arm v
unfolding tpmu_capabilities_arm is_cap caps
no_capability v e = none_listed tpmu_capabilities_table caps refl v e
