-- The arms of the schemes' unions, told by their numbers. Assumes nothing.
use Prim.Native.Nat.{ℕ}
use mathlib.Core.Path.{◌≡◌, refl, sym, ◌∙◌}
use mathlib.Core.List.{List}
use Rattle.std.specs.Prelude.{Option, Some}
use Rattle.faults.specs.declared.Refusal.{Refusal}
use Rattle.wire.specs.Records.{tag, refused}
use Rattle.wire.specs.Reading.{read}
use Rattle.wire.proofs.Search.{Shows, shown, front_no, chosen}
use Rattle.format.specs.Kinds.{hash, tpmu_asym_scheme_table, tpmu_asym_scheme_arm, tpmu_sig_scheme_table, tpmu_sig_scheme_arm, tpms_scheme_hash, tpmu_sig_scheme_body, tpmu_sig_scheme}
use Rattle.codes.specs.Codes.{null, hmac, ecdaa}
use Rattle.codes.proofs.Choices.{Each, chosen_has}
use Rattle.format.proofs.Tables.{◌&◌, hash_body}

-- an arm of the asymmetric schemes that is neither empty nor Ecdaa's holds a hash
pub asym_hash : {a : Option ℕ} {t : ℕ} (v : ℕ) → a ≡ Some t → a ≡ tpmu_asym_scheme_arm v → (t ≡ null → ⊥) → (t ≡ ecdaa → ⊥) → t ≡ hash
unfolding tpmu_asym_scheme_arm
asym_hash v q p = chosen_has (λ t. (t ≡ null → ⊥) → (t ≡ ecdaa → ⊥) → t ≡ hash) tpmu_asym_scheme_table rows v (sym p ∙ q)
  where
    rows : Each (λ t. (t ≡ null → ⊥) → (t ≡ ecdaa → ⊥) → t ≡ hash) tpmu_asym_scheme_table
    rows =
        (λ h g. absurd (h refl)) & (λ h g. absurd (h refl)) & (λ h g. refl) & (λ h g. refl) & (λ h g. refl) & (λ h g. absurd (g refl)) & (λ h g. refl)
        & (λ h g. refl) & (λ h g. refl) & (λ h g. refl) & (λ h g. refl) & tt

-- an arm of the signing schemes that is neither empty, nor Ecdaa's, nor Hmac's holds a hash alone
pub sig_hash : {a : Option ℕ} {t : ℕ} (v : ℕ) → a ≡ Some t → a ≡ tpmu_sig_scheme_arm v → (t ≡ null → ⊥) → (t ≡ ecdaa → ⊥) → (t ≡ hmac → ⊥) → t ≡ hash
unfolding tpmu_sig_scheme_arm
sig_hash v q p = chosen_has (λ t. (t ≡ null → ⊥) → (t ≡ ecdaa → ⊥) → (t ≡ hmac → ⊥) → t ≡ hash) tpmu_sig_scheme_table rows v (sym p ∙ q)
  where
    rows : Each (λ t. (t ≡ null → ⊥) → (t ≡ ecdaa → ⊥) → (t ≡ hmac → ⊥) → t ≡ hash) tpmu_sig_scheme_table
    rows =
        (λ h g k. absurd (k refl)) & (λ h g k. refl) & (λ h g k. refl) & (λ h g k. refl) & (λ h g k. absurd (g refl))
        & (λ h g k. refl) & (λ h g k. refl) & (λ h g k. absurd (h refl)) & tt

-- so one that is none of these, nor a hash, is Hmac's
pub sig_hmac : {a : Option ℕ} {t : ℕ} (v : ℕ) → a ≡ Some t → a ≡ tpmu_sig_scheme_arm v → (t ≡ null → ⊥) → (t ≡ ecdaa → ⊥) → (t ≡ hash → ⊥) → t ≡ hmac
unfolding tpmu_sig_scheme_arm
sig_hmac v q p = chosen_has (λ t. (t ≡ null → ⊥) → (t ≡ ecdaa → ⊥) → (t ≡ hash → ⊥) → t ≡ hmac) tpmu_sig_scheme_table rows v (sym p ∙ q)
  where
    rows : Each (λ t. (t ≡ null → ⊥) → (t ≡ ecdaa → ⊥) → (t ≡ hash → ⊥) → t ≡ hmac) tpmu_sig_scheme_table
    rows =
        (λ h g k. refl) & (λ h g k. absurd (k refl)) & (λ h g k. absurd (k refl)) & (λ h g k. absurd (k refl)) & (λ h g k. absurd (g refl))
        & (λ h g k. absurd (k refl)) & (λ h g k. absurd (k refl)) & (λ h g k. absurd (h refl)) & tt

-- every arm but the empty one and Ecdaa's holds a hash code, and where that is refused so is the union
pub sig_refused : {a : Option ℕ} {t : ℕ} {f : Refusal} (v : ℕ) (src : List ℕ) (at : ℕ)
    → a ≡ Some t → a ≡ tpmu_sig_scheme_arm v → (t ≡ null → ⊥) → (t ≡ ecdaa → ⊥) → Shows (refused f) (read tpms_scheme_hash src at) → refused f ≡ read (tpmu_sig_scheme v) src at
unfolding tpmu_sig_scheme
sig_refused {t = t} v src at q p h g e = shown (chosen tpmu_sig_scheme_arm tpmu_sig_scheme_body t v src at q p refl (rw (hash_body v t (sym p ∙ q) h g) (front_no (tag t) e)))
