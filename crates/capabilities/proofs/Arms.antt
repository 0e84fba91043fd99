-- The arms of capabilities by their rows: what is chosen is the arm of the capability's own code, and holds the list of that row. Assumes nothing.
use Prim.Native.Nat.{ℕ, zero, suc}
use mathlib.Core.Path.{◌≡◌, refl, sym, ap, ◌∙◌}
use mathlib.Core.Bool.{Bool, true, false}
use mathlib.Core.List.{List, [], ◌∷◌}
use lib.Dec.{eqb}
use borrow.Author.Tests.{eqb-true}
use Rattle.std.specs.Prelude.{None, Option, Some}
use Rattle.std.proofs.lemmas.Option.{none-some}
use Rattle.faults.specs.declared.Refusal.{Refusal}
use Rattle.faults.specs.Faults.{no_such_arm}
use Rattle.wire.specs.declared.span.Span.{Span}
use Rattle.wire.specs.Answers.{span_part}
use Rattle.wire.specs.Layout.{stop, arm}
use Rattle.wire.specs.Records.{refused, parsed}
use Rattle.wire.specs.Reading.{read}
use Rattle.wire.specs.Unions.{is_arm}
use Rattle.codes.proofs.Choices.{Each, chosen_has}
use Rattle.format.specs.declared.list.ListOf.{ListOf}
use Rattle.format.specs.Kinds.{item_layout, most_items, tpml, tpml_pcr_selection, tpmu_capabilities_table, tpmu_capabilities_arm, tpmu_capabilities_body, tpmu_capabilities}
use Rattle.format.proofs.Tables.{◌&◌}
use Rattle.steps.specs.Steps.{Items}
use Rattle.steps.specs.Walks.{Here, Goes, Walks}
use Rattle.steps.proofs.Search.{by_list, by_stop}
use Rattle.attest.proofs.Items.{own_arm_is_its_selector}
use Rattle.capabilities.specs.declared.tpmu.TpmuCapabilities.{TpmuCapabilities}
use Rattle.capabilities.specs.Parts.{code_of, list_of, items_of, arm_for, tpmu_capabilities_parts}

-- ---- a row an arm

-- an arm that is held is the one that its code chooses
code_chooses : (u : TpmuCapabilities) → tpmu_capabilities_arm (code_of u) ≡ Some (code_of u)
unfolding tpmu_capabilities_arm
code_chooses (TpmuCapabilities.Algs x) = refl
code_chooses (TpmuCapabilities.Handles x) = refl
code_chooses (TpmuCapabilities.Commands x) = refl
code_chooses (TpmuCapabilities.PpCommands x) = refl
code_chooses (TpmuCapabilities.AuditCommands x) = refl
code_chooses (TpmuCapabilities.Pcrs x) = refl
code_chooses (TpmuCapabilities.TpmProperties x) = refl
code_chooses (TpmuCapabilities.EccCurves x) = refl
code_chooses (TpmuCapabilities.AuthPolicies x) = refl
code_chooses (TpmuCapabilities.Act x) = refl

-- and holds its list
pub body_of_arm : (u : TpmuCapabilities) → tpmu_capabilities_body (code_of u) ≡ tpml (list_of u)
unfolding tpml_pcr_selection
body_of_arm (TpmuCapabilities.Algs x) = refl
body_of_arm (TpmuCapabilities.Handles x) = refl
body_of_arm (TpmuCapabilities.Commands x) = refl
body_of_arm (TpmuCapabilities.PpCommands x) = refl
body_of_arm (TpmuCapabilities.AuditCommands x) = refl
body_of_arm (TpmuCapabilities.Pcrs x) = refl
body_of_arm (TpmuCapabilities.TpmProperties x) = refl
body_of_arm (TpmuCapabilities.EccCurves x) = refl
body_of_arm (TpmuCapabilities.AuthPolicies x) = refl
body_of_arm (TpmuCapabilities.Act x) = refl

-- the arm of a capability keeps the list that it is made with
items_kept : (v : ℕ) (s : Span) → items_of (arm_for v s) ≡ s
items_kept zero s = refl
items_kept (suc zero) s = refl
items_kept (suc (suc zero)) s = refl
items_kept (suc (suc (suc zero))) s = refl
items_kept (suc (suc (suc (suc zero)))) s = refl
items_kept (suc (suc (suc (suc (suc zero))))) s = refl
items_kept (suc (suc (suc (suc (suc (suc zero)))))) s = refl
items_kept (suc (suc (suc (suc (suc (suc (suc zero))))))) s = refl
items_kept (suc (suc (suc (suc (suc (suc (suc (suc zero)))))))) s = refl
items_kept (suc (suc (suc (suc (suc (suc (suc (suc (suc zero))))))))) s = refl
items_kept (suc (suc (suc (suc (suc (suc (suc (suc (suc (suc n)))))))))) s = refl

-- the arm of a code is the arm of that number
pub arm_there : (x : ℕ) {v : ℕ} (s : Span) → v ≡ x → arm_for x s ≡ arm_for v s
arm_there x s e = ap (λ n. arm_for n s) (sym e)

-- what is none of the codes ahead of the last, is of the last arm
pub else_last : (v : ℕ) (s : Span) → (v ≡ 0 → ⊥) → (v ≡ 1 → ⊥) → (v ≡ 2 → ⊥) → (v ≡ 3 → ⊥) → (v ≡ 4 → ⊥) → (v ≡ 5 → ⊥) → (v ≡ 6 → ⊥) → (v ≡ 8 → ⊥) → (v ≡ 9 → ⊥) → TpmuCapabilities.Act (record { items = s }) ≡ arm_for v s
else_last zero s h _ _ _ _ _ _ _ _ = absurd (h refl)
else_last (suc zero) s _ h _ _ _ _ _ _ _ = absurd (h refl)
else_last (suc (suc zero)) s _ _ h _ _ _ _ _ _ = absurd (h refl)
else_last (suc (suc (suc zero))) s _ _ _ h _ _ _ _ _ = absurd (h refl)
else_last (suc (suc (suc (suc zero)))) s _ _ _ _ h _ _ _ _ = absurd (h refl)
else_last (suc (suc (suc (suc (suc zero))))) s _ _ _ _ _ h _ _ _ = absurd (h refl)
else_last (suc (suc (suc (suc (suc (suc zero)))))) s _ _ _ _ _ _ h _ _ = absurd (h refl)
else_last (suc (suc (suc (suc (suc (suc (suc zero))))))) s _ _ _ _ _ _ _ _ _ = refl
else_last (suc (suc (suc (suc (suc (suc (suc (suc zero)))))))) s _ _ _ _ _ _ _ h _ = absurd (h refl)
else_last (suc (suc (suc (suc (suc (suc (suc (suc (suc zero))))))))) s _ _ _ _ _ _ _ _ h = absurd (h refl)
else_last (suc (suc (suc (suc (suc (suc (suc (suc (suc (suc (n))))))))))) s _ _ _ _ _ _ _ _ _ = refl

-- ---- what a capability chooses

-- the arm with its own code, and that of the row
pub chosen_own : (v : ℕ) {t : ℕ} → tpmu_capabilities_arm v ≡ Some t → v ≡ t
unfolding tpmu_capabilities_arm
chosen_own v {t} e = own_arm_is_its_selector tpmu_capabilities_table (refl & refl & refl & refl & refl & refl & refl & refl & refl & refl & tt) v t e

-- the arm t, made with the list s, has the number t and holds what the table has there
record Made (s : Span) (t : ℕ) : Type 0 where
  pub code : code_of (arm_for t s) ≡ t
  pub body : tpmu_capabilities_body t ≡ tpml (list_of (arm_for t s))

chosen_made : (v : ℕ) {t : ℕ} (s : Span) → tpmu_capabilities_arm v ≡ Some t → Made s v
unfolding tpmu_capabilities_arm tpml_pcr_selection
chosen_made v {t} s e = rw (chosen_own v e) (chosen_has (λ t. Made s t) tpmu_capabilities_table rows v e)
  where
    rows : Each (λ t. Made s t) tpmu_capabilities_table
    rows =
        record { code = refl; body = refl } & record { code = refl; body = refl } & record { code = refl; body = refl } & record { code = refl; body = refl } & record { code = refl; body = refl } & record { code = refl; body = refl } & record { code = refl; body = refl } & record { code = refl; body = refl } & record { code = refl; body = refl } & record { code = refl; body = refl } & tt

-- ---- the union read

module _ (v at : ℕ) (src : List ℕ) where
  chosen_is : {t : ℕ} (s : Span) → tpmu_capabilities_arm v ≡ Some t → tpmu_capabilities v ≡ arm v v (tpml (list_of (arm_for v s)))
  unfolding tpmu_capabilities
  chosen_is s e = rw (e ∙ ap Some (sym (chosen_own v e)), (chosen_made v s e).body) refl

  -- the list was found: it is the arm's
  pub capability_found : {t e : ℕ} (s : Span) {a u : TpmuCapabilities} {items : Span} {w : ListOf} → tpmu_capabilities_arm v ≡ Some t → a ≡ arm_for v s → w ≡ list_of a → parsed (span_part items ∷ []) e ≡ read (tpml w) src at
      → u ≡ arm_for v items → parsed (tpmu_capabilities_parts u) e ≡ read (tpmu_capabilities v) src at
  unfolding read
  capability_found {e = e} s {a} {u} {items} c is which-is there made =
      let which = list_of (arm_for v s) in
      let same : parsed (span_part items ∷ []) e ≡ read (tpml which) src at = rw (which-is, is) at there in
      let code : code_of u ≡ v = ap code_of made ∙ (chosen_made v items c).code in
      let kept : span_part (items_of u) ≡ span_part items = ap (λ x. span_part (items_of x)) made ∙ ap span_part (items_kept v items) in
      rw (chosen_is s c, code, kept, ← same) refl

  pub capability_refused : {t : ℕ} {f : Refusal} (s : Span) {a : TpmuCapabilities} {w : ListOf} → tpmu_capabilities_arm v ≡ Some t → a ≡ arm_for v s → w ≡ list_of a → refused f ≡ read (tpml w) src at
      → refused f ≡ read (tpmu_capabilities v) src at
  unfolding read
  capability_refused {f = f} s {a} c is which-is there =
      let which = list_of (arm_for v s) in
      let same : refused f ≡ read (tpml which) src at = rw (which-is, is) at there in
      rw (chosen_is s c, ← same) refl

  -- a capability without an arm
  pub no_capability_arm : None ≡ tpmu_capabilities_arm v → refused (no_such_arm at v) ≡ read (tpmu_capabilities v) src at
  unfolding read tpmu_capabilities
  no_capability_arm c = rw (← c) refl

-- ---- the arm that is held is the one that is chosen, or another

pub is_own_arm : (v : ℕ) (u : TpmuCapabilities) {n : ℕ} → n ≡ code_of u → eqb n v ≡ is_arm (tpmu_capabilities_arm v) (code_of u)
is_own_arm v u {n} e = ap (λ m. eqb m v) e ∙ by (tpmu_capabilities_arm v) refl
  where
    differs : (b : Bool) → eqb (code_of u) v ≡ b → tpmu_capabilities_arm v ≡ None → b ≡ false
    differs true p q = let same : code_of u ≡ v = eqb-true (code_of u) v p in absurd (none-some _ (sym q ∙ sym (ap tpmu_capabilities_arm same) ∙ code_chooses u))
    differs false p q = refl

    by : (c : Option ℕ) → tpmu_capabilities_arm v ≡ c → eqb (code_of u) v ≡ is_arm c (code_of u)
    by None q = differs (eqb (code_of u) v) refl q
    by (Some t) q = ap (λ m. eqb (code_of u) m) (chosen_own v q)

-- ---- the walk over the list of the arm that is held

pub arm_walks : (u : TpmuCapabilities) (src : List ℕ) (a z : Here) {which : ListOf} {items : Span} → which ≡ list_of u → items ≡ items_of u → Goes (Items which items ∷ []) src a z
    → Walks 1 (tpmu_capabilities_body (code_of u)) (span_part (items_of u) ∷ []) (span_part (items_of u) ∷ []) src a z
arm_walks u src a z p q goes =
    let same : Goes (Items (list_of u) (items_of u) ∷ []) src a z = rw (p, q) at goes in
    rw (body_of_arm u) (by_list src 1 [] [] a z z (list_of u) (items_of u) (most_items (list_of u)) (item_layout (list_of u)) stop same refl refl refl (by_stop src 0 z))
