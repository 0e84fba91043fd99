-- In a table where each arm has its selector's code, the arm that is held matches a selector that is its code. Assumes nothing.
use Prim.Native.Nat.{ℕ}
use mathlib.Core.Path.{◌≡◌, refl, sym, ap, ◌∙◌}
use mathlib.Core.Bool.{Bool, true, false, cond, false≢true}
use mathlib.Core.List.{List, [], ◌∷◌}
use lib.Dec.{eqb}
use borrow.Author.Tests.{eq-eqb, ne_eqb, eqb-true}
use Rattle.std.specs.Prelude.{None, Some}
use Rattle.wire.specs.Records.{Part}
use Rattle.wire.specs.Unions.{Row, arm_of, is_arm, held}
pub use borrow.Author.Rules.{rules}

-- each row's arm has its selector's code
abbrev pub all_own : List Row → Bool
all_own [] = true
all_own (r ∷ rs) = cond (eqb r.chooses r.selector) (all_own rs) false

-- the table has a row for the selector
abbrev pub has : List Row → ℕ → Bool
has [] v = false
has (r ∷ rs) v = cond (eqb v r.selector) true (has rs v)

own_arm_lem : (rs : List Row) (v : ℕ) → all_own rs ≡ true → arm_of rs v ≡ cond (has rs v) (Some v) None
own_arm_lem [] v own = refl
own_arm_lem (r ∷ rs) v own = by (eqb r.chooses r.selector) refl own (λ more. own_arm_lem rs v more) (eqb v r.selector) refl
  where
    by : (a : Bool) → eqb r.chooses r.selector ≡ a → cond a (all_own rs) false ≡ true → (all_own rs ≡ true → arm_of rs v ≡ cond (has rs v) (Some v) None) → (b : Bool) → eqb v r.selector ≡ b
        → cond b (Some r.chooses) (arm_of rs v) ≡ cond (cond b true (has rs v)) (Some v) None
    by true e rest more true f = ap Some (eqb-true r.chooses r.selector e ∙ sym (eqb-true v r.selector f))
    by true e rest more false f = more rest
    by false e rest more b f = absurd (false≢true rest)

is_own : (rs : List Row) (v c : ℕ) → all_own rs ≡ true → has rs c ≡ true → eqb v c ≡ is_arm (arm_of rs v) c
is_own rs v c own there = by (eqb v c) refl ∙ ap (λ x. is_arm x c) (sym (own_arm_lem rs v own))
  where
    other : (b : Bool) → (c ≡ v → ⊥) → false ≡ is_arm (cond b (Some v) None) c
    other true h = sym (ne_eqb c v h)
    other false h = refl

    by : (b : Bool) → eqb v c ≡ b → b ≡ is_arm (cond (has rs v) (Some v) None) c
    by true e = let same : v ≡ c = eqb-true v c e in rw (same, there) (sym (eq-eqb c c refl))
    by false e = other (has rs v) (λ q. false≢true (sym e ∙ eq-eqb v c (sym q)))

-- x is the union, y what it was found to be, and c the code of the arm that it holds
pub by_code : {X : Type 0} (parts : X → List Part) (rs : List Row) (v c : ℕ) (x y : X) → x ≡ y → c ≡ held (parts y) → all_own rs ≡ true → has rs c ≡ true → eqb v c ≡ is_arm (arm_of rs v) (held (parts x))
by_code parts rs v c x y e is own there = is_own rs v c own there ∙ ap (λ z. is_arm (arm_of rs v) z) (is ∙ ap (λ z. held (parts z)) (sym e))
