-- The selectors' tables: what holds of every row holds of the arm that is chosen. Assumes nothing.
use Prim.Native.Nat.{ℕ}
use mathlib.Core.Path.{◌≡◌, refl, sym, ap, ◌∙◌, subst}
use mathlib.Core.Bool.{Bool, true, false, ◌||◌, ◌&&◌, cond, false≢true}
use mathlib.Core.List.{List, [], ◌∷◌, map}
use mathlib.Core.Logic.{◌⊎◌}
use lib.Dec.{eqb}
use borrow.Author.Tests.{ne_eqb, eqb-true}
use Rattle.std.specs.Prelude.{None, Option, Some}
use Rattle.std.proofs.lemmas.Option.{none-some}
use Rattle.wire.specs.Unions.{Row, arm_of}
use Rattle.codes.specs.Codes.{member}

-- P holds of the arm of every row
abbrev pub Each : (ℕ → Type 0) → List Row → Type 0
Each P [] = Unit {0}
Each P (r ∷ rs) = P r.chooses × Each P rs

-- so it holds of the arm that is chosen
pub chosen_has : (P : ℕ → Type 0) (rs : List Row) → Each P rs → (v : ℕ) {t : ℕ} → arm_of rs v ≡ Some t → P t
chosen_has P [] h v e = absurd (none-some _ e)
chosen_has P (r ∷ rs) h v {t} e = go (eqb v r.selector) e (λ q. chosen_has P rs h.1 v q)
  where
    go : (b : Bool) → cond b (Some r.chooses) (arm_of rs v) ≡ Some t → (arm_of rs v ≡ Some t → P t) → P t
    go true q rest = let same : r.chooses ≡ t = cc in subst P same h.0
    go false q rest = rest q

-- no row has the code
abbrev pub Absent : List Row → ℕ → Type 0
Absent [] v = Unit {0}
Absent (r ∷ rs) v = (v ≡ r.selector → ⊥) × Absent rs v

pub none_chosen : (rs : List Row) (v : ℕ) → Absent rs v → None ≡ arm_of rs v
none_chosen [] v h = refl
none_chosen (r ∷ rs) v h = rw (ne_eqb v r.selector h.0) (none_chosen rs v h.1)

-- ---- a `match` on a selector

-- v is one of the codes of an arm's pattern, as the arm knows it
abbrev pub Among : List ℕ → ℕ → Type 0
Among [] v = ⊥
Among (x ∷ []) v = v ≡ x
Among (x ∷ y ∷ ys) v = (v ≡ x) ⊎ Among (y ∷ ys) v

-- v is in none of the patterns, the last one first, as the arm for all else knows it
abbrev pub Unmatched : List (List ℕ) → ℕ → Type 0
Unmatched [] v = Unit {0}
Unmatched (xs ∷ xss) v = Unmatched xss v × (Among xs v → ⊥)

-- two functions that agree at each number of a list agree at any number in it
alike : (f g : ℕ → Option ℕ) (xs : List ℕ) → map f xs ≡ map g xs → (v : ℕ) → member xs v ≡ true → f v ≡ g v
alike f g [] e v m = absurd (false≢true m)
alike f g (x ∷ xs) e v m = go (eqb v x) refl m (λ q. alike f g xs (cc) v q)
  where
    go : (b : Bool) → eqb v x ≡ b → b || member xs v ≡ true → (member xs v ≡ true → f v ≡ g v) → f v ≡ g v
    go true p q rest = rw (eqb-true v x p) cc
    go false p q rest = rest q

-- every row's code passes the test
abbrev every : (ℕ → Bool) → List Row → Bool
every p [] = true
every p (r ∷ rs) = p r.selector && every p rs

-- so a number that does not pass it has no row
fails : (p : ℕ → Bool) (rs : List Row) → every p rs ≡ true → (v : ℕ) → p v ≡ false → Absent rs v
fails p [] e v h = tt
fails p (r ∷ rs) e v h = (λ k. false≢true (sym h ∙ ap p k ∙ first (p r.selector) (every p rs) e), fails p rs (second (p r.selector) (every p rs) e) v h)
  where
    first : (a b : Bool) → a && b ≡ true → a ≡ true
    first true b q = refl
    first false b q = q

    second : (a b : Bool) → a && b ≡ true → b ≡ true
    second true b q = q
    second false b q = absurd (false≢true q)

-- where a list of codes is tested: the answer is right if it is right at each code of the list
pub chosen_listed : (f : ℕ → Option ℕ) (rs : List Row) (xs : List ℕ) → map f xs ≡ map (arm_of rs) xs → (v : ℕ) → member xs v ≡ true → f v ≡ arm_of rs v
chosen_listed f rs xs e v m = alike f (arm_of rs) xs e v m

-- and a code that is not on the list chooses nothing, if every row's code is on it
pub none_listed : (rs : List Row) (xs : List ℕ) → every (member xs) rs ≡ true → (v : ℕ) → member xs v ≡ false → None ≡ arm_of rs v
none_listed rs xs e v m = none_chosen rs v (fails (member xs) rs e v m)
