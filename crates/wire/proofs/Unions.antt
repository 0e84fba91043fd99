-- A table has no arm but those of its rows: no bytes spell a selector without a row, nor an arm that no row chooses. Assumes nothing.
use Prim.Native.Nat.{ℕ}
use Rattle.std.specs.Prelude.{Option, Some, None}
use mathlib.Core.Path.{◌≡◌, refl, sym, ap}
use mathlib.Core.Bool.{true, false≢true}
use mathlib.Core.List.{List, [], ◌∷◌}
use borrow.Author.Tests.{ne_eqb, eqb-true}
use Rattle.wire.specs.Layout.{no_arm}
use Rattle.wire.specs.Unions.{Row, arm_of, body_of, union, is_arm}
use Rattle.wire.specs.Grammar.{Token, Spells}
use Rattle.wire.proofs.Split.{no_arm_no_record}

pub no_row_no_record : (rs : List Row) (v : ℕ) {ts : List Token} {bs : List ℕ} → arm_of rs v ≡ None → Spells (union (arm_of rs v) (λ t. body_of rs t) v) ts bs → ⊥
no_row_no_record rs v e d = no_arm_no_record (rw e at d)

-- no row chooses the arm t
abbrev pub Unchosen : List Row → ℕ → Type 0
Unchosen [] t = Unit {0}
Unchosen (r ∷ rs) t = (t ≡ r.chooses → ⊥) × Unchosen rs t

pub unchosen_holds_none : (rs : List Row) (t : ℕ) → Unchosen rs t → body_of rs t ≡ no_arm t
unchosen_holds_none [] t h = refl
unchosen_holds_none (r ∷ rs) t h = rw (ne_eqb t r.chooses h.0) (unchosen_holds_none rs t h.1)

pub unchosen_no_record : (rs : List Row) (t : ℕ) {ts : List Token} {bs : List ℕ} → Unchosen rs t → Spells (body_of rs t) ts bs → ⊥
unchosen_no_record rs t h d = no_arm_no_record (rw (unchosen_holds_none rs t h) at d)

-- an arm that is the chosen one is what the selector chooses
pub chosen_is : (c : Option ℕ) (t : ℕ) → is_arm c t ≡ true → c ≡ Some t
chosen_is None t e = absurd (false≢true e)
chosen_is (Some u) t e = ap Some (sym (eqb-true t u e))
