-- Unions: one table says which arm each selector chooses, and what that arm holds. Assumes nothing.
use Rattle.std.specs.Prelude.{Option, Some, None, ℕ, Bool, false, cond, List, [], ◌∷◌, eqb}
use Rattle.wire.specs.Layout.{Layout, no_arm, arm}
use Rattle.wire.specs.Records.{Part}
use Rattle.wire.specs.Parts.{on_arm}

-- a row of a union's table: a selector's code, the number of the arm that it chooses, and what that arm holds
pub record Row : Type 0 where
  pub selector : ℕ
  pub chooses : ℕ
  pub holds : Layout

abbrev pub row : (selector arm : ℕ) → Layout → Row
row v t l = record { selector = v; chooses = t; holds = l }

-- a selector whose arm has its code for a number
abbrev pub own : ℕ → Layout → Row
own v l = row v v l

-- the arm that the selector v chooses: none, if it has no row
abbrev pub arm_of : List Row → (v : ℕ) → Option ℕ
arm_of [] v = None
arm_of (r ∷ rs) v = cond (eqb v r.selector) (Some r.chooses) (arm_of rs v)

-- what the arm t holds, by the first row that chooses it; no bytes spell an arm that no row chooses
abbrev pub body_of : List Row → (t : ℕ) → Layout
body_of [] t = no_arm t
body_of (r ∷ rs) t = cond (eqb t r.chooses) r.holds (body_of rs t)

-- a union whose selector is v: the arm that is chosen, with what it holds
abbrev pub union : Option ℕ → (body : ℕ → Layout) → (v : ℕ) → Layout
union None body v = no_arm v
union (Some t) body v = arm v t (body t)

-- the arm t is the one that is chosen
abbrev pub is_arm : Option ℕ → (t : ℕ) → Bool
is_arm None t = false
is_arm (Some u) t = eqb t u

-- the arm that the parts of a union hold
abbrev pub held : List Part → ℕ
held ps = on_arm 0 ps (λ t qs. t)
