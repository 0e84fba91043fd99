-- A table that keeps our rows, each with a later edition of what it holds, and has more behind them makes a later edition of the union:
-- the first row of a selector or an arm decides, and ours come first. Assumes nothing.
use Prim.Native.Nat.{ℕ}
use native.Mathlib.Omega.{arith}
use Rattle.std.specs.Prelude.{Option, Some, None}
use mathlib.Core.Path.{◌≡◌, refl}
use mathlib.Core.Bool.{Bool, true, false, cond}
use mathlib.Core.List.{List, [], ◌∷◌, ◌++◌}
use lib.Dec.{eqb}
use Rattle.wire.specs.Layout.{Layout}
use Rattle.wire.specs.Unions.{Row, row, arm_of, body_of, union}
use Rattle.wire.specs.Editions.{Later, arm_new, arm_same}
use Rattle.wire.proofs.Order.{later_refl}

-- the rows of a table, one by one with a later edition of what each holds, and then any more rows
pub data LaterRows : List Row → List Row → Type 0 where
  more_rows : (ss : List Row) → LaterRows [] ss
  row_later : {v t : ℕ} {l l' : Layout} {rs ss : List Row} → Later l l' → LaterRows rs ss → LaterRows (row v t l ∷ rs) (row v t l' ∷ ss)

-- a table with any more rows behind it
pub rows_behind : (rs ss : List Row) → LaterRows rs (rs ++ ss)
rows_behind [] ss = more_rows ss
rows_behind (r ∷ rs) ss = row_later (later_refl r.holds) (rows_behind rs ss)

-- what a selector of ours chooses it chooses there too
choice_kept : {rs ss : List Row} → LaterRows rs ss → (v : ℕ) {t : ℕ} → arm_of rs v ≡ Some t → arm_of ss v ≡ Some t
choice_kept (more_rows ss) v e = let z : ◌≡◌ {A = ℕ} 0 1 = cc in absurd (omega arith)
choice_kept (row_later {v = w} {t = u} {rs = rs} {ss = ss} x xs) v {t} e = by (eqb v w) e (λ q. choice_kept xs v q)
  where
    by : (b : Bool) → cond b (Some u) (arm_of rs v) ≡ Some t → (arm_of rs v ≡ Some t → arm_of ss v ≡ Some t) → cond b (Some u) (arm_of ss v) ≡ Some t
    by true q behind = q
    by false q behind = behind q

-- and what an arm holds there is a later edition of what it holds here
body_later : {rs ss : List Row} → LaterRows rs ss → (t : ℕ) → Later (body_of rs t) (body_of ss t)
body_later (more_rows ss) t = arm_new
body_later (row_later {t = u} {l} {l'} {rs} {ss} x xs) t = by (eqb t u) (body_later xs t)
  where
    by : (b : Bool) → Later (body_of rs t) (body_of ss t) → Later (cond b l (body_of rs t)) (cond b l' (body_of ss t))
    by true behind = x
    by false behind = behind

-- so the union is a later edition of ours
pub union_later : {rs ss : List Row} → LaterRows rs ss → (v : ℕ) → Later (union (arm_of rs v) (λ t. body_of rs t) v) (union (arm_of ss v) (λ t. body_of ss t) v)
union_later {rs} {ss} xs v = by (arm_of rs v) refl
  where
    by : (c : Option ℕ) → arm_of rs v ≡ c → Later (union c (λ t. body_of rs t) v) (union (arm_of ss v) (λ t. body_of ss t) v)
    by None e = arm_new
    by (Some t) e = rw (choice_kept xs v e) (arm_same (body_later xs t))
