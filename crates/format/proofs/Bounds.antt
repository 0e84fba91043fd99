-- Bounds on what a union holds, and the greatest digest: no record is larger, and one is so large. Assumes nothing.
use Prim.Native.Nat.{ℕ, ◌+◌, ◌≤◌}
use native.Mathlib.Omega.{arith}
use mathlib.Core.Path.{refl}
use mathlib.Core.Bool.{Bool, true, false, cond}
use mathlib.Core.List.{List, [], ◌∷◌}
use lib.Dec.{eqb}
use Rattle.std.specs.Prelude.{None, Option, Some}
use Rattle.wire.specs.Layout.{Rule, Layout, stop, no_arm, arm, number, plain, one, free}
use Rattle.wire.specs.Sizes.{AtMost, Reaches}
use Rattle.wire.specs.Unions.{Row, body_of, union}
use Rattle.wire.proofs.Sizes.{stop_most, no_arm_most, arm_most, number_most, plain_most, most_wider, stop_reaches, arm_reaches, number_reaches, plain_reaches}
use Rattle.codes.specs.Codes.{algorithms, is_algorithm, alg}
use Rattle.format.specs.Kinds.{tpmu_ha_table, tpmu_ha_arm, tpmu_ha, tpmt_ha}
use Rattle.format.proofs.Tables.{◌&◌}

-- one number
pub one_most : (w : ℕ) (r : Rule) → AtMost (one w r) (w + 0)
one_most w r = number_most w 0 r (λ n a. stop_most)

-- nothing
pub none_most : {m : ℕ} → AtMost stop m
none_most = most_wider (omega arith) stop_most

-- P holds of what each row of a table holds
abbrev pub Holds : (Layout → Type 0) → List Row → Type 0
Holds P [] = Unit {0}
Holds P (r ∷ rs) = P r.holds × Holds P rs

-- so of the union, if it holds where no arm is, and of an arm if of what it holds
module _ (P : Layout → Type 0) (none : (v : ℕ) → P (no_arm v)) (some : (v t : ℕ) (l : Layout) → P l → P (arm v t l)) where
  either : (b : Bool) (k l : Layout) → P k → P l → P (cond b k l)
  either true k l h g = h
  either false k l h g = g

  body_holds : (rs : List Row) → Holds P rs → (t : ℕ) → P (body_of rs t)
  body_holds [] h t = none t
  body_holds (r ∷ rs) h t = either (eqb t r.chooses) r.holds (body_of rs t) h.0 (body_holds rs h.1 t)

  pub union_holds : (rs : List Row) → Holds P rs → (c : Option ℕ) (v : ℕ) → P (union c (λ t. body_of rs t) v)
  union_holds rs h None v = none v
  union_holds rs h (Some t) v = some v t (body_of rs t) (body_holds rs h t)

  -- and of digests, if of as many bytes as a digest has, and of none
  pub digest_holds : ((n : ℕ) → n ≤ 64 → P (plain n stop)) → P stop → (v : ℕ) → P (tpmu_ha v)
  unfolding tpmu_ha
  digest_holds h e v = union_holds tpmu_ha_table rows (tpmu_ha_arm v) v
    where
      rows : Holds P tpmu_ha_table
      rows =
          h 20 (omega arith) & h 24 (omega arith)
          & h 32 (omega arith) & h 32 (omega arith) & h 32 (omega arith) & h 32 (omega arith)
          & h 48 (omega arith) & h 48 (omega arith)
          & h 64 (omega arith) & h 64 (omega arith) & h 64 (omega arith)
          & e & tt

-- ---- the greatest sizes

-- what each row of a table holds is small enough
abbrev pub RowsMost : List Row → ℕ → Type 0
RowsMost rs m = Holds (λ l. AtMost l m) rs

pub union_most : (m : ℕ) (rs : List Row) → RowsMost rs m → (c : Option ℕ) (v : ℕ) → AtMost (union c (λ t. body_of rs t) v) m
union_most m rs h c v = union_holds (λ l. AtMost l m) (λ v. no_arm_most v m) (λ v t l p. arm_most v t p) rs h c v

-- a bound on a number's layout, from a bound on what follows every number
pub follows : {k : ℕ → Layout} (w m : ℕ) (r : Rule) → ((n : ℕ) → AtMost (k n) m) → AtMost (number w r k) (w + m)
follows w m r h = number_most w m r (λ n a. h n)

-- ---- digests

ha_by_most : (v : ℕ) → AtMost (tpmu_ha v) 64
ha_by_most v =
    digest_holds (λ l. AtMost l 64) (λ v. no_arm_most v 64) (λ v t l p. arm_most v t p)
    (λ n h. most_wider (omega arith) (plain_most n 0 stop_most)) none_most v

pub ha_most : AtMost tpmt_ha 66
unfolding tpmt_ha
ha_most = follows 2 64 alg ha_by_most

pub ha_reaches : Reaches tpmt_ha 66
unfolding tpmt_ha is_algorithm algorithms tpmu_ha tpmu_ha_arm
ha_reaches = number_reaches 2 alg 0x0D (omega arith) refl (arm_reaches 0x0D 320 (plain_reaches 64 stop_reaches))

-- a free number of 4 bytes
pub free_reaches : Reaches (one 4 free) 4
free_reaches = number_reaches 4 free 0 (omega arith) refl stop_reaches
