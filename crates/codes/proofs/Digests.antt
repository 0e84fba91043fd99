-- The table of digests agrees with itself, and a digest's arm tells how long it is. Assumes nothing.
use Prim.Native.Nat.{ℕ}
use native.Mathlib.Nat.{add-sub_cancel}
use native.Mathlib.Omega.{arith}
use mathlib.Core.Path.{◌≡◌, refl}
use mathlib.Core.Bool.{false}
use mathlib.Core.List.{List, map}
use lib.Dec.{eqb}
use borrow.Author.Tests.{ne_eqb}
use Rattle.wire.specs.Unions.{Row, body_of}
use Rattle.codes.specs.Codes.{null}
use Rattle.codes.specs.Digests.{digest_of, digest_size, tpmu_ha_table}

-- each row's arm holds what the row says: rows that choose one arm hold the same
abbrev pub Agrees : List Row → Type 0
Agrees rs = map (λ (r : Row). body_of rs r.chooses) rs ≡ map (λ (r : Row). r.holds) rs

pub digests_agree : Agrees tpmu_ha_table
digests_agree = refl

-- the arm of a digest of n bytes is that of n bytes
pub digest_sized : (n : ℕ) → digest_size (digest_of n) ≡ n
digest_sized n = add-sub_cancel n 256

-- and is not the empty one
pub digest_not_empty : (n : ℕ) → eqb (digest_of n) null ≡ false
digest_not_empty n = ne_eqb (digest_of n) null (λ e. omega arith)
