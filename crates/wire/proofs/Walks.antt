-- A walk over items, from the code's side: what is left to walk after each item. Assumes nothing.
use Prim.Native.Nat.{ℕ, suc, ◌+◌, ◌-◌, ◌<◌}
use native.Mathlib.Omega.{arith}
use mathlib.Core.Path.{◌≡◌}
use mathlib.Core.List.{List}
use Rattle.wire.specs.Records.{Part, Parsed, parsed}
use Rattle.wire.specs.Reading.{Reader, walk}

module _ (item : Reader Parsed) (src : List ℕ) (n i at : ℕ) where
  left : i < n → n - i ≡ suc (n - (i + 1))
  left h = omega arith

  -- an item was found: the rest is walked from its end
  pub walk_on : {ps : List Part} {e : ℕ} → i < n → parsed ps e ≡ item src at → walk item (n - i) src at ≡ walk item (n - (i + 1)) src e
  walk_on h p = rw (left h, ← p)
