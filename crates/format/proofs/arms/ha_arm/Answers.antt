-- The arm of a digest is 256 more than its length, and the table keeps it under 321. Assumes nothing.
use Prim.Native.Nat.{ℕ, ◌+◌, ◌<◌}
use mathlib.Core.Path.{◌≡◌, sym, ap, ◌∙◌}
use native.Mathlib.Omega.{arith}
use Rattle.wire.proofs.Search.{known}
use Rattle.codes.specs.declared.DigestLen.{DigestLen}
use Rattle.codes.specs.Answers.{digest_choice}
use Rattle.format.specs.Kinds.{tpmu_ha_arm}
use Rattle.format.proofs.Tables.{digest_short}
use Rattle.format.proofs.arms.ha_arm.Goals as goal

arm-fits : {a : DigestLen} {n : ℕ} (v : ℕ) → a ≡ DigestLen.Bytes n → digest_choice a ≡ tpmu_ha_arm v → n + 256 < 65536
arm-fits v q p = let short = digest_short v (sym p ∙ ap digest_choice q) in omega arith

pub overflow_add-result : goal.overflow_add-result
overflow_add-result c = search arm-fits

pub returns-in-Bytes : goal.returns-in-Bytes
returns-in-Bytes c = search (known digest_choice)

pub returns-in-Empty : goal.returns-in-Empty
returns-in-Empty c = search (known digest_choice)

pub returns-in-Nothing : goal.returns-in-Nothing
returns-in-Nothing c = search (known digest_choice)
