-- A layout that begins with a number or with a count has no empty record. Assumes nothing.
use Prim.Native.Nat.{zero, suc, ℕ, ◌<◌}
use native.Mathlib.Omega.{arith}
use mathlib.Core.Path.{◌≡◌, ap}
use mathlib.Core.Bool.{Bool, true, false, false≢true}
use mathlib.Core.List.{List}
use lib.ListN.{length, length-append}
use Rattle.wire.specs.Bytes.{digits}
use Rattle.wire.specs.Layout.{Layout, stop, no_arm, arm, number, plain, buffer, counted}
use Rattle.wire.specs.Grammar.{Token, Spells, says, counts}
use Rattle.wire.proofs.Digits.{length_digits}
use Rattle.wire.proofs.Split.{no_arm_no_record}

-- the layout begins with a number or with a count, or no bytes spell it
abbrev pub begins : Layout → Bool
begins stop = false
begins (no_arm v) = true
begins (arm v t l) = false
begins (number zero r k) = false
begins (number (suc w) r k) = true
begins (plain n l) = false
begins (buffer w m l) = false
begins (counted m i l) = true

-- then every record of it has a byte
pub begins_some : (l : Layout) {ts : List Token} {bs : List ℕ} → begins l ≡ true → Spells l ts bs → 0 < length bs
begins_some stop b d = absurd (false≢true b)
begins_some (no_arm v) b d = absurd (no_arm_no_record d)
begins_some (arm v t l) b d = absurd (false≢true b)
begins_some (number zero r k) b d = absurd (false≢true b)
begins_some (number (suc w) r k) b (says {cs = cs} n h a e d) = omega (arith, ap length e, length-append (digits (suc w) n) cs, length_digits (suc w) n)
begins_some (plain n l) b d = absurd (false≢true b)
begins_some (buffer w m l) b d = absurd (false≢true b)
begins_some (counted m i l) b (counts {xs = xs} {ys} {cs} n h le c is e d) =
    omega (arith, ap length e, length-append xs cs, ap length c, length-append (digits 4 n) ys, length_digits 4 n)
