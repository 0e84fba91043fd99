-- Rules: what they refuse, and what a later edition's rule keeps and adds. Assumes nothing.
use Prim.Native.Nat.{ℕ, ◌<◌}
use mathlib.Core.Path.{◌≡◌, refl, sym, ◌∙◌}
use mathlib.Core.Bool.{true, false, false≢true}
use native.Mathlib.Omega.{arith}
use Rattle.faults.specs.declared.Fault.TheVariants.{Short}
use Rattle.faults.specs.Faults.{unknown_code}
use Rattle.wire.specs.Layout.{Rule, free, listed, fixed, length_to, count_to, allows, breach}
use Rattle.wire.specs.Editions.{LaterRule, rule_same, rule_longer}

-- a number that a rule does not allow is never refused as Short
pub breach_not_short : (r : Rule) (at n : ℕ) → (breach r at n).fault ≡ Short → ⊥
breach_not_short free at n p = let z : ◌≡◌ {A = ℕ} 0 1 = cc in omega arith
breach_not_short (listed q) at n p = let z : ◌≡◌ {A = ℕ} 0 1 = cc in omega arith
breach_not_short (fixed q) at n p = let z : ◌≡◌ {A = ℕ} 0 1 = cc in omega arith
breach_not_short (length_to m) at n p = let z : ◌≡◌ {A = ℕ} 0 1 = cc in omega arith
breach_not_short (count_to m) at n p = let z : ◌≡◌ {A = ℕ} 0 1 = cc in omega arith

-- a later edition allows what the earlier one allows
pub keeps_codes : {w : ℕ} {r r' : Rule} → LaterRule w r r' → (n : ℕ) → allows r n ≡ true → allows r' n ≡ true
keeps_codes rule_same n a = a
keeps_codes (rule_longer wide keeps) n a = keeps n a

-- and what it allows besides are codes, of a byte at least
pub adds_code : {w : ℕ} {r r' : Rule} → LaterRule w r r' → (at n : ℕ) → allows r n ≡ false → allows r' n ≡ true → (breach r at n ≡ unknown_code at n) × (0 < w)
adds_code rule_same at n q a = absurd (false≢true (sym q ∙ a))
adds_code (rule_longer wide keeps) at n q a = (refl, wide)

pub rule_trans : {w : ℕ} {r r' r'' : Rule} → LaterRule w r r' → LaterRule w r' r'' → LaterRule w r r''
rule_trans rule_same y = y
rule_trans (rule_longer wide keeps) rule_same = rule_longer wide keeps
rule_trans (rule_longer wide keeps) (rule_longer wide' more) = rule_longer wide (λ n a. more n (keeps n a))
