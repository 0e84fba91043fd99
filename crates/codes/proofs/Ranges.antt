-- The lists of codes: how many there are, and membership by ranges, or by one number after the other. Assumes nothing.
use Prim.Native.Nat.{ℕ, zero, suc, ◌+◌, ◌-◌, ◌≤◌, ◌<◌}
use native.Mathlib.Omega.{arith}
use mathlib.Core.Path.{◌≡◌, refl, sym, ap, ◌∙◌}
use mathlib.Core.Bool.{Bool, true, false, ◌||◌, ◌&&◌, false≢true, or_assoc, or-false}
use mathlib.Core.List.{List, [], ◌∷◌, ◌++◌}
use lib.ListN.{length}
use lib.Dec.{eqb, leb}
use borrow.Author.Tests.{le-leb, leb-true, leb-false, eqb-true, eqb-false}
use Rattle.codes.specs.Codes.{Range, row, numbers, member, within, curve_ranges, attestation_ranges, cap_ranges, algorithms, curves, attestations, caps, handle_types, hierarchies, is_curve, is_attestation, is_cap}

-- ---- how many

pub algorithms_44 : length algorithms ≡ 44
unfolding algorithms
algorithms_44 = refl

pub curves_14 : length curves ≡ 14
unfolding curves
curves_14 = refl

pub attestations_8 : length attestations ≡ 8
unfolding attestations
attestations_8 = refl

pub caps_11 : length caps ≡ 11
unfolding caps
caps_11 = refl

pub handle_types_3 : length handle_types ≡ 3
unfolding handle_types
handle_types_3 = refl

pub hierarchies_4 : length hierarchies ≡ 4
unfolding hierarchies
hierarchies_4 = refl

-- ---- membership by ranges

member_append : (xs ys : List ℕ) (n : ℕ) → member (xs ++ ys) n ≡ (member xs n || member ys n)
member_append [] ys n = refl
member_append (x ∷ xs) ys n = ap (λ b. eqb n x || b) (member_append xs ys n) ∙ sym (or_assoc (eqb n x) (member xs n) (member ys n))

-- what is in a row lies between its ends
row_in : (k lo n : ℕ) → member (row k lo) n ≡ true → (lo ≤ n) × (n < lo + k)
row_in zero lo n p = absurd (false≢true p)
row_in (suc k) lo n p = go (eqb n lo) refl p (row_in k (lo + 1) n)
  where
    go : (b : Bool) → eqb n lo ≡ b → (b || member (row k (lo + 1)) n) ≡ true
        → (member (row k (lo + 1)) n ≡ true → (lo + 1 ≤ n) × (n < lo + 1 + k)) → (lo ≤ n) × (n < lo + suc k)
    go true e q rest = let same = eqb-true n lo e in (omega arith, omega arith)
    go false e q rest = let (above, below) = rest q in (omega arith, omega arith)

-- and what lies between them is in it
pub in_row : (k lo n : ℕ) → lo ≤ n → n < lo + k → member (row k lo) n ≡ true
in_row zero lo n h g = absurd (omega arith)
in_row (suc k) lo n h g = go (eqb n lo) refl (in_row k (lo + 1) n)
  where
    go : (b : Bool) → eqb n lo ≡ b → (lo + 1 ≤ n → n < lo + 1 + k → member (row k (lo + 1)) n ≡ true) → (b || member (row k (lo + 1)) n) ≡ true
    go true e rest = refl
    go false e rest = let other = eqb-false n lo e in rest (omega arith) (omega arith)

-- the numbers from lo to hi are those within
from_within : (lo hi n : ℕ) → lo ≤ hi + 1 → member (row (hi + 1 - lo) lo) n ≡ within lo hi n
from_within lo hi n h = go (leb lo n) (leb n hi) (member (row (hi + 1 - lo) lo) n) refl refl refl
  where
    go : (a b m : Bool) → leb lo n ≡ a → leb n hi ≡ b → member (row (hi + 1 - lo) lo) n ≡ m → m ≡ (a && b)
    go true true m p q r = sym r ∙ in_row (hi + 1 - lo) lo n (leb-true lo n p) (omega (arith, leb-true n hi q))
    go true false true p q r = absurd (omega (arith, leb-false n hi q, (row_in (hi + 1 - lo) lo n r).1))
    go true false false p q r = refl
    go false b true p q r = absurd (omega (arith, leb-false lo n p, (row_in (hi + 1 - lo) lo n r).0))
    go false b false p q r = refl

-- tests of ranges in a row
abbrev pub or_within : Bool → List Range → ℕ → Bool
or_within b [] n = b
or_within b (r ∷ rs) n = or_within (b || within r.lo r.hi n) rs n

-- no range is turned round
abbrev pub Upright : List Range → Type 0
Upright [] = Unit {0}
Upright (r ∷ rs) = (r.lo ≤ r.hi + 1) × Upright rs

-- are the test of their numbers
or_member : (rs : List Range) (n : ℕ) (b : Bool) → Upright rs → or_within b rs n ≡ (b || member (numbers rs) n)
or_member [] n b u = sym (or-false b)
or_member (r ∷ rs) n b u =
    or_member rs n (b || within r.lo r.hi n) u.1
    ∙ or_assoc b (within r.lo r.hi n) (member (numbers rs) n)
    ∙ ap (λ c. b || (c || member (numbers rs) n)) (sym (from_within r.lo r.hi n u.0))
    ∙ ap (λ c. b || c) (sym (member_append (row (r.hi + 1 - r.lo) r.lo) (numbers rs) n))

-- so the code's tests of a curve, of an attestation type and of a capability are their lists
pub curve_tests : (n : ℕ) {a b c d e : Bool}
    → a ≡ within 0x00 0x05 n → b ≡ within 0x10 0x11 n → c ≡ within 0x20 0x20 n → d ≡ within 0x30 0x32 n → e ≡ within 0x40 0x41 n
    → ((((a || b) || c) || d) || e) ≡ is_curve n
unfolding is_curve curves
curve_tests n pa pb pc pd pe =
    rw (pa, pb, pc, pd, pe) (or_member curve_ranges n false (omega arith, (omega arith, (omega arith, (omega arith, (omega arith, tt))))))

pub attestation_tests : (n : ℕ) {a b : Bool} → a ≡ within 0x8014 0x801A n → b ≡ within 0x801C 0x801C n → (a || b) ≡ is_attestation n
unfolding is_attestation attestations
attestation_tests n pa pb = rw (pa, pb) (or_member attestation_ranges n false (omega arith, (omega arith, tt)))

pub cap_test : (n : ℕ) → leb n 0x0A ≡ is_cap n
unfolding is_cap caps
cap_test n = sym (ap (λ b. b && leb n 0x0A) (le-leb 0 n (omega arith))) ∙ or_member cap_ranges n false (omega arith, tt)

-- ---- membership by one number after the other

-- tests of numbers in a row
abbrev pub or_equal : Bool → List ℕ → ℕ → Bool
or_equal b [] n = b
or_equal b (x ∷ xs) n = or_equal (b || eqb n x) xs n

or_equal_lem : (b : Bool) (xs : List ℕ) (n : ℕ) → or_equal b xs n ≡ (b || member xs n)
or_equal_lem b [] n = sym (or-false b)
or_equal_lem b (x ∷ xs) n = or_equal_lem (b || eqb n x) xs n ∙ or_assoc b (eqb n x) (member xs n)

-- are the test of their list: so the code's tests of a handle type, of a hierarchy and of a tag are their lists
pub equal_tests : (x : ℕ) (xs : List ℕ) (n : ℕ) → or_equal (eqb n x) xs n ≡ member (x ∷ xs) n
equal_tests x xs n = or_equal_lem (eqb n x) xs n
