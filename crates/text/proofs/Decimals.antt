-- The fewest digits of a number, in decimal, are its text. Assumes nothing.
use Prim.Native.Nat.{ℕ, zero, suc, ◌+◌, ◌-◌, ◌*◌, ◌/◌, ◌%◌, ◌^◌, ◌≤◌, ◌<◌}
use native.Mathlib.Nat.{pow-suc, pow-le-pow_right, one-le-pow, mod-eq_of_lt, div-eq_of_lt, div-div-eq-div-mul, le-div_iff_mul-le}
use native.Mathlib.Numerals.{add-one}
use native.Mathlib.Omega.{arith}
use mathlib.Core.Path.{◌≡◌, refl, sym, ap, ◌∙◌, subst}
use mathlib.Core.Bool.{Bool, true, false, cond}
use mathlib.Core.List.{List, [], ◌∷◌, ◌++◌}
use lib.ListN.{length, take, drop, length-append}
use lib.Dec.{ltb, leb}
use borrow.Author.Tests.{lt-ltb, le-ltb, leb-true, leb-false}
use Rattle.io.specs.Digits.{hex_digit_ascii, last_digits as digits, IsDigitCount}
use Rattle.text.specs.Puts.{Puts}
use Rattle.text.specs.Text.{decimal_in, decimal}

-- one digit less, of a number without its last digit
fewer : (n j : ℕ) → IsDigitCount 10 1 n (suc (suc j)) → (10 ≤ n) × IsDigitCount 10 1 (n / 10) (suc j)
fewer n j (least, below, above) =
    let gone : suc (suc j) - 1 ≡ suc j = omega arith in
    let most : 10 ^ suc j ≤ n = subst (λ k. 10 ^ k ≤ n) gone (above (omega arith)) in
    let last : j ≡ suc j - 1 = omega arith in
    (omega (arith, pow-suc 10 j, one-le-pow j 10 (omega arith)), (omega arith, omega (arith, pow-suc 10 (suc j)), λ h. subst (λ k. 10 ^ k ≤ n / 10) last (omega (arith, pow-suc 10 j))))

digits_decimal : (k most n : ℕ) → k ≤ most → IsDigitCount 10 1 n k → digits 10 k n ≡ decimal_in most n
digits_decimal zero most n h (least, below, above) = absurd (omega arith)
digits_decimal (suc k) zero n h f = absurd (omega arith)
digits_decimal (suc zero) (suc most) n h (least, below, above) = rw (lt-ltb n 10 below)
digits_decimal (suc (suc j)) (suc most) n h f =
    let (ten, less) = fewer n j f in
    rw (le-ltb n 10 ten) (ap (λ ds. ds ++ (hex_digit_ascii (n % 10) ∷ [])) (digits_decimal (suc j) most (n / 10) (omega arith) less))

one_more : (b : Bool) (ds : List ℕ) (g k : ℕ) → length ds ≤ k → length (cond b [] ds ++ (g ∷ [])) ≤ suc k
one_more true ds g k h = omega arith
one_more false ds g k h = omega (arith, length-append ds (g ∷ []))

decimal_most : (most n : ℕ) → length (decimal_in most n) ≤ most
decimal_most zero n = omega arith
decimal_most (suc k) n = one_more (ltb n 10) (decimal_in k (n / 10)) (hex_digit_ascii (n % 10)) k (decimal_most k (n / 10))

-- a number has at most 20 digits
pub decimal_length : (n : ℕ) → length (decimal n) ≤ 20
unfolding decimal
decimal_length n = decimal_most 20 n

-- a number below 10,000 at most 4
below : (most k n : ℕ) → n < 10 ^ suc k → length (decimal_in most n) ≤ suc k
below zero k n h = omega arith
below (suc m) zero n h = rw (lt-ltb n 10 h) (omega arith)
below (suc m) (suc k) n h = one_more (ltb n 10) (decimal_in m (n / 10)) (hex_digit_ascii (n % 10)) (suc k) (below m k (n / 10) (omega (arith, pow-suc 10 (suc k))))

pub decimal_few : (n : ℕ) → n < 10000 → length (decimal n) ≤ 4
unfolding decimal
decimal_few n h = below 20 3 n h

-- and a number of 64 bits has no more than 20
few_digits : (k n : ℕ) → n < 18446744073709551616 → (1 < k → 10 ^ (k - 1) ≤ n) → k ≤ 20
few_digits k n small above = by (leb k 20) refl
  where
    by : (b : Bool) → leb k 20 ≡ b → k ≤ 20
    by true e = leb-true k 20 e
    by false e =
        let many : 20 < k = leb-false k 20 e in
        let longer : 20 ≤ k - 1 = omega arith in
        let some : 0 < 10 = omega arith in
        let twenty : 10 ^ 20 ≤ 10 ^ (k - 1) = pow-le-pow_right some longer in
        let digits : 10 ^ 20 ≡ 100000000000000000000 = refl in
        absurd (omega (arith, above (omega arith)))

digits_length : (k n : ℕ) → length (digits 10 k n) ≡ k
digits_length zero n = refl
digits_length (suc k) n = omega (arith, length-append (digits 10 k (n / 10)) (hex_digit_ascii (n % 10) ∷ []), digits_length k (n / 10))

-- the fewest digits of such a number, put at their place
pub decimal_puts : {at n k : ℕ} {old last : List ℕ} → n < 18446744073709551616 → IsDigitCount 10 1 n k
    → last ≡ take at old ++ (digits 10 k n ++ drop (at + k) old) → Puts at (decimal n) old (at + k) last
unfolding decimal
decimal_puts {at} {n} {k} small f p =
    let same : digits 10 k n ≡ decimal n = digits_decimal k 20 n (few_digits k n small f.2) f in
    let size : length (decimal n) ≡ k = ap length (sym same) ∙ digits_length k n in
    record { behind = ap (λ m. at + m) (sym size); holds = rw (size, ← same) p }

-- ---- numbers of few digits

module _ (n : ℕ) where
  pub decimal_one : n < 10 → hex_digit_ascii n ∷ [] ≡ decimal n
  unfolding decimal
  decimal_one h = rw (mod-eq_of_lt h, lt-ltb n 10 h)

  pub decimal_two : 10 ≤ n → n < 100 → hex_digit_ascii (n / 10) ∷ hex_digit_ascii (n % 10) ∷ [] ≡ decimal n
  unfolding decimal
  decimal_two l h =
      let one : n / 10 < 10 = omega arith in
      rw (le-ltb n 10 l, mod-eq_of_lt one, lt-ltb (n / 10) 10 one)

  pub decimal_three : 100 ≤ n → n < 1000 → hex_digit_ascii (n / 100) ∷ hex_digit_ascii (n / 10 % 10) ∷ hex_digit_ascii (n % 10) ∷ [] ≡ decimal n
  unfolding decimal
  decimal_three l h =
      let ten : 10 ≤ n = omega arith in
      let two : 10 ≤ n / 10 = omega arith in
      let one : n / 10 / 10 < 10 = omega arith in
      let first : n / 100 ≡ n / 10 / 10 = omega arith in
      rw (le-ltb n 10 ten, le-ltb (n / 10) 10 two, lt-ltb (n / 10 / 10) 10 one, mod-eq_of_lt one, first)

-- ---- how many digits a number has

-- k digits are counted, and the number without them is left
pub record Counted (n k rest : ℕ) : Type 0 where
  pub some : 1 ≤ k
  pub above : 10 ^ (k - 1) ≤ n
  pub left : rest ≡ n / 10 ^ k

module _ {n k rest : ℕ} (c : Counted n k rest) where
  -- where more is left, there is one more
  reaches : 0 < rest → 10 ^ k ≤ n
  reaches h = by (leb (10 ^ k) n) refl
    where
      by : (b : Bool) → leb (10 ^ k) n ≡ b → 10 ^ k ≤ n
      by true e = leb-true (10 ^ k) n e
      by false e = absurd (omega (arith, c.left, div-eq_of_lt (leb-false (10 ^ k) n e)))

  pub counted_more : 0 < rest → Counted n (k + 1) (rest / 10)
  counted_more h =
      let back : k + 1 - 1 ≡ k = omega arith in
      let step : 10 ^ k * 10 ≡ 10 ^ (k + 1) = rw add-one (sym (pow-suc 10 k)) in
      record {
        some = omega arith;
        above = rw back (reaches h);
        left = ap (λ m. m / 10) c.left ∙ div-div-eq-div-mul n (10 ^ k) 10 ∙ ap (λ m. n / m) step;
      }

  -- and where nothing is left, these are all
  pub counted_all : rest ≤ 0 → IsDigitCount 10 1 n k
  counted_all h = (c.some, by (leb (10 ^ k) n) refl, λ m. c.above)
    where
      by : (b : Bool) → leb (10 ^ k) n ≡ b → n < 10 ^ k
      by true e =
          let all : 10 ^ k ≤ n = leb-true (10 ^ k) n e in
          absurd (omega (arith, c.left, (le-div_iff_mul-le {k = 10 ^ k} {x = 1} {y = n} (one-le-pow k 10 (omega arith))).1 (omega arith)))
      by false e = leb-false (10 ^ k) n e

  pub counted_few : n < 18446744073709551616 → k ≤ 20
  counted_few small = few_digits k n small (λ h. c.above)
