-- A set of bits is a rule: below a bound the bits of some words are set at the numbers of the rule, which is computed, and from the bound on the rule has none. Assumes nothing.
use Prim.Native.Nat.{ℕ, ◌-◌, ◌/◌, ◌%◌, ◌^◌, ◌≤◌, ◌<◌}
use native.Mathlib.Omega.{arith}
use mathlib.Core.Path.{◌≡◌, refl, sym, ap, ◌∙◌}
use mathlib.Core.Bool.{Bool, true, false, ◌||◌, ◌&&◌, cond, and-true, and-false}
use mathlib.Core.List.{List, [], ◌∷◌}
use lib.Dec.{eqb, leb, ltb}
use borrow.Author.Tests.{eqb-true, ltb-true, ltb-false, lt-ltb, le-ltb, le-leb}
use Rattle.codes.specs.Codes.{row, member}
use Rattle.codes.proofs.Ranges.{in_row}

-- bit k of a word; a shift to the right by k is this division
abbrev pub bit : (word k : ℕ) → Bool
bit w k = eqb (w / 2 ^ k % 2) 1

-- n's bit is set in words of 64 bits, the lowest first; a number past them has none
abbrev pub in_words : List ℕ → ℕ → Bool
in_words [] n = false
in_words (w ∷ ws) n = cond (ltb n 64) (bit w n) (in_words ws (n - 64))

-- x before a list, if it is kept; a `cond` would hold the list twice, so that a list which is computed before the words are known would double at each number
abbrev pub kept : Bool → ℕ → List ℕ → List ℕ
kept true x xs = x ∷ xs
kept false x xs = xs

-- those of some numbers that pass a test; as a list, so that of a wrong word the wrong number is shown
abbrev pub passing : (ℕ → Bool) → List ℕ → List ℕ
passing p [] = []
passing p (x ∷ xs) = kept (p x) x (passing p xs)

in_passing : (p : ℕ → Bool) (xs : List ℕ) (n : ℕ) → member (passing p xs) n ≡ (member xs n && p n)
in_passing p [] n = refl
in_passing p (x ∷ xs) n = go (p x) (eqb n x) refl refl (in_passing p xs n)
  where
    go : (t e : Bool) → p x ≡ t → eqb n x ≡ e → member (passing p xs) n ≡ (member xs n && p n)
        → member (kept t x (passing p xs)) n ≡ ((e || member xs n) && p n)
    go true true q s rest = let same = eqb-true n x s in rw (s, same, q)
    go true false q s rest = rw (s, rest)
    go false true q s rest = let same = eqb-true n x s in rw (rest, same, q) (and-false (member xs x))
    go false false q s rest = rest

-- two tests that the same of some numbers pass agree at each of these
passing_agree : (p q : ℕ → Bool) (xs : List ℕ) → passing p xs ≡ passing q xs → (n : ℕ) → member xs n ≡ true → p n ≡ q n
passing_agree p q xs e n m =
    let tested : (r : ℕ → Bool) → member (passing r xs) n ≡ r n = λ r. in_passing r xs n ∙ ap (λ t. t && r n) m in
    sym (tested p) ∙ ap (λ (ys : List ℕ). member ys n) e ∙ tested q

-- no number passes p from b on
abbrev pub NoneFrom : (b : ℕ) → (p : ℕ → Bool) → Type 0
NoneFrom b p = (n : ℕ) → b ≤ n → p n ≡ false

-- so it is of a list of numbers below b
pub none_past : (xs : List ℕ) (b : ℕ) → passing (leb b) xs ≡ [] → NoneFrom b (member xs)
none_past xs b e n h =
    sym (and-true (member xs n)) ∙ ap (λ t. member xs n && t) (sym (le-leb b n h)) ∙ sym (in_passing (leb b) xs n) ∙ ap (λ (ys : List ℕ). member ys n) e

-- below b the bits of the words are set at the numbers that pass p
abbrev pub SameBelow : (ws : List ℕ) → (b : ℕ) → (p : ℕ → Bool) → Type 0
SameBelow ws b p = passing (in_words ws) (row b 0) ≡ passing p (row b 0)

-- to be below b, with its bit set in the words, is the rule p
pub record SetIs (ws : List ℕ) (b : ℕ) (p : ℕ → Bool) : Type 0 where
  pub rule : (n : ℕ) → (ltb n b && in_words ws n) ≡ p n

-- so it is if the two agree below b, which is computed, and the rule has none from there on
pub set_is_rule : (ws : List ℕ) (b : ℕ) (p : ℕ → Bool) → SameBelow ws b p → NoneFrom b p → SetIs ws b p
set_is_rule ws b p e none = record { rule = λ n. go n (ltb n b) refl }
  where
    go : (n : ℕ) (t : Bool) → ltb n b ≡ t → (t && in_words ws n) ≡ p n
    go n true h = passing_agree (in_words ws) p (row b 0) e n (in_row b 0 n (omega arith) (omega (arith, ltb-true n b h)))
    go n false h = sym (none n (ltb-false n b h))

-- the same, with what follows from it in front: the words and the bound are found there, and so are the program's own
pub given_set {ℓ} : {A : Type ℓ} (ws : List ℕ) (b : ℕ) (p : ℕ → Bool) → (SetIs ws b p → A) → SameBelow ws b p → NoneFrom b p → A
given_set ws b p follows e none = follows (set_is_rule ws b p e none)

-- ---- where the program finds n's bit

pub first_word : {w b : ℕ} {ws : List ℕ} {p : ℕ → Bool} → SetIs (w ∷ ws) b p → (n : ℕ) → n < 64 → n < b → bit w n ≡ p n
first_word s n h g = rw (lt-ltb n _ g, lt-ltb n 64 h) at (s.rule n)

pub second_word : {w v b : ℕ} {ws : List ℕ} {p : ℕ → Bool} → SetIs (w ∷ v ∷ ws) b p → (n : ℕ) → 64 ≤ n → n < 128 → n < b → bit v (n - 64) ≡ p n
second_word s n l h g = rw (lt-ltb n _ g, le-ltb n 64 l, lt-ltb (n - 64) 64 (omega arith)) at (s.rule n)

pub past_words : {b : ℕ} {ws : List ℕ} {p : ℕ → Bool} → SetIs ws b p → (n : ℕ) → b ≤ n → false ≡ p n
past_words s n h = rw (le-ltb n _ h) at (s.rule n)
