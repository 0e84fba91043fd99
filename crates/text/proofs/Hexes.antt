-- Bytes as digits, one byte behind the other. Assumes nothing.
use Prim.Native.Nat.{ℕ, ◌+◌, ◌*◌, ◌/◌, ◌%◌, ◌≤◌, ◌<◌}
use native.Mathlib.Numerals.{add-one}
use native.Mathlib.Omega.{arith}
use mathlib.Core.Path.{◌≡◌, refl, sym, ap, ◌∙◌, subst}
use mathlib.Core.List.{List, [], ◌∷◌, ◌++◌}
use lib.ListN.{length, take, get_or, length-append}
use lib.Seq.{take-suc}
use Rattle.io.specs.Digits.{hex_digit_ascii}
use Rattle.text.specs.Puts.{Puts}
use Rattle.text.proofs.Putting.{puts_and}
use Rattle.text.specs.Ascii.{ascii}
use Rattle.text.specs.Text.{pairs, hex}

pairs_append : (xs ys : List ℕ) → pairs (xs ++ ys) ≡ pairs xs ++ pairs ys
pairs_append [] ys = refl
pairs_append (x ∷ xs) ys = ap (λ l. hex_digit_ascii (x / 16) ∷ hex_digit_ascii (x % 16) ∷ l) (pairs_append xs ys)

pairs_length : (xs : List ℕ) → length (pairs xs) ≡ 2 * length xs
pairs_length [] = refl
pairs_length (x ∷ xs) = omega (arith, pairs_length xs)

pub hex_length : (xs : List ℕ) → length (hex xs) ≤ 2 * length xs + 1
hex_length [] = omega arith
hex_length (x ∷ xs) = omega (arith, pairs_length (x ∷ xs))

-- with the line's end
pub end_some : (xs : List ℕ) → (length xs ≡ 0 → ⊥) → 2 * length xs + 1 ≡ length (hex xs ++ ascii "\n")
end_some [] h = absurd (h refl)
end_some (x ∷ xs) h = omega (arith, length-append (pairs (x ∷ xs)) (ascii "\n"), pairs_length (x ∷ xs))

pub end_most : (xs : List ℕ) → length (hex xs ++ ascii "\n") ≤ 2 * length xs + 2
end_most xs = omega (arith, length-append (hex xs) (ascii "\n"), hex_length xs)

pub end_room : (xs : List ℕ) → 2 * length xs + 1 ≤ length (hex xs ++ ascii "\n")
end_room [] = omega arith
end_room (x ∷ xs) = omega (arith, length-append (pairs (x ∷ xs)) (ascii "\n"), pairs_length (x ∷ xs))

-- i bytes are put
pub record Paired (xs old : List ℕ) (at : ℕ) (out : List ℕ) (end i : ℕ) : Type 0 where
  pub most : i ≤ length xs
  pub place : end ≡ at + 2 * i
  pub puts : Puts at (pairs (take i xs)) old end out

pub paired_more : {xs old : List ℕ} {at : ℕ} {out : List ℕ} {end i r : ℕ} {last : List ℕ} → i < length xs → Paired xs old at out end i → Puts end (pairs (get_or xs i 0 ∷ [])) out r last
    → Paired xs old at last r (i + 1)
paired_more {xs} {old} {at} {out} {end} {i} {r} {last} h p q =
    let longer : pairs (take i xs) ++ pairs (get_or xs i 0 ∷ []) ≡ pairs (take (i + 1) xs) =
    sym (pairs_append (take i xs) (get_or xs i 0 ∷ [])) ∙ ap pairs (sym (take-suc xs i 0 h) ∙ ap (λ n. take n xs) (sym (add-one i))) in
    record { most = omega arith; place = omega (arith, p.place, q.behind); puts = subst (λ bs. Puts at bs old r last) longer (puts_and p.puts q) }
