-- A number that was read is judged by a rule, and fits its width; in a shape that `search` applies. Assumes nothing.
use Prim.Native.Nat.{ℕ, ◌+◌, ◌^◌, ◌<◌}
use mathlib.Core.Path.{◌≡◌, refl, sym, ap, subst, ◌∙◌}
use mathlib.Core.Bool.{Bool, true, false, cond}
use mathlib.Core.List.{List, [], ◌∷◌}
use lib.ListN.{get_or}
use mir.Syntax.{w8}
use mir.Val.{Fits}
use Rattle.faults.specs.declared.Refusal.{Refusal}
use Rattle.faults.specs.Faults.{unknown_code, bad_value}
use Rattle.wire.specs.Bytes.{be}
use Rattle.wire.specs.Layout.{Rule, allows, breach, free, one}
use Rattle.wire.specs.Records.{Part, num, tag, span, Ans, found, refused, Parsed, parsed, next}
use Rattle.wire.specs.Reading.{also, field, piece, read}
use Rattle.wire.proofs.Stand.{bytes_of}
use Rattle.wire.proofs.Steps.{next_found, field_found, parsed_same}
use Rattle.wire.proofs.Search.{via, Shows, same}

-- ---- the rule

-- what the rule makes of an answer at `at`: of a number that it does not allow, the breach
abbrev judge : Rule → ℕ → List Part → Ans Parsed → Ans Parsed
judge r at [] a = a
judge r at (num n ∷ ps) a = cond (allows r n) a (refused (breach r at n))
judge r at (tag n ∷ ps) a = a
judge r at (span s n ∷ ps) a = a

abbrev pub judged : Rule → ℕ → Ans Parsed → Ans Parsed
judged r at (refused f) = refused f
judged r at (found p) = judge r at p.parts (found p)

-- a number under a rule is read as any number, and judged
judged_one : (w : ℕ) (r : Rule) (src : List ℕ) (at : ℕ) → judged r at (read (one w free) src at) ≡ read (one w r) src at
unfolding read field
judged_one w r src at = go (piece w src at)
  where
    after : (n : ℕ) (t : Bool) → cond t (parsed (num n ∷ []) (at + w)) (refused (breach r at n)) ≡ next (cond t (found n) (refused (breach r at n))) (λ n. also (num n) (parsed [] (at + w)))
    after n true = refl
    after n false = refl

    go : (a : Ans (List ℕ)) → judged r at (next (next a (λ xs. found (be xs))) (λ n. also (num n) (parsed [] (at + w))))
        ≡ next (next a (λ xs. cond (allows r (be xs)) (found (be xs)) (refused (breach r at (be xs))))) (λ n. also (num n) (parsed [] (at + w)))
    go (found xs) = after (be xs) (allows r (be xs))
    go (refused f) = refl

pub by_rule : {x z : Ans Parsed} (w : ℕ) (r : Rule) (src : List ℕ) (at : ℕ)
    → x ≡ read (one w free) src at → Shows z (judged r at x) → Shows z (read (one w r) src at)
by_rule {z = z} w r src at p s = subst (λ x. Shows z x) (ap (λ x. judged r at x) p ∙ judged_one w r src at) s

-- the rule allows the number, or not
pub allowed : (t : Bool) {z : Ans Parsed} (x y : Ans Parsed) → true ≡ t → Shows z x → Shows z (cond t x y)
allowed t x y p q = rw (← p) q

pub barred : (t : Bool) {z : Ans Parsed} (x y : Ans Parsed) → false ≡ t → Shows z y → Shows z (cond t x y)
barred t x y p q = rw (← p) q

-- and the refusal says which number it was
pub of_code : {f : Refusal} {at w n : ℕ} → f ≡ unknown_code at w → w ≡ n → Shows (refused f) (refused (unknown_code at n))
of_code p q = rw (p, q) same

pub of_value : {f : Refusal} {at w n : ℕ} → f ≡ bad_value at w → w ≡ n → Shows (refused f) (refused (bad_value at n))
of_value p q = rw (p, q) same

pub ruleset judgements = (via, same, allowed, barred, of_code, of_value)

-- ---- the width

-- the answer is the number n
abbrev pub IsNumber : Ans Parsed → ℕ → Type 0
IsNumber (refused f) n = ⊥
IsNumber (found p) n = p.parts ≡ num n ∷ []

pub read_fits : (w : ℕ) {x : Ans Parsed} {n : ℕ} (src : List ℕ) (at : ℕ)
    → x ≡ read (one w free) src at → IsNumber x n → ((i : ℕ) → Fits w8 (get_or src i 0)) → n < 256 ^ w
unfolding read
read_fits w {x} {n} src at p h s = go x p h
  where
    go : (a : Ans Parsed) → a ≡ read (one w free) src at → IsNumber a n → n < 256 ^ w
    go (found r) p h =
        let (m, e, q) = next_found (field w free src at) _ (sym p) in
        let same : m ≡ n = let (parts, stops) = parsed_same q in cc in
        rw (← same) (field_found w free src at (bytes_of src (λ i. (s i).fits)) e).0
    go (refused f) p h = absurd h
