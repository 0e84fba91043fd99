-- The reader's steps, one by one: what is found where a number or bytes stand, and what stands where something was found. Assumes nothing.
use Prim.Native.Nat.{ℕ, ◌^◌, ◌<◌}
use native.Mathlib.Omega.{arith}
use mathlib.Core.Path.{◌≡◌, refl, ap}
use mathlib.Core.Bool.{Bool, true, false, cond}
use mathlib.Core.List.{List}
use lib.ListN.{length}
use lib.Dec.{leb}
use borrow.Author.Tests.{le-leb, leb-true}
use Rattle.faults.specs.declared.Refusal.{Refusal}
use Rattle.wire.specs.Bytes.{Bytes, be, digits}
use Rattle.wire.specs.Layout.{Rule, allows, breach}
use Rattle.wire.specs.Records.{Part, Ans, found, refused, Parsed, parsed, next, left}
use Rattle.wire.specs.Reading.{also, piece, field}
use Rattle.wire.specs.Grammar.{Stands}
use Rattle.wire.proofs.Digits.{length_digits, be_digits, be_lt, digits_be}
use Rattle.wire.proofs.Stand.{stands_of, stands_same, stands_left, stands_bytes}

-- ---- answers

-- what follows if two different constructors are said to be the same
pub clash : ◌≡◌ {A = ℕ} 0 1 → ⊥
clash z = omega arith

pub found_refused : {A : Type 0} {x : A} {f : Refusal} → refused f ≡ found x → ⊥
found_refused p = clash (cc)

pub found_same : {A : Type 0} {x y : A} → found x ≡ found y → x ≡ y
found_same p = cc

pub refused_same : {A : Type 0} {f g : Refusal} → ◌≡◌ {A = Ans A} (refused f) (refused g) → f ≡ g
refused_same p = cc

pub parsed_same : {ps qs : List Part} {e f : ℕ} → parsed ps e ≡ parsed qs f → (ps ≡ qs) × (e ≡ f)
parsed_same p = let q = found_same p in (ap (λ r. r.parts) q, ap (λ r. r.stops) q)

-- both steps found something
pub next_found : {A B : Type 0} (a : Ans A) (k : A → Ans B) {b : B} → next a k ≡ found b → (x : A) × (a ≡ found x) × (k x ≡ found b)
next_found (found x) k p = (x, refl, p)
next_found (refused f) k p = absurd (found_refused p)

pub also_found : (p : Part) (a : Ans Parsed) {r : Parsed} → also p a ≡ found r → (q : Parsed) × (a ≡ found q) × (q.stops ≡ r.stops)
also_found p (found q) e = (q, refl, cc)
also_found p (refused f) e = absurd (found_refused e)

pub when_found : {A : Type 0} (b : Bool) (a : Ans A) (f : Refusal) {x : A} → cond b a (refused f) ≡ found x → (b ≡ true) × (a ≡ found x)
when_found true a f p = (refl, p)
when_found false a f p = absurd (found_refused p)

-- ---- bytes and numbers

pub piece_of : {src : List ℕ} {at : ℕ} (n : ℕ) (xs : List ℕ) → length xs ≡ n → Stands src at xs → piece n src at ≡ found xs
unfolding piece
piece_of {src} {at} n xs h s = rw (le-leb n (left src at) (omega (arith, stands_left s)), stands_same n h s)

pub piece_found : (n : ℕ) (src : List ℕ) (at : ℕ) {xs : List ℕ} → piece n src at ≡ found xs → (length xs ≡ n) × Stands src at xs
unfolding piece
piece_found n src at {xs} p =
    let (t, e) = when_found (leb n (left src at)) _ _ p in
    stands_of src at n xs (leb-true n (left src at) t) (found_same e)

-- a number that stands there is found, if the rule allows it
pub field_of : {src : List ℕ} {at : ℕ} (w : ℕ) (r : Rule) (n : ℕ) → n < 256 ^ w → allows r n ≡ true → Stands src at (digits w n) → field w r src at ≡ found n
unfolding field
field_of w r n h a s = rw (piece_of w (digits w n) (length_digits w n) s, be_digits w n h, a)

-- and refused, if it does not
pub field_not : {src : List ℕ} {at : ℕ} (w : ℕ) (r : Rule) (n : ℕ) → n < 256 ^ w → allows r n ≡ false → Stands src at (digits w n) → field w r src at ≡ refused (breach r at n)
unfolding field
field_not w r n h a s = rw (piece_of w (digits w n) (length_digits w n) s, be_digits w n h, a)

pub field_found : (w : ℕ) (r : Rule) (src : List ℕ) (at : ℕ) {n : ℕ} → Bytes src → field w r src at ≡ found n → (n < 256 ^ w) × (allows r n ≡ true) × Stands src at (digits w n)
unfolding field
field_found w r src at {n} b p =
    let (xs, e, q) = next_found (piece w src at) _ p in
    let (size, s) = piece_found w src at e in
    let (t, v) = when_found (allows r (be xs)) _ _ q in
    let byte = stands_bytes b s in
    let eq : be xs ≡ n = found_same v in
    (rw (← eq) (be_lt w xs byte size), rw (← eq) t, rw (← eq, digits_be w xs byte size) s)
