-- More bytes behind do not change an answer, unless it is Short. So a record that is cut is Short. Assumes nothing.
use Prim.Native.Nat.{ℕ, zero, suc, ◌+◌, ◌-◌}
use native.Mathlib.Omega.{arith}
use mathlib.Core.Path.{◌≡◌, refl, sym, ap, ◌∙◌}
use mathlib.Core.Logic.{◌⊎◌, inl, inr}
use mathlib.Core.Bool.{Bool, true, false}
use mathlib.Core.List.{List, [], ◌∷◌, ◌++◌, append_assoc, append-nil}
use lib.ListN.{length, take, drop, length-append}
use lib.Dec.{leb}
use borrow.Author.Tests.{leb-true}
use Rattle.faults.specs.declared.Fault.TheVariants.{Short}
use Rattle.faults.specs.declared.Refusal.{Refusal}
use Rattle.wire.specs.Bytes.{Bytes}
use Rattle.wire.specs.Layout.{Rule, Layout, stop, no_arm, arm, number, plain, buffer, counted, length_to, count_to}
use Rattle.wire.specs.Records.{Part, num, tag, span, Ans, found, refused, next, Parsed, parsed, left}
use Rattle.wire.specs.Reading.{also, Reader, piece, field, walk, list, read, IsShort}
use Rattle.wire.specs.Grammar.{Token, Spells, Stands}
use Rattle.wire.proofs.Stand.{stands_of, stands_left, stands_longer, stands_behind, bytes_front, bytes_append}
use Rattle.wire.proofs.Steps.{found_refused, refused_same, piece_of}
use Rattle.wire.proofs.Complete.{read_complete, spells_bytes}
use Rattle.wire.proofs.Sound.{read_sound}

-- b, the answer to more bytes than src, is a again, that to src, unless a is Short
abbrev pub Stays : {A : Type 0} → (src : List ℕ) → Ans A → Ans A → Type 0
Stays src a b = IsShort src a ⊎ (b ≡ a)

-- a reader whose answers stay
abbrev pub Stable : {A : Type 0} → Reader A → Type 0
Stable rd = (src more : List ℕ) (at : ℕ) → Stays src (rd src at) (rd (src ++ more) at)

next_stays : {A B : Type 0} (src : List ℕ) (a a' : Ans A) (k k' : A → Ans B) → Stays src a a' → ((x : A) → Stays src (k x) (k' x)) → Stays src (next a k) (next a' k')
next_stays src (found x) a' k k' (inl q) h = absurd (found_refused (sym q.2))
next_stays src (found x) a' k k' (inr e) h = rw e (h x)
next_stays src (refused f) a' k k' (inl q) h = inl (q.0, q.1, cc)
next_stays src (refused f) a' k k' (inr e) h = rw e (inr refl)

also_stays : (src : List ℕ) (p : Part) (a a' : Ans Parsed) → Stays src a a' → Stays src (also p a) (also p a')
also_stays src p a a' h = next_stays src a a' _ _ h (λ r. inr refl)

piece_stable : (n : ℕ) → Stable (piece n)
unfolding piece
piece_stable n src more at = go (leb n (left src at)) refl
  where
    go : (t : Bool) → leb n (left src at) ≡ t → Stays src (piece n src at) (piece n (src ++ more) at)
    go true e =
        let h = leb-true n (left src at) e in
        let (size, s) = stands_of src at n (take n (drop at src)) h refl in
        inr (piece_of n _ size (stands_longer more s) ∙ sym (piece_of n _ size s))
    go false e = inl (at, n, rw e)

field_stable : (w : ℕ) (r : Rule) → Stable (field w r)
unfolding field
field_stable w r src more at = next_stays src (piece w src at) (piece w (src ++ more) at) _ _ (piece_stable w src more at) (λ xs. inr refl)

walk_stable : (item : Reader Parsed) → Stable item → (n : ℕ) → Stable (walk item n)
walk_stable item stable zero src more at = inr refl
walk_stable item stable (suc n) src more at = next_stays src (item src at) (item (src ++ more) at) _ _ (stable src more at) (λ r. walk_stable item stable n src more r.stops)

list_stable : (m : ℕ) (item : Reader Parsed) → Stable item → Stable (list m item)
unfolding list
list_stable m item stable src more at =
    next_stays src (field 4 (count_to m) src at) (field 4 (count_to m) (src ++ more) at) _ _ (field_stable 4 (count_to m) src more at)
    (λ n. walk_stable item stable n src more (at + 4))

-- more bytes behind do not change the answer of the reader, unless it is Short
pub read_stable : (l : Layout) → Stable (λ s a. read l s a)
unfolding read
read_stable stop src more at = inr refl
read_stable (no_arm v) src more at = inr refl
read_stable (arm v t l) src more at = also_stays src (tag t) (read l src at) (read l (src ++ more) at) (read_stable l src more at)
read_stable (number w r k) src more at =
    next_stays src (field w r src at) (field w r (src ++ more) at) _ _ (field_stable w r src more at)
    (λ n. also_stays src (num n) _ _ (read_stable (k n) src more (at + w)))
read_stable (plain n l) src more at =
    next_stays src (piece n src at) (piece n (src ++ more) at) _ _ (piece_stable n src more at)
    (λ xs. also_stays src (span at n) _ _ (read_stable l src more (at + n)))
read_stable (buffer w m l) src more at =
    next_stays src (field w (length_to m) src at) (field w (length_to m) (src ++ more) at) _ _ (field_stable w (length_to m) src more at)
    (λ n. next_stays src (piece n src (at + w)) (piece n (src ++ more) (at + w)) _ _ (piece_stable n src more (at + w))
    (λ xs. also_stays src (span (at + w) n) _ _ (read_stable l src more (at + w + n))))
read_stable (counted m i l) src more at =
    next_stays src (list m (λ s a. read i s a) src at) (list m (λ s a. read i s a) (src ++ more) at) _ _ (list_stable m (λ s a. read i s a) (read_stable i) src more at)
    (λ e. also_stays src (span at (e - at)) _ _ (read_stable l src more e))

-- a record that was found stays
pub stays_found : (l : Layout) (src more : List ℕ) (at : ℕ) {r : Parsed} → read l src at ≡ found r → read l (src ++ more) at ≡ found r
stays_found l src more at {r} p = go (read_stable l src more at)
  where
    go : Stays src (read l src at) (read l (src ++ more) at) → read l (src ++ more) at ≡ found r
    go (inl q) = absurd (found_refused (sym q.2 ∙ p))
    go (inr e) = e ∙ p

-- a refusal that is not Short stays
pub stays_refused : (l : Layout) (src more : List ℕ) (at : ℕ) {f : Refusal} → read l src at ≡ refused f → (f.fault ≡ Short → ⊥) → read l (src ++ more) at ≡ refused f
stays_refused l src more at {f} p h = go (read_stable l src more at)
  where
    go : Stays src (read l src at) (read l (src ++ more) at) → read l (src ++ more) at ≡ refused f
    go (inl q) = absurd (h (ap (λ f. f.fault) (refused_same (sym p ∙ q.2))))
    go (inr e) = e ∙ p

-- what is read ends in the input: a record that goes on behind its end is not found there
pub cut_not_found : (l : Layout) (before xs : List ℕ) (y : ℕ) (ys : List ℕ) {ps : List Part} → Bytes (before ++ xs)
    → read l (before ++ xs) (length before) ≡ parsed ps (length before + length (xs ++ (y ∷ ys))) → ⊥
cut_not_found l before xs y ys b p =
    let size = length-append before xs in
    let s = read_sound l (before ++ xs) (length before) _ b p in
    omega (arith, s.ends, stands_left s.stands, length-append xs (y ∷ ys))

-- the bytes of a cut record, and those in front of it
pub cut_bytes : {l : Layout} {ts : List Token} (before xs : List ℕ) (y : ℕ) (ys : List ℕ) → Bytes before → Spells l ts (xs ++ (y ∷ ys)) → Bytes (before ++ xs)
cut_bytes before xs y ys b d = bytes_append before xs b (bytes_front xs (y ∷ ys) (spells_bytes d))

-- where the record stands before it is cut
pub cut_stands : (before xs : List ℕ) (y : ℕ) (ys : List ℕ) → Stands ((before ++ xs) ++ (y ∷ ys)) (length before) (xs ++ (y ∷ ys))
cut_stands before xs y ys = rw append_assoc (rw append-nil at (stands_behind before (xs ++ (y ∷ ys)) []))

-- a record that is cut is Short: xs stands at the end of the input, and the record goes on
pub cut_short : {l : Layout} {ts : List Token} (before xs : List ℕ) (y : ℕ) (ys : List ℕ) → Bytes before → Spells l ts (xs ++ (y ∷ ys)) → IsShort (before ++ xs) (read l (before ++ xs) (length before))
cut_short {l} {ts} before xs y ys b d = go (read_stable l (before ++ xs) (y ∷ ys) (length before))
  where
    go : Stays (before ++ xs) (read l (before ++ xs) (length before)) (read l ((before ++ xs) ++ (y ∷ ys)) (length before)) → IsShort (before ++ xs) (read l (before ++ xs) (length before))
    go (inl q) = q
    go (inr e) = absurd (cut_not_found l before xs y ys (cut_bytes before xs y ys b d) (sym e ∙ read_complete d (cut_stands before xs y ys)))
