-- A record is written exactly when its spans lie in the source and what it shows is a legal record; it is as large as its fields. Assumes nothing.
use Prim.Native.Nat.{ℕ, ◌+◌, ◌≤◌}
use native.Mathlib.Omega.{arith}
use mathlib.Core.Path.{◌≡◌, refl, sym, ap, ◌∙◌}
use mathlib.Core.Bool.{true}
use mathlib.Core.List.{List, [], ◌∷◌}
use lib.ListN.{length, take, drop, length-append}
use lib.Dec.{leb, eqb}
use borrow.Author.Tests.{le-leb, leb-true, eq-eqb}
use Rattle.wire.specs.Layout.{Rule, Layout, stop, no_arm, arm, number, plain, buffer, counted, length_to}
use Rattle.wire.specs.Records.{Part, num, tag, span, Ans, found}
use Rattle.wire.specs.Within.{Within}
use Rattle.wire.specs.Reading.{list, read}
use Rattle.wire.specs.Grammar.{Token, value, held, bytes, Spells, ends, holds, says, shows, sizes, counts, shown}
use Rattle.wire.specs.Writing.{cut, spelt, whole, moved, ahead, lay}
use Rattle.wire.proofs.Digits.{length_digits}
use Rattle.wire.proofs.Steps.{clash, found_refused, found_same, next_found, when_found}
use Rattle.wire.proofs.Cuts.{cut_length, cut_there}
use Rattle.wire.proofs.Written.{spelt_of, whole_of, spelt_found, cut_found, moved_found}
use Rattle.copies.specs.Sizes.{sizes_of}

-- ---- what is written: its size, and where its bytes came from

-- two that are written, one behind the other
ahead_size : (a k : Ans (List ℕ)) {bs : List ℕ} → ahead a k ≡ found bs
    → (xs : List ℕ) × (ys : List ℕ) × (a ≡ found xs) × (k ≡ found ys) × (length bs ≡ length xs + length ys)
ahead_size a k p =
    let (xs, e, q) = next_found a _ p in
    let (ys, f, g) = next_found k _ q in
    (xs, ys, e, f, ap length (sym (found_same g)) ∙ length-append xs ys)

cut_size : (src : List ℕ) (start len at : ℕ) {xs : List ℕ} → cut src start len at ≡ found xs → (start + len ≤ length src) × (length xs ≡ len)
unfolding cut
cut_size src start len at p =
    let (t, e) = when_found (leb (start + len) (length src)) _ _ p in
    (leb-true (start + len) (length src) t, (cut_found src start len at p).0)

whole_size : (m : ℕ) (i : Layout) (xs : List ℕ) {ys : List ℕ} → whole m i xs ≡ found ys → length ys ≡ length xs
unfolding whole
whole_size m i xs p =
    let (e, listed, q) = next_found (list m (λ s a. read i s a) xs 0) _ p in
    let (t, same) = when_found (eqb e (length xs)) _ _ q in
    ap length (sym (found_same same))

-- the bytes that are written are as many as the fields take, and the spans that they came from lie in the source
abbrev pub Laid : Layout → Type 0
Laid l = (ps : List Part) (src : List ℕ) (at : ℕ) (bs : List ℕ) → lay l ps src at ≡ found bs → (length bs ≡ sizes_of l ps) × Within src ps

stop_laid : Laid stop
unfolding lay sizes_of
stop_laid [] src at bs p = (ap length (sym (found_same p)), tt)
stop_laid (x ∷ ps) src at bs p = absurd (found_refused p)

arm_laid : (v t : ℕ) (l : Layout) → Laid l → Laid (arm v t l)
unfolding lay sizes_of
arm_laid v t l laid [] src at bs p = absurd (found_refused p)
arm_laid v t l laid (num n ∷ ps) src at bs p = absurd (found_refused p)
arm_laid v t l laid (tag u ∷ ps) src at bs p = laid ps src at bs (when_found (eqb u t) _ _ p).1
arm_laid v t l laid (span start len ∷ ps) src at bs p = absurd (found_refused p)

number_laid : (w : ℕ) (r : Rule) (k : ℕ → Layout) → ((n : ℕ) → Laid (k n)) → Laid (number w r k)
unfolding lay sizes_of
number_laid w r k laid [] src at bs p = absurd (found_refused p)
number_laid w r k laid (num n ∷ ps) src at bs p =
    let (xs, ys, e, f, all) = ahead_size (spelt w r n at) (lay (k n) ps src (at + w)) p in
    let (rest, within) = laid n ps src (at + w) ys f in
    let (fits, a, same) = spelt_found w r n at e in
    (omega (arith, ap length same, length_digits w n), within)
number_laid w r k laid (tag t ∷ ps) src at bs p = absurd (found_refused p)
number_laid w r k laid (span start len ∷ ps) src at bs p = absurd (found_refused p)

plain_laid : (n : ℕ) (l : Layout) → Laid l → Laid (plain n l)
unfolding lay sizes_of
plain_laid n l laid [] src at bs p = absurd (found_refused p)
plain_laid n l laid (num m ∷ ps) src at bs p = absurd (found_refused p)
plain_laid n l laid (tag t ∷ ps) src at bs p = absurd (found_refused p)
plain_laid n l laid (span start len ∷ ps) src at bs p =
    let (t, q) = when_found (eqb len n) _ _ p in
    let (xs, ys, e, f, all) = ahead_size (cut src start len at) (lay l ps src (at + n)) q in
    let (rest, within) = laid ps src (at + n) ys f in
    let (here, size) = cut_size src start len at e in
    (omega arith, (here, within))

buffer_laid : (w m : ℕ) (l : Layout) → Laid l → Laid (buffer w m l)
unfolding lay sizes_of
buffer_laid w m l laid [] src at bs p = absurd (found_refused p)
buffer_laid w m l laid (num n ∷ ps) src at bs p = absurd (found_refused p)
buffer_laid w m l laid (tag t ∷ ps) src at bs p = absurd (found_refused p)
buffer_laid w m l laid (span start len ∷ ps) src at bs p =
    let (xs, e, q) = next_found (cut src start len at) _ p in
    let (here, size) = cut_size src start len at e in
    let (ds, zs, f, g, all) = ahead_size (spelt w (length_to m) len at) (ahead (found xs) (lay l ps src (at + w + len))) q in
    let (xs', ys, same, h, both) = ahead_size (found xs) (lay l ps src (at + w + len)) g in
    let (rest, within) = laid ps src (at + w + len) ys h in
    let (fits, a, digit) = spelt_found w (length_to m) len at f in
    (omega (arith, ap length digit, length_digits w len, ap length (found_same same)), (here, within))

counted_laid : (m : ℕ) (i l : Layout) → Laid l → Laid (counted m i l)
unfolding lay sizes_of
counted_laid m i l laid [] src at bs p = absurd (found_refused p)
counted_laid m i l laid (num n ∷ ps) src at bs p = absurd (found_refused p)
counted_laid m i l laid (tag t ∷ ps) src at bs p = absurd (found_refused p)
counted_laid m i l laid (span start len ∷ ps) src at bs p =
    let (xs, e, q) = next_found (cut src start len at) _ p in
    let (here, size) = cut_size src start len at e in
    let (ys, cs, f, g, all) = ahead_size (moved at (whole m i xs)) (lay l ps src (at + len)) q in
    let (rest, within) = laid ps src (at + len) cs g in
    (omega (arith, whole_size m i xs (moved_found at (whole m i xs) f)), (here, within))

pub lay_laid : (l : Layout) → Laid l
unfolding lay
lay_laid stop = stop_laid
lay_laid (no_arm v) = λ ps src at bs p. absurd (found_refused p)
lay_laid (arm v t l) = arm_laid v t l (lay_laid l)
lay_laid (number w r k) = number_laid w r k (λ n. lay_laid (k n))
lay_laid (plain n l) = plain_laid n l (lay_laid l)
lay_laid (buffer w m l) = buffer_laid w m l (lay_laid l)
lay_laid (counted m i l) = counted_laid m i l (lay_laid l)

-- ---- what may be written

-- parts that show nothing are none
shows_none : (src : List ℕ) (ps : List Part) → shown src ps ≡ [] → ps ≡ []
shows_none src [] e = refl
shows_none src (p ∷ ps) e = absurd (clash (cc))

-- parts that show a token, and more behind it, are a part that shows it, and others
module _ (src : List ℕ) {ts : List Token} where
  shows_held : (ps : List Part) {t : ℕ} → shown src ps ≡ held t ∷ ts → Within src ps
      → (qs : List Part) × (ps ≡ tag t ∷ qs) × (shown src qs ≡ ts) × Within src qs
  shows_held [] e h = absurd (clash (cc))
  shows_held (num n ∷ ps) e h = absurd (clash (cc))
  shows_held (tag u ∷ ps) e h = (ps, cc, cc, h)
  shows_held (span start len ∷ ps) e h = absurd (clash (cc))

  shows_value : (ps : List Part) {n : ℕ} → shown src ps ≡ value n ∷ ts → Within src ps
      → (qs : List Part) × (ps ≡ num n ∷ qs) × (shown src qs ≡ ts) × Within src qs
  shows_value [] e h = absurd (clash (cc))
  shows_value (num m ∷ ps) e h = (ps, cc, cc, h)
  shows_value (tag u ∷ ps) e h = absurd (clash (cc))
  shows_value (span start len ∷ ps) e h = absurd (clash (cc))

  shows_bytes : (ps : List Part) {xs : List ℕ} → shown src ps ≡ bytes xs ∷ ts → Within src ps
      → (start : ℕ) × (qs : List Part) × (ps ≡ span start (length xs) ∷ qs) × (shown src qs ≡ ts) × Within src qs × ((at : ℕ) → cut src start (length xs) at ≡ found xs)
  shows_bytes [] e h = absurd (clash (cc))
  shows_bytes (num n ∷ ps) e h = absurd (clash (cc))
  shows_bytes (tag u ∷ ps) e h = absurd (clash (cc))
  shows_bytes (span start len ∷ ps) {xs} e h =
      let same : take len (drop start src) ≡ xs = cc in
      let size : len ≡ length xs = sym (cut_length src start len 0 h.0) ∙ ap length same in
      (start, ps, ap (λ n. span start n ∷ ps) size, cc, h.1, λ at. rw (← size) (cut_there src start len at h.0 ∙ ap found same))

-- parts whose spans lie in the source, and that show a legal record, are written as that record
pub legal_laid : {l : Layout} {ts : List Token} {bs : List ℕ} → Spells l ts bs → (ps : List Part) (src : List ℕ) (at : ℕ) → shown src ps ≡ ts → Within src ps
    → lay l ps src at ≡ found bs
unfolding lay
legal_laid ends ps src at e h = rw (shows_none src ps e)
legal_laid (holds {v} {t} d) ps src at e h =
    let (qs, same, rest, within) = shows_held src ps e h in
    rw (same, eq-eqb t t refl) (legal_laid d qs src at rest within)
legal_laid (says {w} {r} n fits a all d) ps src at e h =
    let (qs, same, rest, within) = shows_value src ps e h in
    rw (same, spelt_of w r n at fits a, legal_laid d qs src (at + w) rest within) (ap found (sym all))
legal_laid (shows {n} xs size b all d) ps src at e h =
    let (start, qs, same, rest, within, here) = shows_bytes src ps e h in
    rw (same, size, eq-eqb n n refl, rw size at (here at), legal_laid d qs src (at + n) rest within) (ap found (sym all))
legal_laid (sizes {w} {m} xs fits le b all d) ps src at e h =
    let (start, qs, same, rest, within, here) = shows_bytes src ps e h in
    let a : leb (length xs) m ≡ true = le-leb (length xs) m le in
    rw (same, here at, spelt_of w (length_to m) (length xs) at fits a, legal_laid d qs src (at + w + length xs) rest within) (ap found (sym all))
legal_laid (counts {m} {xs = xs} n fits le c is all d) ps src at e h =
    let (start, qs, same, rest, within, here) = shows_bytes src ps e h in
    rw (same, here at, whole_of m xs fits le c is, legal_laid d qs src (at + length xs) rest within) (ap found (sym all))
