-- What was read is written back as it stood; what is written is spelled, and so is read back. Assumes nothing.
use Prim.Native.Nat.{ℕ, ◌+◌, ◌-◌, ◌^◌, ◌≤◌, ◌<◌}
use native.Mathlib.Nat.{zero-add}
use native.Mathlib.Omega.{arith}
use mathlib.Core.Path.{◌≡◌, refl, sym, ap, ◌∙◌}
use mathlib.Core.Bool.{true, ◌&&◌}
use mathlib.Core.List.{List, [], ◌∷◌, ◌++◌, append-nil}
use lib.ListN.{length, take, drop}
use lib.Seq.{take_all}
use lib.Dec.{leb, ltb, eqb}
use borrow.Author.Tests.{le-leb, lt-ltb, eq-eqb, leb-true, ltb-true, eqb-true}
use Rattle.std.proofs.lemmas.Bool.{and_parts}
use Rattle.wire.specs.Bytes.{Bytes, digits}
use Rattle.wire.specs.Layout.{Rule, Layout, stop, no_arm, arm, number, plain, buffer, counted, length_to, allows}
use Rattle.wire.specs.Records.{Part, num, tag, span, Ans, found, refused, Parsed, parsed}
use Rattle.wire.specs.Reading.{list, read}
use Rattle.wire.specs.Grammar.{Token, bytes, Spells, Items, ends, holds, says, shows, sizes, counts, placed, shown, Stands}
use Rattle.wire.specs.Writing.{cut, spelt, whole, moved, ahead, lay}
use Rattle.wire.proofs.Digits.{length_digits}
use Rattle.wire.proofs.Stand.{stands_of, stands_same, stands_end, stands_bytes, stands_start, stands_front, stands_back}
use Rattle.wire.proofs.Steps.{found_refused, found_same, next_found, when_found}
use Rattle.wire.proofs.Complete.{list_of, read_complete, walk_complete, placed_shows}
use Rattle.wire.proofs.Sound.{list_sound, read_sound}
use Rattle.wire.proofs.Prefix.{starts_read}

-- ---- the writer's steps, at what can be written

pub spelt_of : (w : ℕ) (r : Rule) (n at : ℕ) → n < 256 ^ w → allows r n ≡ true → spelt w r n at ≡ found (digits w n)
unfolding spelt
spelt_of w r n at h a = rw (a, lt-ltb n (256 ^ w) h)

-- what stands in the source can be cut out of it
cut_of : {src : List ℕ} {start : ℕ} (xs : List ℕ) (n at : ℕ) → length xs ≡ n → start ≤ length src → Stands src start xs → cut src start n at ≡ found xs
unfolding cut
cut_of {src} {start} xs n at h i s = rw (le-leb (start + n) (length src) (stands_end n h i s), stands_same n h s)

-- a spelled list is whole
pub whole_of : {i : Layout} {n : ℕ} {ys : List ℕ} (m : ℕ) (xs : List ℕ) → n < 256 ^ 4 → n ≤ m → xs ≡ digits 4 n ++ ys → Items i n ys → whole m i xs ≡ found xs
unfolding whole
whole_of {i} {n} {ys} m xs h le c is =
    let s : Stands xs 0 xs = rw append-nil at (stands_start xs []) in
    rw (list_of m (λ s a. read i s a) n xs ys h le c s (walk_complete is (stands_back (digits 4 n) ys (length_digits 4 n) s c)), zero-add, eq-eqb (length xs) (length xs) refl)

-- what is spelled in the source is written as it stands there
pub lay_complete : {l : Layout} {ts : List Token} {bs src : List ℕ} {start : ℕ} (d : Spells l ts bs) (at : ℕ) → start ≤ length src → Stands src start bs → lay l (placed d start) src at ≡ found bs
unfolding lay
lay_complete ends at i s = refl
lay_complete (holds {v} {t} d) at i s = rw (eq-eqb t t refl) (lay_complete d at i s)
lay_complete (says {w} {r} {cs = cs} n h a e d) at i s =
    rw (spelt_of w r n at h a, lay_complete d (at + w) (stands_end w (length_digits w n) i (stands_front (digits w n) cs s e)) (stands_back (digits w n) cs (length_digits w n) s e)) (ap found (sym e))
lay_complete (shows {n} {cs = cs} xs h b e d) at i s =
    let here = stands_front xs cs s e in
    rw (eq-eqb n n refl, cut_of xs n at h i here, lay_complete d (at + n) (stands_end n h i here) (stands_back xs cs h s e)) (ap found (sym e))
lay_complete (sizes {w} {m} {cs = cs} xs h le b e d) at i s =
    let t = stands_back (digits w (length xs)) (xs ++ cs) (length_digits w (length xs)) s e in
    let here = stands_front xs cs t refl in
    let j = stands_end w (length_digits w (length xs)) i (stands_front (digits w (length xs)) (xs ++ cs) s e) in
    rw (
      cut_of xs (length xs) at refl j here,
      spelt_of w (length_to m) (length xs) at h (le-leb (length xs) m le),
      lay_complete d (at + w + length xs) (stands_end (length xs) refl j here) (stands_back xs cs refl t refl),
    )
    (ap found (sym e))
lay_complete (counts {m} {xs = xs} {cs = cs} n h le c is e d) at i s =
    let here = stands_front xs cs s e in
    rw (cut_of xs (length xs) at refl i here, whole_of m xs h le c is, lay_complete d (at + length xs) (stands_end (length xs) refl i here) (stands_back xs cs refl s e)) (ap found (sym e))

-- what was read is written back: the bytes of the record, as they stood
pub read_then_lay : (l : Layout) (src : List ℕ) (start at : ℕ) (r : Parsed) → Bytes src → start ≤ length src → read l src start ≡ found r
    → lay l r.parts src at ≡ found (take (r.stops - start) (drop start src))
read_then_lay l src start at r b i p =
    let d = read_sound l src start r b p in
    let parts : r.parts ≡ placed d.spells start = ap (λ q. q.parts) (found_same (sym p ∙ starts_read d)) in
    let size : r.stops - start ≡ length d.front = omega (arith, d.ends) in
    rw (parts, size, stands_same (length d.front) refl d.stands) (lay_complete d.spells at i d.stands)

-- ---- the writer's steps, where they wrote something

ahead_found : (a k : Ans (List ℕ)) {bs : List ℕ} → ahead a k ≡ found bs → (xs : List ℕ) × (ys : List ℕ) × (a ≡ found xs) × (k ≡ found ys) × (bs ≡ xs ++ ys)
ahead_found a k p =
    let (xs, e, q) = next_found a _ p in
    let (ys, f, g) = next_found k _ q in
    (xs, ys, e, f, sym (found_same g))

pub spelt_found : (w : ℕ) (r : Rule) (n at : ℕ) {xs : List ℕ} → spelt w r n at ≡ found xs → (n < 256 ^ w) × (allows r n ≡ true) × (xs ≡ digits w n)
unfolding spelt
spelt_found w r n at p =
    let (t, e) = when_found (allows r n && ltb n (256 ^ w)) _ _ p in
    let (a, f) = and_parts (allows r n) (ltb n (256 ^ w)) t in
    (ltb-true n (256 ^ w) f, a, sym (found_same e))

pub cut_found : (src : List ℕ) (start len at : ℕ) {xs : List ℕ} → cut src start len at ≡ found xs → (length xs ≡ len) × Stands src start xs × (take len (drop start src) ≡ xs)
unfolding cut
cut_found src start len at {xs} p =
    let (t, e) = when_found (leb (start + len) (length src)) _ _ p in
    let (size, s) = stands_of src start len xs (omega (arith, leb-true (start + len) (length src) t)) (found_same e) in
    (size, s, found_same e)

pub moved_found : {A : Type 0} (at : ℕ) (a : Ans A) {x : A} → moved at a ≡ found x → a ≡ found x
moved_found at (found y) p = p
moved_found at (refused f) p = absurd (found_refused p)

pub whole_found : (m : ℕ) (i : Layout) (xs : List ℕ) {ys : List ℕ} → Bytes xs → whole m i xs ≡ found ys
    → (n : ℕ) × (zs : List ℕ) × (n < 256 ^ 4) × (n ≤ m) × (xs ≡ digits 4 n ++ zs) × Items i n zs × (ys ≡ xs)
unfolding whole
whole_found m i xs b p =
    let (e, listed, q) = next_found (list m (λ s a. read i s a) xs 0) _ p in
    let (t, same) = when_found (eqb e (length xs)) _ _ q in
    let d = list_sound m i (read_sound i) xs 0 b listed in
    let size : length (digits 4 d.count ++ d.items) ≡ length xs = omega (arith, eqb-true e (length xs) t, d.ends) in
    let all : digits 4 d.count ++ d.items ≡ xs = sym (stands_same _ refl d.stands) ∙ take_all (length (digits 4 d.count ++ d.items)) xs (omega arith) in
    (d.count, d.items, d.fits, d.most, sym all, d.spells, sym (found_same same))

-- what the writer lays out for a layout is spelled, and shows what the parts show
abbrev pub Lays : Layout → Type 0
Lays l = (ps : List Part) (src : List ℕ) (at : ℕ) (bs : List ℕ) → Bytes src → lay l ps src at ≡ found bs → Spells l (shown src ps) bs

stop_lays : Lays stop
unfolding lay
stop_lays [] src at bs b p = rw (← found_same p) ends
stop_lays (x ∷ ps) src at bs b p = absurd (found_refused p)

arm_lays : (v t : ℕ) (l : Layout) → Lays l → Lays (arm v t l)
unfolding lay
arm_lays v t l lays [] src at bs b p = absurd (found_refused p)
arm_lays v t l lays (num n ∷ ps) src at bs b p = absurd (found_refused p)
arm_lays v t l lays (tag u ∷ ps) src at bs b p =
    let (e, q) = when_found (eqb u t) _ _ p in
    rw (eqb-true u t e) (holds (lays ps src at bs b q))
arm_lays v t l lays (span start len ∷ ps) src at bs b p = absurd (found_refused p)

number_lays : (w : ℕ) (r : Rule) (k : ℕ → Layout) → ((n : ℕ) → Lays (k n)) → Lays (number w r k)
unfolding lay
number_lays w r k lays [] src at bs b p = absurd (found_refused p)
number_lays w r k lays (num n ∷ ps) src at bs b p =
    let (xs, ys, e, f, all) = ahead_found (spelt w r n at) (lay (k n) ps src (at + w)) p in
    let (h, a, same) = spelt_found w r n at e in
    says n h a (all ∙ ap (λ xs. xs ++ ys) same) (lays n ps src (at + w) ys b f)
number_lays w r k lays (tag t ∷ ps) src at bs b p = absurd (found_refused p)
number_lays w r k lays (span start len ∷ ps) src at bs b p = absurd (found_refused p)

plain_lays : (n : ℕ) (l : Layout) → Lays l → Lays (plain n l)
unfolding lay
plain_lays n l lays [] src at bs b p = absurd (found_refused p)
plain_lays n l lays (num m ∷ ps) src at bs b p = absurd (found_refused p)
plain_lays n l lays (tag t ∷ ps) src at bs b p = absurd (found_refused p)
plain_lays n l lays (span start len ∷ ps) src at bs b p =
    let (t, q) = when_found (eqb len n) _ _ p in
    let (xs, ys, e, f, all) = ahead_found (cut src start len at) (lay l ps src (at + n)) q in
    let (size, s, same) = cut_found src start len at e in
    rw same (shows xs (size ∙ eqb-true len n t) (stands_bytes b s) all (lays ps src (at + n) ys b f))

buffer_spells : (w m : ℕ) (l : Layout) (xs : List ℕ) (n : ℕ) (ts : List Token) {ys bs zs : List ℕ} → Spells l ts ys → n < 256 ^ w → n ≤ m → length xs ≡ n → Bytes xs → zs ≡ xs
    → bs ≡ digits w n ++ (xs ++ ys) → Spells (buffer w m l) (bytes zs ∷ ts) bs
buffer_spells w m l xs n ts {ys} {bs} d h le size b same e =
    let split : bs ≡ digits w (length xs) ++ (xs ++ ys) = rw size e in
    let fits : length xs < 256 ^ w = omega arith in
    let most : length xs ≤ m = omega arith in
    rw same (sizes xs fits most b split d)

buffer_lays : (w m : ℕ) (l : Layout) → Lays l → Lays (buffer w m l)
unfolding lay
buffer_lays w m l lays [] src at bs b p = absurd (found_refused p)
buffer_lays w m l lays (num n ∷ ps) src at bs b p = absurd (found_refused p)
buffer_lays w m l lays (tag t ∷ ps) src at bs b p = absurd (found_refused p)
buffer_lays w m l lays (span start len ∷ ps) src at bs b p =
    let (xs, e, q) = next_found (cut src start len at) _ p in
    let (ds, zs, f, g, all) = ahead_found (spelt w (length_to m) len at) (ahead (found xs) (lay l ps src (at + w + len))) q in
    let (xs', ys, here, rest, join) = ahead_found (found xs) (lay l ps src (at + w + len)) g in
    let (size, s, same) = cut_found src start len at e in
    let (h, a, spelling) = spelt_found w (length_to m) len at f in
    buffer_spells w m l xs len (shown src ps) (lays ps src (at + w + len) ys b rest) h (leb-true len m a) size (stands_bytes b s) same (cc)

counted_lays : (m : ℕ) (i l : Layout) → Lays l → Lays (counted m i l)
unfolding lay
counted_lays m i l lays [] src at bs b p = absurd (found_refused p)
counted_lays m i l lays (num n ∷ ps) src at bs b p = absurd (found_refused p)
counted_lays m i l lays (tag t ∷ ps) src at bs b p = absurd (found_refused p)
counted_lays m i l lays (span start len ∷ ps) src at bs b p =
    let (xs, e, q) = next_found (cut src start len at) _ p in
    let (size, s, same) = cut_found src start len at e in
    let (ys, cs, f, g, all) = ahead_found (moved at (whole m i xs)) (lay l ps src (at + len)) q in
    let (n, zs, h, le, split, items, eq) = whole_found m i xs (stands_bytes b s) (moved_found at (whole m i xs) f) in
    rw same (counts n h le split items (all ∙ ap (λ t. t ++ cs) eq) (lays ps src (at + len) cs b g))

-- what the writer lays out is spelled, and shows what the parts show of the source
pub lay_sound : (l : Layout) → Lays l
unfolding lay
lay_sound stop = stop_lays
lay_sound (no_arm v) = λ ps src at bs b p. absurd (found_refused p)
lay_sound (arm v t l) = arm_lays v t l (lay_sound l)
lay_sound (number w r k) = number_lays w r k (λ n. lay_sound (k n))
lay_sound (plain n l) = plain_lays n l (lay_sound l)
lay_sound (buffer w m l) = buffer_lays w m l (lay_sound l)
lay_sound (counted m i l) = counted_lays m i l (lay_sound l)

-- so it is read back, wherever it stands, and shows the same there
pub lay_then_read : (l : Layout) (ps : List Part) (src : List ℕ) (at : ℕ) {bs : List ℕ} → Bytes src → lay l ps src at ≡ found bs
    → (input : List ℕ) (start : ℕ) → Stands input start bs
    → (qs : List Part) × (read l input start ≡ parsed qs (start + length bs)) × (shown input qs ≡ shown src ps)
lay_then_read l ps src at b p input start s =
    let d = lay_sound l ps src at _ b p in
    (placed d start, read_complete d s, placed_shows d s)
