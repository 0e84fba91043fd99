-- What is read is spelled. Assumes nothing.
use Prim.Native.Nat.{ℕ, zero, suc, ◌+◌, ◌-◌, ◌^◌, ◌≤◌, ◌<◌}
use native.Mathlib.Omega.{arith}
use mathlib.Core.Path.{◌≡◌, refl, sym, ◌∙◌}
use mathlib.Core.Bool.{true}
use mathlib.Core.List.{List, [], ◌∷◌, ◌++◌}
use lib.ListN.{length, length-append}
use borrow.Author.Tests.{leb-true}
use Rattle.wire.specs.Bytes.{Bytes, digits}
use Rattle.wire.specs.Layout.{Rule, Layout, stop, no_arm, arm, number, plain, buffer, counted, length_to, count_to, allows}
use Rattle.wire.specs.Records.{num, tag, span, found, Parsed}
use Rattle.wire.specs.Reading.{piece, field, walk, list, read}
use Rattle.wire.specs.Grammar.{value, held, bytes, Items, ends, holds, says, shows, sizes, counts, none, more, Stands, Starts}
use Rattle.wire.proofs.Digits.{length_digits}
use Rattle.wire.proofs.Stand.{stands_none, stands_join, stands_bytes}
use Rattle.wire.proofs.Steps.{found_refused, next_found, also_found, piece_found, field_found}

-- n spelled items stand in src from `at` to e
pub record Runs (i : Layout) (n : ℕ) (src : List ℕ) (at e : ℕ) : Type 0 where
  pub front : List ℕ
  pub spells : Items i n front
  pub stands : Stands src at front
  pub ends : e ≡ at + length front

-- a spelled list, of at most m items, stands in src from `at` to e
pub record Listed (m : ℕ) (i : Layout) (src : List ℕ) (at e : ℕ) : Type 0 where
  pub count : ℕ
  pub items : List ℕ
  pub fits : count < 256 ^ 4
  pub most : count ≤ m
  pub spells : Items i count items
  pub stands : Stands src at (digits 4 count ++ items)
  pub ends : e ≡ at + length (digits 4 count ++ items)

-- ---- a field that stands there, and a spelled record behind it, are a spelled record

say_starts : {w at e : ℕ} {r : Rule} {k : ℕ → Layout} {src : List ℕ} (n : ℕ) → n < 256 ^ w → allows r n ≡ true → Stands src at (digits w n)
    → Starts (k n) src (at + w) e → Starts (number w r k) src at e
say_starts {w} n h a s d =
    record {
      tokens = value n ∷ d.tokens;
      front = digits w n ++ d.front;
      spells = says n h a refl d.spells;
      stands = stands_join (digits w n) d.front (length_digits w n) s d.stands;
      ends = omega (arith, d.ends, length-append (digits w n) d.front, length_digits w n);
    }

show_starts : {n at e : ℕ} {l : Layout} {src : List ℕ} (xs : List ℕ) → length xs ≡ n → Bytes xs → Stands src at xs
    → Starts l src (at + n) e → Starts (plain n l) src at e
show_starts xs h b s d =
    record {
      tokens = bytes xs ∷ d.tokens;
      front = xs ++ d.front;
      spells = shows xs h b refl d.spells;
      stands = stands_join xs d.front h s d.stands;
      ends = omega (arith, d.ends, length-append xs d.front);
    }

size_starts : {w m at e : ℕ} {l : Layout} {src : List ℕ} (n : ℕ) (xs : List ℕ) → n < 256 ^ w → n ≤ m → length xs ≡ n → Bytes xs
    → Stands src at (digits w n) → Stands src (at + w) xs → Starts l src (at + w + n) e → Starts (buffer w m l) src at e
size_starts {w} {m} n xs h le size b s t d =
    let spelt : digits w n ++ (xs ++ d.front) ≡ digits w (length xs) ++ (xs ++ d.front) = rw size in
    let fits : length xs < 256 ^ w = omega arith in
    let most : length xs ≤ m = omega arith in
    record {
      tokens = bytes xs ∷ d.tokens;
      front = digits w n ++ (xs ++ d.front);
      spells = sizes xs fits most b spelt d.spells;
      stands = stands_join (digits w n) (xs ++ d.front) (length_digits w n) s (stands_join xs d.front size t d.stands);
      ends = omega (arith, d.ends, length-append (digits w n) (xs ++ d.front), length-append xs d.front, length_digits w n);
    }

count_starts : {m at e f : ℕ} {i l : Layout} {src : List ℕ} → Listed m i src at e → Starts l src e f → Starts (counted m i l) src at f
count_starts {at = at} {src = src} x d =
    let xs : List ℕ = digits 4 x.count ++ x.items in
    let behind : Stands src (at + length xs) d.front = rw x.ends at d.stands in
    record {
      tokens = bytes xs ∷ d.tokens;
      front = xs ++ d.front;
      spells = counts x.count x.fits x.most refl x.spells refl d.spells;
      stands = stands_join xs d.front refl x.stands behind;
      ends = omega (arith, d.ends, x.ends, length-append xs d.front);
    }

more_runs : {n at e f : ℕ} {i : Layout} {src : List ℕ} → Starts i src at e → Runs i n src e f → Runs i (suc n) src at f
more_runs {at = at} {src = src} d ds =
    let behind : Stands src (at + length d.front) ds.front = rw d.ends at ds.stands in
    record {
      front = d.front ++ ds.front;
      spells = more refl d.spells ds.spells;
      stands = stands_join d.front ds.front refl d.stands behind;
      ends = omega (arith, d.ends, ds.ends, length-append d.front ds.front);
    }

-- ---- what is read of the layout l is spelled: for each kind of layout, if it is so of its parts

abbrev pub Sound : Layout → Type 0
Sound l = (src : List ℕ) (at : ℕ) (r : Parsed) → Bytes src → read l src at ≡ found r → Starts l src at r.stops

stop_sound : Sound stop
unfolding read
stop_sound src at r b p =
    let e : at ≡ r.stops = cc in
    record { tokens = []; front = []; spells = ends; stands = stands_none src at; ends = omega arith }

arm_sound : (v t : ℕ) (l : Layout) → Sound l → Sound (arm v t l)
unfolding read
arm_sound v t l sound src at r b p =
    let (q, e, f) = also_found (tag t) (read l src at) p in
    let d = sound src at q b e in
    record { tokens = held t ∷ d.tokens; front = d.front; spells = holds d.spells; stands = d.stands; ends = sym f ∙ d.ends }

number_sound : (w : ℕ) (r : Rule) (k : ℕ → Layout) → ((n : ℕ) → Sound (k n)) → Sound (number w r k)
unfolding read
number_sound w r k sound src at r' b p =
    let (n, e, p') = next_found (field w r src at) _ p in
    let (fits, a, s) = field_found w r src at b e in
    let (q, e', f) = also_found (num n) (read (k n) src (at + w)) p' in
    rw (← f) (say_starts n fits a s (sound n src (at + w) q b e'))

plain_sound : (n : ℕ) (l : Layout) → Sound l → Sound (plain n l)
unfolding read
plain_sound n l sound src at r b p =
    let (xs, e, p') = next_found (piece n src at) _ p in
    let (size, s) = piece_found n src at e in
    let (q, e', f) = also_found (span at n) (read l src (at + n)) p' in
    rw (← f) (show_starts xs size (stands_bytes b s) s (sound src (at + n) q b e'))

buffer_sound : (w m : ℕ) (l : Layout) → Sound l → Sound (buffer w m l)
unfolding read
buffer_sound w m l sound src at r b p =
    let (n, e, p') = next_found (field w (length_to m) src at) _ p in
    let (fits, a, s) = field_found w (length_to m) src at b e in
    let (xs, e', p'') = next_found (piece n src (at + w)) _ p' in
    let (size, t) = piece_found n src (at + w) e' in
    let (q, e'', f) = also_found (span (at + w) n) (read l src (at + w + n)) p'' in
    rw (← f) (size_starts n xs fits (leb-true n m a) size (stands_bytes b t) s t (sound src (at + w + n) q b e''))

walk_sound : (i : Layout) → Sound i → (n : ℕ) (src : List ℕ) (at : ℕ) {e : ℕ} → Bytes src → walk (λ s a. read i s a) n src at ≡ found e → Runs i n src at e
walk_sound i sound zero src at {e} b p = let q : at ≡ e = cc in record { front = []; spells = none; stands = stands_none src at; ends = omega arith }
walk_sound i sound (suc n) src at b p =
    let (r, e, p') = next_found (read i src at) _ p in
    let d = sound src at r b e in
    more_runs d (walk_sound i sound n src r.stops b p')

-- a list that is walked over is spelled
pub list_sound : (m : ℕ) (i : Layout) → Sound i → (src : List ℕ) (at : ℕ) {e : ℕ} → Bytes src → list m (λ s a. read i s a) src at ≡ found e → Listed m i src at e
unfolding list
list_sound m i sound src at b p =
    let (n, e, p') = next_found (field 4 (count_to m) src at) _ p in
    let (fits, a, s) = field_found 4 (count_to m) src at b e in
    let d = walk_sound i sound n src (at + 4) b p' in
    record {
      count = n;
      items = d.front;
      fits = fits;
      most = leb-true n m a;
      spells = d.spells;
      stands = stands_join (digits 4 n) d.front (length_digits 4 n) s d.stands;
      ends = omega (arith, d.ends, length-append (digits 4 n) d.front, length_digits 4 n);
    }

counted_sound : (m : ℕ) (i l : Layout) → Sound i → Sound l → Sound (counted m i l)
unfolding read
counted_sound m i l item sound src at r b p =
    let (e, listed, p') = next_found (list m (λ s a. read i s a) src at) _ p in
    let (q, p'', f) = also_found (span at (e - at)) (read l src e) p' in
    let x = list_sound m i item src at b listed in
    rw (← f) (count_starts x (sound src e q b p''))

-- by induction on the layout: what is read is spelled
pub read_sound : (l : Layout) → Sound l
unfolding read
read_sound stop = stop_sound
read_sound (no_arm v) = λ src at r b p. absurd (found_refused p)
read_sound (arm v t l) = arm_sound v t l (read_sound l)
read_sound (number w r k) = number_sound w r k (λ n. read_sound (k n))
read_sound (plain n l) = plain_sound n l (read_sound l)
read_sound (buffer w m l) = buffer_sound w m l (read_sound l)
read_sound (counted m i l) = counted_sound m i l (read_sound i) (read_sound l)
