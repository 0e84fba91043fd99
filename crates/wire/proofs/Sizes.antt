-- How large a record can be, by a law for each node of a layout: a bound, and a record that reaches it. Assumes nothing.
use Prim.Native.Nat.{ℕ, zero, suc, ◌+◌, ◌*◌, ◌^◌, ◌≤◌, ◌<◌}
use native.Mathlib.Nat.{mul-le-mul_right}
use native.Mathlib.Omega.{arith}
use mathlib.Core.Path.{◌≡◌, refl, ap}
use mathlib.Core.Bool.{true}
use mathlib.Core.List.{List, [], ◌∷◌, ◌++◌}
use lib.ListN.{length, replicate, length-append}
use Rattle.wire.specs.Bytes.{Bytes, digits}
use Rattle.wire.specs.Layout.{Rule, allows, Layout, stop, no_arm, arm, number, plain, buffer, counted, ◌then◌}
use Rattle.wire.specs.Grammar.{value, held, bytes, Items, ends, holds, says, shows, sizes, counts, none, more}
use Rattle.wire.specs.Sizes.{AtMost, Reaches}
use Rattle.wire.proofs.Digits.{length_digits}
use Rattle.wire.proofs.Then.{spells_then}
use Rattle.wire.proofs.Split.{no_arm_no_record, spells_split}

-- ---- no record is larger

pub stop_most : AtMost stop 0
stop_most ts bs ends = omega arith

pub no_arm_most : (v m : ℕ) → AtMost (no_arm v) m
no_arm_most v m ts bs d = absurd (no_arm_no_record d)

pub arm_most : {l : Layout} {m : ℕ} (v t : ℕ) → AtMost l m → AtMost (arm v t l) m
arm_most v t most ts bs (holds d) = most _ bs d

pub number_most : {k : ℕ → Layout} (w m : ℕ) (r : Rule) → ((n : ℕ) → allows r n ≡ true → AtMost (k n) m) → AtMost (number w r k) (w + m)
number_most w m r most ts bs (says {cs = cs} n h a e d) =
    omega (arith, ap length e, length-append (digits w n) cs, length_digits w n, most n a _ cs d)

pub plain_most : {l : Layout} (n m : ℕ) → AtMost l m → AtMost (plain n l) (n + m)
plain_most n m most ts bs (shows {cs = cs} xs h b e d) = omega (arith, ap length e, length-append xs cs, most _ cs d)

pub buffer_most : {l : Layout} (w b m : ℕ) → AtMost l m → AtMost (buffer w b l) (w + b + m)
buffer_most w b m most ts bs (sizes {cs = cs} xs h le y e d) =
    omega (arith, ap length e, length-append (digits w (length xs)) (xs ++ cs), length-append xs cs, length_digits w (length xs), most _ cs d)

items_most : {i : Layout} {n : ℕ} {bs : List ℕ} (m : ℕ) → AtMost i m → Items i n bs → length bs ≤ n * m
items_most m most none = omega arith
items_most m most (more {n = n} {xs = xs} {ys} e d ds) =
    let here : length xs ≤ m = most _ xs d in
    let rest : length ys ≤ n * m = items_most m most ds in
    omega (arith, ap length e, length-append xs ys)

pub counted_most : {i l : Layout} (c s m : ℕ) → AtMost i s → AtMost l m → AtMost (counted c i l) (4 + c * s + m)
counted_most c s m item most ts bs (counts {xs = xs} {ys} {cs} n h le p is e d) =
    let all : n * s ≤ c * s = mul-le-mul_right s le in
    omega (arith, ap length e, length-append xs cs, ap length p, length-append (digits 4 n) ys, length_digits 4 n, items_most s item is, most _ cs d)

pub then_most : (l k : Layout) (m n : ℕ) → AtMost l m → AtMost k n → AtMost (l then k) (m + n)
then_most l k m n most rest ts bs d =
    let x = spells_split l k d in
    omega (arith, ap length x.bytes, length-append x.front x.back, most _ x.front x.spells_first, rest _ x.back x.spells_second)

-- a bound may be widened
pub most_wider : {l : Layout} {m n : ℕ} → m ≤ n → AtMost l m → AtMost l n
most_wider h most ts bs d = omega (arith, most ts bs d)

-- ---- some record is so large

pub stop_reaches : Reaches stop 0
stop_reaches = record { tokens = []; bytes_of_record = []; spells = ends; size = refl }

pub arm_reaches : {l : Layout} {m : ℕ} (v t : ℕ) → Reaches l m → Reaches (arm v t l) m
arm_reaches v t x = record { tokens = held t ∷ x.tokens; bytes_of_record = x.bytes_of_record; spells = holds x.spells; size = x.size }

pub number_reaches : {k : ℕ → Layout} {m : ℕ} (w : ℕ) (r : Rule) (n : ℕ) → n < 256 ^ w → allows r n ≡ true → Reaches (k n) m → Reaches (number w r k) (w + m)
number_reaches w r n h a x =
    record {
      tokens = value n ∷ x.tokens;
      bytes_of_record = digits w n ++ x.bytes_of_record;
      spells = says n h a refl x.spells;
      size = omega (arith, length-append (digits w n) x.bytes_of_record, length_digits w n, x.size);
    }

-- n bytes that are all 0
abbrev zeros : ℕ → List ℕ
zeros n = replicate n 0

length_zeros : (n : ℕ) → length (zeros n) ≡ n
length_zeros zero = refl
length_zeros (suc n) = ap suc (length_zeros n)

bytes_zeros : (n : ℕ) → Bytes (zeros n)
bytes_zeros zero = tt
bytes_zeros (suc n) = (omega arith, bytes_zeros n)

pub plain_reaches : {l : Layout} {m : ℕ} (n : ℕ) → Reaches l m → Reaches (plain n l) (n + m)
plain_reaches n x =
    record {
      tokens = bytes (zeros n) ∷ x.tokens;
      bytes_of_record = zeros n ++ x.bytes_of_record;
      spells = shows (zeros n) (length_zeros n) (bytes_zeros n) refl x.spells;
      size = omega (arith, length-append (zeros n) x.bytes_of_record, length_zeros n, x.size);
    }

pub buffer_reaches : {l : Layout} {m : ℕ} (w b : ℕ) → b < 256 ^ w → Reaches l m → Reaches (buffer w b l) (w + b + m)
buffer_reaches w b h x =
    let zs : List ℕ = zeros b in
    let size : length zs ≡ b = length_zeros b in
    let fits : length zs < 256 ^ w = omega arith in
    let most : length zs ≤ b = omega arith in
    record {
      tokens = bytes zs ∷ x.tokens;
      bytes_of_record = digits w (length zs) ++ (zs ++ x.bytes_of_record);
      spells = sizes zs fits most (bytes_zeros b) refl x.spells;
      size = omega (arith, length-append (digits w (length zs)) (zs ++ x.bytes_of_record), length-append zs x.bytes_of_record, length_digits w (length zs), x.size);
    }

-- n items, all of that size
record Row (i : Layout) (n m : ℕ) : Type 0 where
  row_bytes : List ℕ
  spells : Items i n row_bytes
  size : length row_bytes ≡ n * m

row_of : {i : Layout} {m : ℕ} (n : ℕ) → Reaches i m → Row i n m
row_of zero x = record { row_bytes = []; spells = none; size = omega arith }
row_of (suc n) x =
    let r = row_of n x in
    record {
      row_bytes = x.bytes_of_record ++ r.row_bytes;
      spells = more refl x.spells r.spells;
      size = omega (arith, length-append x.bytes_of_record r.row_bytes, x.size, r.size);
    }

pub counted_reaches : {i l : Layout} {s m : ℕ} (c : ℕ) → c < 256 ^ 4 → Reaches i s → Reaches l m → Reaches (counted c i l) (4 + c * s + m)
counted_reaches c h item x =
    let r = row_of c item in
    let xs : List ℕ = digits 4 c ++ r.row_bytes in
    let most : c ≤ c = omega arith in
    record {
      tokens = bytes xs ∷ x.tokens;
      bytes_of_record = xs ++ x.bytes_of_record;
      spells = counts c h most refl r.spells refl x.spells;
      size = omega (arith, length-append xs x.bytes_of_record, length-append (digits 4 c) r.row_bytes, length_digits 4 c, r.size, x.size);
    }

pub then_reaches : {l k : Layout} {m n : ℕ} → Reaches l m → Reaches k n → Reaches (l then k) (m + n)
then_reaches x y =
    record {
      tokens = x.tokens ++ y.tokens;
      bytes_of_record = x.bytes_of_record ++ y.bytes_of_record;
      spells = spells_then x.spells y.spells;
      size = omega (arith, length-append x.bytes_of_record y.bytes_of_record, x.size, y.size);
    }
