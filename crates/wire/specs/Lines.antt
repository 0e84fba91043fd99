-- What a listing says of a record: a line for each field, in wire order. Assumes nothing.
use Rattle.std.specs.Prelude.{ℕ, zero, suc, ◌+◌, List, [], ◌∷◌, ◌++◌, take, drop}
use Rattle.wire.specs.Bytes.{be}
use Rattle.wire.specs.Layout.{Rule, free, listed, fixed, length_to, count_to, Layout, stop, no_arm, arm, number, plain, buffer, counted}
use Rattle.wire.specs.Records.{Part, Ans, found, refused, Parsed}
use Rattle.wire.specs.Reading.{Reader, read}
use Rattle.wire.specs.Parts.{on_number, on_arm, on_span}

-- what a line says: a code (a number that UnknownCode can refuse), another number, or bytes
pub data Says : Type 0 where
  a_code : ℕ → Says
  a_number : ℕ → Says
  the_bytes : List ℕ → Says

-- where a field stands, how many bytes it has, and what it says
pub record Line : Type 0 where
  pub place : ℕ
  pub size : ℕ
  pub says : Says

abbrev pub line : (place size : ℕ) → Says → Line
line at n s = record { place = at; size = n; says = s }

-- a number under its field's rule
abbrev pub say_number : Rule → ℕ → Says
say_number free n = a_number n
say_number (listed p) n = a_code n
say_number (fixed p) n = a_number n
say_number (length_to m) n = a_number n
say_number (count_to m) n = a_number n

-- the bytes of a span
abbrev pub span_line : (place start len : ℕ) → List ℕ → Line
span_line at start len src = line at len (the_bytes (take len (drop start src)))

abbrev pub of_read : Ans Parsed → (Parsed → List Line) → List Line
of_read (found r) k = k r
of_read (refused f) k = []

-- the lines of n items of xs from the place e on; `at` is the place of xs
abbrev pub item_lines : (List Part → List ℕ → ℕ → List Line) → Reader Parsed → (n : ℕ) (xs : List ℕ) (e at : ℕ) → List Line
item_lines of item zero xs e at = []
item_lines of item (suc n) xs e at = of_read (item xs e) (λ r. of r.parts xs (at + e) ++ item_lines of item n xs r.stops at)

-- a list has the line of its count, and those of its items
abbrev pub list_lines : (List Part → List ℕ → ℕ → List Line) → Reader Parsed → (xs : List ℕ) (at : ℕ) → List Line
list_lines of item xs at = line at 4 (a_number (be (take 4 xs))) ∷ item_lines of item (be (take 4 xs)) xs 4 at

-- The lines of the record of a layout with these parts, whose spans are of src, from the place `at` on. A buffer has two lines: its
-- length and its bytes. Parts of another shape, which no record of the code has, have no lines
unfoldable pub lines : Layout → List Part → (src : List ℕ) (at : ℕ) → List Line
lines stop ps src at = []
lines (no_arm v) ps src at = []
lines (arm v t l) ps src at = on_arm [] ps (λ u qs. lines l qs src at)
lines (number w r k) ps src at = on_number [] ps (λ n qs. line at w (say_number r n) ∷ lines (k n) qs src (at + w))
lines (plain n l) ps src at = on_span [] ps (λ start len qs. span_line at start len src ∷ lines l qs src (at + len))
lines (buffer w m l) ps src at = on_span [] ps (λ start len qs. line at w (a_number len) ∷ span_line (at + w) start len src ∷ lines l qs src (at + w + len))
lines (counted m i l) ps src at =
    on_span [] ps (λ start len qs. list_lines (λ rs xs a. lines i rs xs a) (λ s a. read i s a) (take len (drop start src)) at ++ lines l qs src (at + len))
