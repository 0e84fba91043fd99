-- Why a record is not written, with no writer in sight: the first field, in wire order, that may not be written. Assumes nothing.
use Rattle.std.specs.Prelude.{ℕ, ◌+◌, ◌^◌, ◌≤◌, ◌<◌, ◌≡◌, true, false, List, ◌∷◌, ◌++◌, length, take, drop}
use Rattle.faults.specs.declared.Refusal.{Refusal}
use Rattle.faults.specs.Faults.{no_such_arm, mismatch, bad_span, too_long, trailing}
use Rattle.wire.specs.Bytes.{digits}
use Rattle.wire.specs.Layout.{Rule, allows, breach, Layout, stop, no_arm, arm, number, plain, buffer, counted}
use Rattle.wire.specs.Records.{Part, num, tag, span}
use Rattle.wire.specs.Grammar.{Items}
use Rattle.wire.specs.Refusals.{Refuses}
use Rattle.wire.specs.Parts.{on_end, on_number, on_arm, on_span}
use Rattle.wire.specs.Writing.{further}

-- the span of src with that start and length lies within it and shows xs
pub record Spans (src : List ℕ) (start len : ℕ) (xs : List ℕ) : Type 0 where
  pub within : start + len ≤ length src
  pub shows : take len (drop start src) ≡ xs

-- the bytes hs are a list: a count of at most m, and so many items
pub record IsList (m : ℕ) (i : Layout) (hs : List ℕ) : Type 0 where
  pub count : ℕ
  pub fits : count < 256 ^ 4
  pub most : count ≤ m
  pub items : List ℕ
  pub whole : hs ≡ digits 4 count ++ items
  pub spells : Items i count items

-- Unwritten src l ps at f: the parts ps may be written as a record of l, field by field, up to the first that may not; f names that one.
-- The place `at` counts from the output's start.
pub data Unwritten (src : List ℕ) : Layout → List Part → ℕ → Refusal → Type 0 where
  -- an arm is due, and the selector has none
  arm_missing : {v at : ℕ} {ps : List Part} {f : Refusal}
      → f ≡ no_such_arm at v
      → Unwritten src (no_arm v) ps at f
  -- another arm is held than the one that is due
  arm_other : {v t u at : ℕ} {l : Layout} {ps : List Part} {f : Refusal}
      → (u ≡ t → ⊥) → f ≡ mismatch at v
      → Unwritten src (arm v t l) (tag u ∷ ps) at f
  -- the rule does not allow the number
  number_bad : {w n at : ℕ} {r : Rule} {k : ℕ → Layout} {ps : List Part} {f : Refusal}
      → allows r n ≡ false → f ≡ breach r at n
      → Unwritten src (number w r k) (num n ∷ ps) at f
  -- a span does not lie in the source: of plain bytes, of a buffer, of a list
  plain_out : {n start at : ℕ} {l : Layout} {ps : List Part} {f : Refusal}
      → length src < start + n → f ≡ bad_span at n
      → Unwritten src (plain n l) (span start n ∷ ps) at f
  buffer_out : {w m start len at : ℕ} {l : Layout} {ps : List Part} {f : Refusal}
      → length src < start + len → f ≡ bad_span at len
      → Unwritten src (buffer w m l) (span start len ∷ ps) at f
  list_out : {m start len at : ℕ} {i l : Layout} {ps : List Part} {f : Refusal}
      → length src < start + len → f ≡ bad_span at len
      → Unwritten src (counted m i l) (span start len ∷ ps) at f
  -- a buffer in the source passes its limit
  buffer_long : {w m start len at : ℕ} {l : Layout} {ps : List Part} {f : Refusal}
      → start + len ≤ length src → m < len → f ≡ too_long at len
      → Unwritten src (buffer w m l) (span start len ∷ ps) at f
  -- a list's own bytes are refused as a reader refuses them, its place counted from the list's start
  list_bad : {m start len at : ℕ} {i l : Layout} {ps : List Part} {xs : List ℕ} {f g : Refusal}
      → Spans src start len xs → Refuses xs (counted m i stop) 0 g → f ≡ further at g
      → Unwritten src (counted m i l) (span start len ∷ ps) at f
  -- bytes stand behind a list's items
  list_trails : {m start len at : ℕ} {i l : Layout} {ps : List Part} {xs hs : List ℕ} {f : Refusal} (zs : List ℕ)
      → Spans src start len xs → IsList m i hs → xs ≡ hs ++ zs → 0 < length zs → f ≡ trailing (at + length hs) (length zs)
      → Unwritten src (counted m i l) (span start len ∷ ps) at f
  -- a field that may be written, and behind it one that may not
  past_arm : {v t at : ℕ} {l : Layout} {ps : List Part} {f : Refusal}
      → Unwritten src l ps at f
      → Unwritten src (arm v t l) (tag t ∷ ps) at f
  past_number : {w n at : ℕ} {r : Rule} {k : ℕ → Layout} {ps : List Part} {f : Refusal}
      → n < 256 ^ w → allows r n ≡ true → Unwritten src (k n) ps (at + w) f
      → Unwritten src (number w r k) (num n ∷ ps) at f
  past_plain : {n start at : ℕ} {l : Layout} {ps : List Part} {f : Refusal}
      → start + n ≤ length src → Unwritten src l ps (at + n) f
      → Unwritten src (plain n l) (span start n ∷ ps) at f
  past_buffer : {w m start len at : ℕ} {l : Layout} {ps : List Part} {f : Refusal}
      → start + len ≤ length src → len ≤ m → len < 256 ^ w → Unwritten src l ps (at + w + len) f
      → Unwritten src (buffer w m l) (span start len ∷ ps) at f
  past_list : {m start len at : ℕ} {i l : Layout} {ps : List Part} {xs : List ℕ} {f : Refusal}
      → Spans src start len xs → IsList m i xs → Unwritten src l ps (at + len) f
      → Unwritten src (counted m i l) (span start len ∷ ps) at f

-- The shapes that the records of the code have: where the layout has a number, a union or bytes, the parts have a number that the
-- field's width holds, an arm or a span. Of a wrong arm nothing is asked: nothing is written behind it.
abbrev pub Shaped : Layout → List Part → Type 0
Shaped stop ps = on_end ⊥ ps (Unit {0})
Shaped (no_arm v) ps = Unit {0}
Shaped (arm v t l) ps = on_arm ⊥ ps (λ u qs. u ≡ t → Shaped l qs)
Shaped (number w r k) ps = on_number ⊥ ps (λ n qs. (n < 256 ^ w) × (allows r n ≡ true → Shaped (k n) qs))
Shaped (plain n l) ps = on_span ⊥ ps (λ start len qs. (len ≡ n) × Shaped l qs)
Shaped (buffer w m l) ps = on_span ⊥ ps (λ start len qs. (len ≤ m → len < 256 ^ w) × Shaped l qs)
Shaped (counted m i l) ps = on_span ⊥ ps (λ start len qs. Shaped l qs)
