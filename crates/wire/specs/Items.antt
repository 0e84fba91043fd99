-- The items of the list that a record holds, by index; and what they are by the grammar. Assumes nothing.
use Rattle.std.specs.Prelude.{ℕ, zero, suc, ◌-◌, ◌≡◌, List, [], ◌∷◌, ◌++◌, take, drop}
use Rattle.faults.specs.Faults.{no_field}
use Rattle.wire.specs.Bytes.{be}
use Rattle.wire.specs.Layout.{Rule, Layout, arm, number, plain, buffer, counted}
use Rattle.wire.specs.Records.{Part, num, span, Ans, found, refused, next, Parsed}
use Rattle.wire.specs.Reading.{Reader, read}
use Rattle.wire.specs.Grammar.{Items, none, more}
use Rattle.wire.specs.Writing.{whole}
use Rattle.wire.specs.Unwritten.{Spans, IsList}
use Rattle.wire.specs.Fields.{pick_field}

-- of n items from `at` on the bytes of the one with that index, from its first field to its last
abbrev pub pick_item : Reader Parsed → (n index asked : ℕ) → Reader (List ℕ)
pick_item item zero i asked src at = refused (no_field asked)
pick_item item (suc n) zero asked src at = next (item src at) (λ r. found (take (r.stops - at) (drop at src)))
pick_item item (suc n) (suc i) asked src at = next (item src at) (λ r. pick_item item n i asked src r.stops)

-- The bytes of an item of a record's list. `lists` has the list, if the record holds one. The whole list is walked over first, as a
-- writer walks over it, and places count from its start
unfoldable pub item_of : (m : ℕ) (item : Layout) (lists : List Part) (index : ℕ) → List ℕ → Ans (List ℕ)
item_of m item lists i src =
    next (pick_field lists zero i src)
    (λ xs. next (whole m item xs)
    (λ ys. pick_item (λ s a. read item s a) (be (take 4 ys)) i i ys 4))

-- the bytes of each item of a legal list, in wire order
abbrev pub item_bytes : {i : Layout} {n : ℕ} {bs : List ℕ} → Items i n bs → List (List ℕ)
item_bytes none = []
item_bytes (more {xs = xs} e d ds) = xs ∷ item_bytes ds

-- what f gives for 0, 1 and so on, n times, one behind the other
abbrev pub joined : (f : ℕ → List ℕ) (n : ℕ) → List ℕ
joined f zero = []
joined f (suc n) = f zero ++ joined (λ i. f (suc i)) n

-- the part p shows a legal list: it is a span that lies in src, and its bytes are a count of at most m, and so many items
pub record ShowsList (src : List ℕ) (m : ℕ) (item : Layout) (p : Part) : Type 0 where
  pub start : ℕ
  pub len : ℕ
  pub place : p ≡ span start len
  pub list : List ℕ
  pub shows : Spans src start len list
  pub legal : IsList m item list

-- ListPart m item p l ps: of the parts ps of a record of the layout l, p is one that the layout has a list for, of at most m items
pub data ListPart (m : ℕ) (item : Layout) (p : Part) : Layout → List Part → Type 0 where
  -- the list is the first field
  here : {l : Layout} {ps : List Part} → ListPart m item p (counted m item l) (p ∷ ps)
  -- or it stands behind the first field
  past_arm : {v t : ℕ} {l : Layout} {q : Part} {ps : List Part} → ListPart m item p l ps → ListPart m item p (arm v t l) (q ∷ ps)
  past_number : {w n : ℕ} {r : Rule} {k : ℕ → Layout} {ps : List Part} → ListPart m item p (k n) ps → ListPart m item p (number w r k) (num n ∷ ps)
  past_plain : {n : ℕ} {l : Layout} {q : Part} {ps : List Part} → ListPart m item p l ps → ListPart m item p (plain n l) (q ∷ ps)
  past_buffer : {w b : ℕ} {l : Layout} {q : Part} {ps : List Part} → ListPart m item p l ps → ListPart m item p (buffer w b l) (q ∷ ps)
  past_list : {b : ℕ} {i l : Layout} {q : Part} {ps : List Part} → ListPart m item p l ps → ListPart m item p (counted b i l) (q ∷ ps)
