-- Where a part stands that is handed out of a lent slice: what tells it from equal bytes elsewhere. Assumes nothing.
use Rattle.std.specs.Prelude.{ℕ, zero, suc, ◌+◌, ◌≡◌, cond, List, [], ◌∷◌, length, leb}
use Rattle.std.specs.Borrow.{Bor}
use Rattle.wire.specs.Layout.{Layout}
use Rattle.wire.specs.Records.{Part, num, tag, span, Ans, found, refused}
use Rattle.wire.specs.Reading.{walk, read}
use Rattle.wire.specs.Writing.{cut}
use Rattle.wire.specs.Fields.{pick_field, part_of}
use Rattle.wire.specs.Items.{item_of}

-- r stands in the slice s, from its byte `start` on: it points into the same memory, so many bytes further on
pub record StandsAt (s r : Bor (List ℕ)) (start : ℕ) : Type 0 where
  pub memory : r.ref_ptr.0 ≡ s.ref_ptr.0
  pub place : r.ref_ptr.1 ≡ s.ref_ptr.1 + start

-- where a part starts that is handed out: at `start` if there is one; on refusal the empty part at the slice's start is
abbrev pub start_if : Ans (List ℕ) → (start : ℕ) → ℕ
start_if (found xs) start = start
start_if (refused f) start = 0

-- where the byte field with that index starts; 0 on refusal
abbrev pub start_at : List Part → (index : ℕ) → List ℕ → ℕ
start_at [] i src = 0
start_at (num n ∷ ps) i src = start_at ps i src
start_at (tag t ∷ ps) i src = start_at ps i src
start_at (span start len ∷ ps) zero src = start_if (cut src start len 0) start
start_at (span start len ∷ ps) (suc i) src = start_at ps i src

-- the place that was found, 0 where none was
abbrev pub place_of : Ans ℕ → ℕ
place_of (found n) = n
place_of (refused f) = 0

-- Where an item of a record's list starts; 0 on refusal. The list has its count in front, of 4 bytes, and then the items, each where
-- the one ahead of it ends
unfoldable pub item_start : (m : ℕ) (item : Layout) (lists : List Part) (index : ℕ) → List ℕ → ℕ
item_start m item lists i src =
    start_if (item_of m item lists i src)
    (start_at lists zero src + place_of (walk (λ s a. read item s a) i (part_of (pick_field lists zero i src)) 4))

-- where the tail starts of a record that ends at `end`; 0 past the input's end
abbrev pub tail_start : (end : ℕ) → List ℕ → ℕ
tail_start end src = cond (leb end (length src)) end 0
