-- What is listed of a deposit: a kind byte, and then the record. Assumes nothing.
use Rattle.std.specs.Prelude.{ℕ, ◌-◌, ◌≤◌, ◌≡◌, Bool, true, false, cond, List, [], ◌∷◌, ◌++◌, length, drop, leb, Result}
use Rattle.faults.specs.declared.Refusal.{Refusal}
use Rattle.faults.specs.Faults.{no_room, bad_kind, oversize}
use Rattle.wire.specs.Answers.{measure_answer}
use Rattle.wire.specs.Records.{Ans, found, refused, Parsed}
use Rattle.wire.specs.Reading.{read}
use Rattle.format.specs.Kinds.{is_kind, layout_of}
use Rattle.wire.specs.Lines.{lines}
use Rattle.text.specs.Text.{lines_text, read_text, refused_text}

-- what is answered of a record: a number that is no kind is refused first, then more than 4,096 bytes, and what is left is read
unfoldable pub judged : (kind : ℕ) (bytes : List ℕ) → Ans Parsed
judged k bs =
    cond (is_kind k)
    (cond (leb (length bs) 4096)
    (read (layout_of k) bs 0)
    (refused oversize))
    (refused (bad_kind k))

-- the text of an answer: of a record that was read, where it ends, how many bytes are left behind it, and the lines of its fields; of a
-- refusal, its number, place and value, and of Short what it had
abbrev pub answer_text : (kind : ℕ) (bytes : List ℕ) → Ans Parsed → List ℕ
answer_text k bs (found r) = read_text k r.stops (length bs - r.stops) ++ lines_text (lines (layout_of k) r.parts bs 0)
answer_text k bs (refused f) = refused_text k f

-- the text for bytes that are said to be of that kind
unfoldable pub record_text : (kind : ℕ) (bytes : List ℕ) → List ℕ
record_text k bs = answer_text k bs (judged k bs)

-- the listing of a deposit; places count from the record's first byte, and no byte at all counts as kind 0
unfoldable pub listing : List ℕ → List ℕ
listing [] = record_text 0 []
listing (k ∷ bs) = record_text k bs

-- and what it is the text of
unfoldable pub answered : List ℕ → Ans Parsed
answered [] = judged 0 []
answered (k ∷ bs) = judged k bs

-- whether that is a record
abbrev pub is_found : {A : Type 0} → Ans A → Bool
is_found (found a) = true
is_found (refused f) = false

-- a text was counted, r bytes, and none has more than 16,384; if it fits into a slice, which held old before and holds last now, it stands
-- at its start. Nothing is said of a slice that is too small
pub record Counts (text old : List ℕ) (r : ℕ) (last : List ℕ) : Type 0 where
  pub size : r ≡ length text
  pub most : length text ≤ 16384
  pub puts : length text ≤ length old → last ≡ text ++ drop (length text) old

-- What is owed to whoever has a text listed into a lent slice, which held old before and holds last now; r was answered
pub record Lists (text old : List ℕ) (r : Result ℕ Refusal) (last : List ℕ) : Type 0 where
  -- how long the text is, or, where the slice is smaller, how long it would have to be
  pub answer : measure_answer r ≡ cond (leb (length text) (length old)) (found (length text)) (refused (no_room 0 (length text)))
  -- the text and then what was there, or all that was there
  pub buffer : last ≡ cond (leb (length text) (length old)) (text ++ drop (length text) old) old
  -- none is longer
  pub most : length text ≤ 16384
