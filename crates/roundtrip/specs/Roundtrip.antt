-- A record that is written and read again, and one that is read, written and read again. Assumes nothing.
use Rattle.std.specs.Prelude.{ℕ, ◌≤◌, ◌<◌, ◌≡◌, ◌⊎◌, List, ◌++◌, length, drop, Result}
use Rattle.faults.specs.declared.Refusal.{Refusal}
use Rattle.faults.specs.Faults.{no_room}
use Rattle.wire.specs.Answers.{measure_answer}
use Rattle.wire.specs.Layout.{Layout}
use Rattle.wire.specs.Records.{Part, Ans, refused, next, Parsed, parsed}
use Rattle.wire.specs.Reading.{read}
use Rattle.wire.specs.Grammar.{Token, Spells, shown}
use Rattle.wire.specs.Refusals.{HadFew}
use Rattle.wire.specs.Writing.{lay}
use Rattle.wire.specs.Filling.{written, filled}
use Rattle.wire.specs.Unwritten.{Unwritten}
use Rattle.format.specs.Kinds.{layout_of}
use Rattle.wire.specs.Within.{Within}
use Rattle.copies.specs.Copied.{bytes_read, Begins, Copies}

-- What is owed to whoever has a record written into a lent buffer and read again from there. The record has the parts ps, whose spans are
-- of src; the buffer held old before and holds last now, and a was answered
pub record ReadsBack (l : Layout) (ps : List Part) (src old : List ℕ) (a : Ans Parsed) (last : List ℕ) : Type 0 where
  -- the writer's refusal, or what a reader of the layout finds in the buffer
  pub answer : a ≡ next (written 0 (lay l ps src 0) old) (λ n. read l last 0)
  -- the record's bytes and then what was there, or all that was there
  pub buffer : last ≡ filled 0 (lay l ps src 0) old
  -- what is read back is the legal record that was written, with equal fields and shown bytes, and what follows it is left unread
  pub back : {qs : List Part} {e : ℕ} → a ≡ parsed qs e
      → (bs : List ℕ) × Spells l (shown src ps) bs × (last ≡ bs ++ drop (length bs) old) × (e ≡ length bs) × (shown last qs ≡ shown src ps)
  -- a legal record for which there is room is read back, to its last byte: its spans lie in the source, and what they show is spelled
  pub legal_is_back : {bs : List ℕ} → Within src ps → Spells l (shown src ps) bs → length bs ≤ length old → (qs : List Part) × (a ≡ parsed qs (length bs))
  -- a refusal is the writer's, and changes no byte
  pub kept : {f : Refusal} → a ≡ refused f → (last ≡ old) × (written 0 (lay l ps src 0) old ≡ refused f)
  -- it names the first field, in wire order, that may not be written, or says how much room the legal record needs
  pub refusal_is_first : {f : Refusal} → a ≡ refused f
      → Unwritten src l ps 0 f ⊎ ((bs : List ℕ) × Spells l (shown src ps) bs × (length old < length bs) × (f ≡ no_room 0 (length bs)))
  -- it had no bytes, unless it is Short, of a list, and then fewer than it needs
  pub refusal_had_few : {f : Refusal} → a ≡ refused f → HadFew f

-- A record that a reader answered of the front of src was written: its size and its bytes, or the first refusal. This determines the answer
-- r, and what the buffer holds afterwards
pub record Rewrites (answered : Ans Parsed) (src old : List ℕ) (r : Result ℕ Refusal) (last : List ℕ) : Type 0 where
  pub answer : measure_answer r ≡ written 0 (bytes_read answered src) old
  pub buffer : last ≡ filled 0 (bytes_read answered src) old

-- What is owed to whoever has the record of a kind read from the front of src, written, and read again from where it was written: all that
-- a copy owes; and that what a reader finds in the buffer shows what the record showed. The second follows from the first. What the type's
-- own reader answers there is owed by ReadsBack
pub record Again (kind : ℕ) (src old : List ℕ) (r : Result ℕ Refusal) (last : List ℕ) : Type 0 where
  pub copies : Copies kind src old r last
  pub reads_again : {ts : List Token} {bs : List ℕ} → Begins kind src ts bs → length bs ≤ length old
      → (qs : List Part) × (read (layout_of kind) last 0 ≡ parsed qs (length bs)) × (shown last qs ≡ ts)
