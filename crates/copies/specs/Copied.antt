-- What is owed to whoever has a record measured or copied by its kind's number. Assumes nothing.
use Rattle.std.specs.Prelude.{ℕ, ◌≤◌, ◌<◌, ◌≡◌, ◌⊎◌, List, ◌++◌, length, take, drop, Err, Ok, Result}
use Rattle.faults.specs.declared.Refusal.{Refusal}
use Rattle.faults.specs.Faults.{no_room}
use Rattle.wire.specs.Answers.{measure_answer}
use Rattle.wire.specs.Records.{Ans, found, next, Parsed}
use Rattle.wire.specs.Refusals.{Had}
use Rattle.wire.specs.Grammar.{Token, Spells}
use Rattle.wire.specs.Filling.{written, filled}
use Rattle.wire.specs.Fields.{size_of}
use Rattle.format.specs.Kinds.{layout_of, read_kind}
use Rattle.format.specs.Refused.{RefusesKind}

-- the bytes of the record that was read from the front of src, or the refusal
abbrev pub bytes_read : Ans Parsed → (src : List ℕ) → Ans (List ℕ)
bytes_read a src = next a (λ r. found (take r.stops src))

-- the bytes of the record of a kind that src starts with, or the refusal
unfoldable pub record_bytes : (kind : ℕ) (src : List ℕ) → Ans (List ℕ)
record_bytes k src = bytes_read (read_kind k src 0) src

-- A legal record of the kind k that shows ts and is spelled bs stands at the front of src
pub record Begins (k : ℕ) (src : List ℕ) (ts : List Token) (bs : List ℕ) : Type 0 where
  pub spells : Spells (layout_of k) ts bs
  pub rest : List ℕ
  pub front : src ≡ bs ++ rest

-- What is owed to whoever has a record measured: its size, or why not; r was answered
pub record MeasuresKind (kind : ℕ) (src : List ℕ) (r : Result ℕ Refusal) : Type 0 where
  -- the record's size, or the first refusal: the input determines it
  pub answer : measure_answer r ≡ size_of (record_bytes kind src)
  -- a legal record is measured, and a size is answered of a legal record alone
  pub legal_is_measured : {ts : List Token} {bs : List ℕ} → Begins kind src ts bs → r ≡ Ok (length bs)
  pub measured_is_legal : {n : ℕ} → r ≡ Ok n → (ts : List Token) × (bs : List ℕ) × Begins kind src ts bs × (length bs ≡ n)
  -- a refusal says why no record of the kind stands there, and what it had; and what says why is answered
  pub refusal_is_first : {f : Refusal} → r ≡ Err f → RefusesKind kind src 0 f
  pub refusal_says_what_it_had : {f : Refusal} → r ≡ Err f → Had src f
  pub first_is_refusal : {f : Refusal} → RefusesKind kind src 0 f → r ≡ Err f

-- What is owed to whoever has a record copied: its size, or why not; and all that the buffer holds afterwards. The buffer held old before
-- and holds last now, and r was answered
pub record Copies (kind : ℕ) (src old : List ℕ) (r : Result ℕ Refusal) (last : List ℕ) : Type 0 where
  -- the record's size, or the first refusal: the input and the buffer determine it
  pub answer : measure_answer r ≡ written 0 (record_bytes kind src) old
  -- the record's bytes and then what was there, or all that was there
  pub buffer : last ≡ filled 0 (record_bytes kind src) old
  -- a legal record for which there is room is copied: its size is answered, and the buffer holds its very bytes and then what was there
  pub legal_is_copied : {ts : List Token} {bs : List ℕ} → Begins kind src ts bs → length bs ≤ length old
      → (r ≡ Ok (length bs)) × (last ≡ bs ++ drop (length bs) old)
  -- a size is answered of a legal record alone
  pub copied_is_legal : {n : ℕ} → r ≡ Ok n
      → (ts : List Token) × (bs : List ℕ) × Begins kind src ts bs × (length bs ≡ n) × (n ≤ length old) × (last ≡ bs ++ drop n old)
  -- a refusal changes no byte
  pub refused_changes_nothing : {f : Refusal} → r ≡ Err f → last ≡ old
  -- it says why no record of the kind stands there, or how much room the one that does needs
  pub refusal_is_first : {f : Refusal} → r ≡ Err f
      → RefusesKind kind src 0 f ⊎ ((ts : List Token) × (bs : List ℕ) × Begins kind src ts bs × (length old < length bs) × (f ≡ no_room 0 (length bs)))
  -- it says what it had
  pub refusal_says_what_it_had : {f : Refusal} → r ≡ Err f → Had src f
  -- and what says why is answered, and so is the room that is wanting
  pub first_is_refusal : {f : Refusal} → RefusesKind kind src 0 f → r ≡ Err f
  pub legal_needs_room : {ts : List Token} {bs : List ℕ} → Begins kind src ts bs → length old < length bs → r ≡ Err (no_room 0 (length bs))
