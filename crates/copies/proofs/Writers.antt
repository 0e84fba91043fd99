-- The promises of writing, for the code: what follows from `Writes`, which every writer ensures, and from `Copies`. Assumes nothing.
use Prim.Native.Nat.{ℕ, ◌-◌, ◌≤◌, ◌<◌}
use mathlib.Core.Path.{◌≡◌, refl, sym, ap, ◌∙◌}
use mathlib.Core.Logic.{◌⊎◌}
use mathlib.Core.List.{List, [], ◌++◌}
use lib.ListN.{length, take, drop}
use Rattle.std.specs.Prelude.{Err, Ok, Result}
use Rattle.faults.specs.declared.Refusal.{Refusal}
use Rattle.faults.specs.Faults.{no_room, no_field}
use Rattle.wire.specs.Answers.{measure_answer}
use Rattle.wire.specs.Bytes.{Bytes}
use Rattle.wire.specs.Layout.{Layout}
use Rattle.wire.specs.Records.{Part, found, refused, parsed}
use Rattle.wire.specs.Within.{Within}
use Rattle.wire.specs.Reading.{read}
use Rattle.wire.specs.Grammar.{Spells, shown}
use Rattle.wire.specs.Refusals.{HadFew}
use Rattle.wire.specs.Writing.{lay}
use Rattle.wire.specs.Filling.{written}
use Rattle.wire.specs.Items.{item_of}
use Rattle.wire.specs.Unwritten.{Unwritten}
use Rattle.wire.proofs.Answers.{measure_answer_once}
use Rattle.wire.proofs.Prefix.{same_bytes_same_record}
use Rattle.format.specs.Kinds.{layout_of}
use Rattle.copies.specs.Sizes.{sizes_of}
use Rattle.copies.specs.Copied.{record_bytes, Copies}
use Rattle.wire.proofs.Lent.{refusal_changes_nothing, size_is_of_bytes}
use Rattle.copies.proofs.Rewritten as rewritten
use Rattle.steps.specs.Writes.{Writes}

-- a record, its source and the buffer determine the answer, and every byte of the buffer afterwards
pub answer_is_one : {l : Layout} {ps : List Part} {src old last last' : List ℕ} {r s : Result ℕ Refusal} → Writes l ps src old r last → Writes l ps src old s last' → (r ≡ s) × (last ≡ last')
answer_is_one {r = r} {s} a b = (measure_answer_once r s (a.answer ∙ sym b.answer), a.buffer ∙ sym b.buffer)

module _ (k : ℕ) {ps : List Part} {src old last : List ℕ} {r : Result ℕ Refusal} (w : Writes (layout_of k) ps src old r last) where
  -- what the code answered, in the definitions' terms, and back
  told : {s : Result ℕ Refusal} → r ≡ s → written 0 (lay (layout_of k) ps src 0) old ≡ measure_answer s
  told e = sym w.answer ∙ ap measure_answer e

  answers : (s : Result ℕ Refusal) → written 0 (lay (layout_of k) ps src 0) old ≡ measure_answer s → r ≡ s
  answers s e = measure_answer_once r s (w.answer ∙ e)

  -- ---- a record that is written

  -- the answered size is that of the record's bytes and the sum of its fields' sizes, and these bytes are put in front of what was behind
  pub size_is_written : {n : ℕ} → r ≡ Ok n
      → (bs : List ℕ) × (lay (layout_of k) ps src 0 ≡ found bs) × (length bs ≡ n) × (n ≡ sizes_of (layout_of k) ps) × (n ≤ length old) × (last ≡ bs ++ drop n old)
  size_is_written e =
      let (bs, laid, size, sum, room, held) = rewritten.size_is_written k ps src old (told e) in
      (bs, laid, size, sum, room, w.buffer ∙ held)

  -- no byte past the answered size changes
  pub bytes_past_the_size_are_kept : {n : ℕ} → r ≡ Ok n → drop n last ≡ drop n old
  bytes_past_the_size_are_kept {n} e = ap (λ l. drop n l) w.buffer ∙ rewritten.bytes_past_the_size_are_kept k ps src old (told e)

  -- the buffer is as long as it was, whatever the answer
  pub buffer_keeps_its_length : length last ≡ length old
  buffer_keeps_its_length = ap length w.buffer ∙ rewritten.buffer_keeps_its_length k ps src old

  -- the first bytes of the buffer, as many as were answered, are a legal record that shows what the parts show
  pub buffer_holds_a_legal_record : {n : ℕ} → Bytes src → r ≡ Ok n → Spells (layout_of k) (shown src ps) (take n last) × (0 < n)
  buffer_holds_a_legal_record b e = rw w.buffer (rewritten.buffer_holds_a_legal_record k ps src old b (told e))

  -- the buffer reads back, up to the answered size, as a record that shows what was written
  pub buffer_reads_back : {n : ℕ} → Bytes src → r ≡ Ok n → (qs : List Part) × (read (layout_of k) last 0 ≡ parsed qs n) × (shown last qs ≡ shown src ps)
  buffer_reads_back b e = rw w.buffer (rewritten.buffer_reads_back k ps src old b (told e))

  -- every legal record is written, with room for it
  pub legal_record_is_written : {bs : List ℕ} → Within src ps → Spells (layout_of k) (shown src ps) bs → length bs ≤ length old
      → (r ≡ Ok (length bs)) × (last ≡ bs ++ drop (length bs) old)
  legal_record_is_written within d room =
      let (size, held) = rewritten.legal_record_is_written k ps src old within d room in
      (answers (Ok _) size, w.buffer ∙ held)

  -- a record that was read is written back as the bytes that it was read from, with room for it
  pub read_record_is_written_back : (at : ℕ) {e : ℕ} → Bytes src → read (layout_of k) src at ≡ parsed ps e → e - at ≤ length old
      → (r ≡ Ok (e - at)) × (last ≡ take (e - at) (drop at src) ++ drop (e - at) old)
  read_record_is_written_back at b p room =
      let (size, held) = rewritten.read_record_is_written_back k src at old b p room in
      (answers (Ok _) size, w.buffer ∙ held)

  -- ---- a record that is refused

  -- a refused write changes no byte
  pub refused_write_changes_nothing : {f : Refusal} → r ≡ Err f → last ≡ old
  refused_write_changes_nothing e = w.buffer ∙ rewritten.refused_write_changes_nothing k ps src old (told e)

  -- the refusal names the first field, in wire order, that may not be written, or all may and the buffer has no room for them
  pub refusal_is_the_first_that_may_not_be_written : {f : Refusal} → Bytes src → r ≡ Err f
      → Unwritten src (layout_of k) ps 0 f
      ⊎ ((bs : List ℕ) × (lay (layout_of k) ps src 0 ≡ found bs) × Spells (layout_of k) (shown src ps) bs × (length old < length bs) × (f ≡ no_room 0 (length bs)))
  refusal_is_the_first_that_may_not_be_written b e = rewritten.refusal_is_the_first_that_may_not_be_written k ps src old b w.shaped (told e)

  -- a refused write had no bytes, unless it is Short, of a list, and then fewer than it needs
  pub refused_write_had_few : {f : Refusal} → r ≡ Err f → HadFew f
  refused_write_had_few {f} e = rewritten.refused_write_had_few k ps src old f (told e)

  -- the first field that may not be written is refused so, whatever room there is
  pub the_first_that_may_not_be_written_is_refused : {f : Refusal} → Unwritten src (layout_of k) ps 0 f → r ≡ Err f
  the_first_that_may_not_be_written_is_refused d = answers (Err _) (rewritten.the_first_that_may_not_be_written_is_refused k ps src old d)

  -- a legal record for which there is no room is refused for that
  pub legal_record_needs_room : {bs : List ℕ} → Within src ps → Spells (layout_of k) (shown src ps) bs → length old < length bs → r ≡ Err (no_room 0 (length bs))
  legal_record_needs_room within d short = answers (Err _) (rewritten.legal_record_needs_room k ps src old within d short)

-- ---- two records that are written

-- whose bytes are equal show the same, whatever their sources
pub equal_bytes_written_alike : (k : ℕ) {ps qs : List Part} {src src' old old' last last' : List ℕ} {r s : Result ℕ Refusal} {n m : ℕ} → Bytes src → Bytes src'
    → Writes (layout_of k) ps src old r last → r ≡ Ok n → Writes (layout_of k) qs src' old' s last' → s ≡ Ok m
    → take n last ≡ take m last' → shown src ps ≡ shown src' qs
equal_bytes_written_alike k b b' w e w' e' same =
    same_bytes_same_record (buffer_holds_a_legal_record k w b e).0 (rw (← same) at (buffer_holds_a_legal_record k w' b' e').0)

-- ---- the items of a record without a list

-- there are none, whatever the list's items would be: what the kinds without a list answer is what `item_of` says
pub no_list_no_item : (m : ℕ) (item : Layout) (i : ℕ) (src : List ℕ) → item_of m item [] i src ≡ refused (no_field i)
unfolding item_of
no_list_no_item m item i src = refl

-- ---- a record copied by its kind's number

module _ (k : ℕ) {src old last : List ℕ} {r : Result ℕ Refusal} (c : Copies k src old r last) where
  -- what the code answered, in the definitions' terms
  copy_told : {s : Result ℕ Refusal} → r ≡ s → written 0 (record_bytes k src) old ≡ measure_answer s
  copy_told e = sym c.answer ∙ ap measure_answer e

  -- a refused copy changes no byte
  pub refused_copy_changes_nothing : {f : Refusal} → r ≡ Err f → last ≡ old
  refused_copy_changes_nothing e = c.buffer ∙ refusal_changes_nothing old (record_bytes k src) (copy_told e)

  -- the answered size is that of the record's bytes, which are put in front of what was behind
  pub copied_size_is_written : {n : ℕ} → r ≡ Ok n → (bs : List ℕ) × (record_bytes k src ≡ found bs) × (length bs ≡ n) × (n ≤ length old) × (last ≡ bs ++ drop n old)
  copied_size_is_written e =
      let (bs, laid, size, room, held) = size_is_of_bytes old (record_bytes k src) (copy_told e) in
      (bs, laid, size, room, c.buffer ∙ held)

-- the input and the buffer determine the answer, and every byte of the buffer afterwards
pub copy_is_one : {k : ℕ} {src old last last' : List ℕ} {r s : Result ℕ Refusal} → Copies k src old r last → Copies k src old s last' → (r ≡ s) × (last ≡ last')
copy_is_one {r = r} {s} a b = (measure_answer_once r s (a.answer ∙ sym b.answer), a.buffer ∙ sym b.buffer)

-- ---- which layout a writer's kind has

-- what a writer of the layout ensures is what a writer of the kind ensures; `kind_layouts` of `records` says which layout a number has
pub by_number : {l : Layout} {ps : List Part} {src old last : List ℕ} {r : Result ℕ Refusal} (k : ℕ) → layout_of k ≡ l → Writes l ps src old r last → Writes (layout_of k) ps src old r last
by_number k e w = rw e w
