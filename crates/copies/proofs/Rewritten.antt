-- The promises of writing, for every kind by one statement over the kind's number. A writer of the kind k answers
-- `written 0 (lay (layout_of k) ps src 0) old` on a record with the parts ps, whose spans are of src, and leaves the buffer that held
-- old as `filled 0 (lay (layout_of k) ps src 0) old`. Assumes nothing.
use Prim.Native.Nat.{ℕ, ◌-◌, ◌≤◌, ◌<◌}
use native.Mathlib.Nat.{zero-add}
use native.Mathlib.Omega.{arith}
use mathlib.Core.Path.{◌≡◌, refl, sym, ap, ◌∙◌}
use mathlib.Core.Logic.{◌⊎◌, inl, inr}
use mathlib.Core.List.{List, ◌++◌}
use lib.ListN.{length, take, drop, length-drop}
use lib.Seq.{take_at, length-take-le}
use Rattle.faults.specs.declared.Refusal.{Refusal}
use Rattle.faults.specs.Faults.{no_room}
use Rattle.wire.specs.Bytes.{Bytes}
use Rattle.wire.specs.Records.{Part, found, refused, parsed}
use Rattle.wire.specs.Within.{Within}
use Rattle.wire.specs.Reading.{read}
use Rattle.wire.specs.Grammar.{Spells, shown}
use Rattle.wire.specs.Refusals.{HadFew}
use Rattle.wire.specs.Writing.{lay}
use Rattle.wire.specs.Filling.{written, filled}
use Rattle.wire.specs.Unwritten.{Shaped, Unwritten}
use Rattle.wire.proofs.Stand.{stands_start}
use Rattle.wire.proofs.Written.{read_then_lay, lay_sound, lay_then_read}
use Rattle.wire.proofs.Had as had
use Rattle.wire.proofs.Unwritten.{unwritten_lay, lay_unwritten, shaped_of_read}
use Rattle.format.specs.Kinds.{layout_of}
use Rattle.copies.specs.Sizes.{sizes_of}
use Rattle.format.proofs.Begun.{kind_has_bytes, read_lies_in}
use Rattle.copies.proofs.Laid.{lay_laid, legal_laid}
use Rattle.wire.proofs.Lent.{room_is_used, no_room_is_refused, size_is_of_bytes, refusal_or_no_room, lent_had_few, refusal_changes_nothing, length_is_kept, rest_is_kept}

module _ (k : ℕ) where
  -- ---- a record that was read

  -- it has a byte, and lies in its source
  pub read_record_lies_in_its_source : (src : List ℕ) (at : ℕ) {ps : List Part} {e : ℕ} → Bytes src → read (layout_of k) src at ≡ parsed ps e → (at < e) × (e ≤ length src)
  read_record_lies_in_its_source src at b p = read_lies_in k src at b p

  -- its parts are in shape
  pub read_records_are_shaped : (src : List ℕ) (at : ℕ) {ps : List Part} {e : ℕ} → Bytes src → read (layout_of k) src at ≡ parsed ps e → Shaped (layout_of k) ps
  read_records_are_shaped src at b p = shaped_of_read (layout_of k) src at _ b p

  -- it is laid out again as the bytes that it was read from
  pub read_record_is_laid : (src : List ℕ) (at : ℕ) {ps : List Part} {e : ℕ} → Bytes src → read (layout_of k) src at ≡ parsed ps e
      → (lay (layout_of k) ps src 0 ≡ found (take (e - at) (drop at src))) × (length (take (e - at) (drop at src)) ≡ e - at)
  read_record_is_laid src at {ps} {e} b p =
      let (some, inside) = read_lies_in k src at b p in
      (read_then_lay (layout_of k) src at 0 (record { parts = ps; stops = e }) b (omega arith) p, length-take-le (e - at) (drop at src) (omega (arith, length-drop at src)))

  -- with room for it, it is written back: its size is answered, its bytes are put as they stood, and behind them all is as it was
  pub read_record_is_written_back : (src : List ℕ) (at : ℕ) (old : List ℕ) {ps : List Part} {e : ℕ} → Bytes src → read (layout_of k) src at ≡ parsed ps e → e - at ≤ length old
      → (written 0 (lay (layout_of k) ps src 0) old ≡ found (e - at))
      × (filled 0 (lay (layout_of k) ps src 0) old ≡ take (e - at) (drop at src) ++ drop (e - at) old)
  read_record_is_written_back src at old {ps} {e} b p room =
      let (same, size) = read_record_is_laid src at b p in
      let (answer, held) = room_is_used old (lay (layout_of k) ps src 0) same (omega arith) in
      (answer ∙ ap found size, held ∙ ap (λ n. take (e - at) (drop at src) ++ drop n old) size)

  -- without, it is refused, and the refusal says how much room it needs
  pub read_record_needs_room : (src : List ℕ) (at : ℕ) (old : List ℕ) {ps : List Part} {e : ℕ} → Bytes src → read (layout_of k) src at ≡ parsed ps e → length old < e - at
      → written 0 (lay (layout_of k) ps src 0) old ≡ refused (no_room 0 (e - at))
  read_record_needs_room src at old {ps} {e} b p short =
      let (same, size) = read_record_is_laid src at b p in
      (no_room_is_refused old (lay (layout_of k) ps src 0) same (omega arith)).0 ∙ ap (λ n. refused (no_room 0 n)) size

  -- ---- a record that is written

  -- the answered size is that of the record's bytes, which is the sum of its fields' sizes; they are at the buffer's front, and behind
  -- them all is as it was
  pub size_is_written : (ps : List Part) (src old : List ℕ) {n : ℕ} → written 0 (lay (layout_of k) ps src 0) old ≡ found n
      → (bs : List ℕ) × (lay (layout_of k) ps src 0 ≡ found bs) × (length bs ≡ n) × (n ≡ sizes_of (layout_of k) ps) × (n ≤ length old)
      × (filled 0 (lay (layout_of k) ps src 0) old ≡ bs ++ drop n old)
  size_is_written ps src old p =
      let (bs, e, size, room, held) = size_is_of_bytes old (lay (layout_of k) ps src 0) p in
      (bs, e, size, sym size ∙ (lay_laid (layout_of k) ps src 0 bs e).0, room, held)

  -- no byte past the answered size changes
  pub bytes_past_the_size_are_kept : (ps : List Part) (src old : List ℕ) {n : ℕ} → written 0 (lay (layout_of k) ps src 0) old ≡ found n
      → drop n (filled 0 (lay (layout_of k) ps src 0) old) ≡ drop n old
  bytes_past_the_size_are_kept ps src old p = rest_is_kept old (lay (layout_of k) ps src 0) p

  -- the buffer is as long as it was, whatever the answer
  pub buffer_keeps_its_length : (ps : List Part) (src old : List ℕ) → length (filled 0 (lay (layout_of k) ps src 0) old) ≡ length old
  buffer_keeps_its_length ps src old = length_is_kept old (lay (layout_of k) ps src 0)

  -- the bytes of a record are as many as its fields take, with room for them or without
  pub field_sizes_add_up : (ps : List Part) (src : List ℕ) {bs : List ℕ} → lay (layout_of k) ps src 0 ≡ found bs → length bs ≡ sizes_of (layout_of k) ps
  field_sizes_add_up ps src e = (lay_laid (layout_of k) ps src 0 _ e).0

  -- those bytes are a legal record, which shows what the parts show; so there is one at least, and every span lies in the source
  pub written_record_is_legal : (ps : List Part) (src : List ℕ) {bs : List ℕ} → Bytes src → lay (layout_of k) ps src 0 ≡ found bs
      → Spells (layout_of k) (shown src ps) bs × (0 < length bs) × Within src ps
  written_record_is_legal ps src b e =
      let d = lay_sound (layout_of k) ps src 0 _ b e in
      (d, kind_has_bytes k d, (lay_laid (layout_of k) ps src 0 _ e).1)

  -- and so are the first bytes of the buffer, as many as were answered
  pub buffer_holds_a_legal_record : (ps : List Part) (src old : List ℕ) {n : ℕ} → Bytes src → written 0 (lay (layout_of k) ps src 0) old ≡ found n
      → Spells (layout_of k) (shown src ps) (take n (filled 0 (lay (layout_of k) ps src 0) old)) × (0 < n)
  buffer_holds_a_legal_record ps src old {n} b p =
      let (bs, e, size, room, held) = size_is_of_bytes old (lay (layout_of k) ps src 0) p in
      let (d, some, within) = written_record_is_legal ps src b e in
      (rw (held, take_at bs (drop n old) n size) d, omega arith)

  -- every legal record is written, with room for it: parts whose spans lie in the source, and that show it
  pub legal_record_is_written : (ps : List Part) (src old : List ℕ) {bs : List ℕ} → Within src ps → Spells (layout_of k) (shown src ps) bs → length bs ≤ length old
      → (written 0 (lay (layout_of k) ps src 0) old ≡ found (length bs)) × (filled 0 (lay (layout_of k) ps src 0) old ≡ bs ++ drop (length bs) old)
  legal_record_is_written ps src old within d room = room_is_used old (lay (layout_of k) ps src 0) (legal_laid d ps src 0 refl within) room

  -- ---- and is read again

  -- the bytes of a record read back, with anything behind them, to their end, and show what the parts show
  pub written_record_reads_back : (ps : List Part) (src : List ℕ) {bs : List ℕ} → Bytes src → lay (layout_of k) ps src 0 ≡ found bs → (tail : List ℕ)
      → (qs : List Part) × (read (layout_of k) (bs ++ tail) 0 ≡ parsed qs (length bs)) × (shown (bs ++ tail) qs ≡ shown src ps)
  written_record_reads_back ps src {bs} b e tail =
      let (qs, again, same) = lay_then_read (layout_of k) ps src 0 b e (bs ++ tail) 0 (stands_start bs tail) in
      (qs, again ∙ ap (λ n. parsed qs n) (zero-add (length bs)), same)

  -- so does the buffer, with what was behind them, up to the answered size
  pub buffer_reads_back : (ps : List Part) (src old : List ℕ) {n : ℕ} → Bytes src → written 0 (lay (layout_of k) ps src 0) old ≡ found n
      → (qs : List Part) × (read (layout_of k) (filled 0 (lay (layout_of k) ps src 0) old) 0 ≡ parsed qs n) × (shown (filled 0 (lay (layout_of k) ps src 0) old) qs ≡ shown src ps)
  buffer_reads_back ps src old {n} b p =
      let (bs, e, size, room, held) = size_is_of_bytes old (lay (layout_of k) ps src 0) p in
      let (qs, again, same) = written_record_reads_back ps src b e (drop n old) in
      (qs, rw held (again ∙ ap (λ m. parsed qs m) size), rw held same)

  -- ---- a record that is refused

  -- a refused write changes no byte
  pub refused_write_changes_nothing : (ps : List Part) (src old : List ℕ) {f : Refusal} → written 0 (lay (layout_of k) ps src 0) old ≡ refused f
      → filled 0 (lay (layout_of k) ps src 0) old ≡ old
  refused_write_changes_nothing ps src old p = refusal_changes_nothing old (lay (layout_of k) ps src 0) p

  -- the refusal names the first field, in wire order, that may not be written; or all may, and the buffer has no room for the legal
  -- record that they are, and the refusal says how much it needs
  pub refusal_is_the_first_that_may_not_be_written : (ps : List Part) (src old : List ℕ) {f : Refusal} → Bytes src → Shaped (layout_of k) ps
      → written 0 (lay (layout_of k) ps src 0) old ≡ refused f
      → Unwritten src (layout_of k) ps 0 f
      ⊎ ((bs : List ℕ) × (lay (layout_of k) ps src 0 ≡ found bs) × Spells (layout_of k) (shown src ps) bs × (length old < length bs) × (f ≡ no_room 0 (length bs)))
  refusal_is_the_first_that_may_not_be_written ps src old {f} b s p = by (refusal_or_no_room old (lay (layout_of k) ps src 0) p)
    where
      by : (lay (layout_of k) ps src 0 ≡ refused f) ⊎ ((bs : List ℕ) × (lay (layout_of k) ps src 0 ≡ found bs) × (length old < length bs) × (f ≡ no_room 0 (length bs)))
          → Unwritten src (layout_of k) ps 0 f
          ⊎ ((bs : List ℕ) × (lay (layout_of k) ps src 0 ≡ found bs) × Spells (layout_of k) (shown src ps) bs × (length old < length bs) × (f ≡ no_room 0 (length bs)))
      by (inl e) = inl (lay_unwritten (layout_of k) ps src 0 f b s e)
      by (inr (bs, e, short, same)) = inr (bs, e, lay_sound (layout_of k) ps src 0 bs b e, short, same)

  -- a refused write had no bytes, unless it is Short, of a list, and then fewer than it needs
  pub refused_write_had_few : (ps : List Part) (src old : List ℕ) (f : Refusal) → written 0 (lay (layout_of k) ps src 0) old ≡ refused f → HadFew f
  refused_write_had_few ps src old = lent_had_few old (lay (layout_of k) ps src 0) (had.refused_write_had_few (layout_of k) ps src 0)

  -- the first field that may not be written is refused so, whatever room there is
  pub the_first_that_may_not_be_written_is_refused : (ps : List Part) (src old : List ℕ) {f : Refusal} → Unwritten src (layout_of k) ps 0 f
      → written 0 (lay (layout_of k) ps src 0) old ≡ refused f
  the_first_that_may_not_be_written_is_refused ps src old d = ap (λ a. written 0 a old) (unwritten_lay d)

  -- and a legal record for which there is no room is refused for that
  pub legal_record_needs_room : (ps : List Part) (src old : List ℕ) {bs : List ℕ} → Within src ps → Spells (layout_of k) (shown src ps) bs → length old < length bs
      → written 0 (lay (layout_of k) ps src 0) old ≡ refused (no_room 0 (length bs))
  legal_record_needs_room ps src old within d short = (no_room_is_refused old (lay (layout_of k) ps src 0) (legal_laid d ps src 0 refl within) short).0
