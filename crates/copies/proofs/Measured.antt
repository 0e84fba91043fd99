-- Measuring and writing are one judgement: what follows from `Measures` and `Writes`, which the measure and the writer of every kind ensure,
-- and by the kind's number from `MeasuresKind` and `Copies`. Assumes nothing.
use Prim.Native.Nat.{ℕ, ◌-◌, ◌<◌}
use native.Mathlib.Omega.{arith}
use mathlib.Core.Path.{◌≡◌, refl, sym, ap, ◌∙◌}
use mathlib.Core.Logic.{◌⊎◌, inl, inr}
use mathlib.Core.Bool.{Bool, true, false}
use mathlib.Core.List.{List, ◌++◌}
use lib.ListN.{length, take, drop}
use lib.Seq.{length-take-le}
use lib.Dec.{leb}
use borrow.Author.Tests.{lt-leb, leb-false}
use Rattle.std.specs.Prelude.{Err, Ok, Result}
use Rattle.faults.specs.declared.Fault.TheVariants.{NoRoom}
use Rattle.faults.specs.declared.Refusal.{Refusal}
use Rattle.faults.specs.Faults.{paper, no_room, bad_kind}
use Rattle.wire.specs.Answers.{measure_answer}
use Rattle.wire.specs.Bytes.{Bytes}
use Rattle.wire.specs.Layout.{Layout}
use Rattle.wire.specs.Records.{Part, Ans, found, refused, parsed}
use Rattle.wire.specs.Within.{Within}
use Rattle.wire.specs.Reading.{read}
use Rattle.wire.specs.Grammar.{Spells, shown}
use Rattle.wire.specs.Refusals.{HadFew}
use Rattle.wire.specs.Writing.{lay}
use Rattle.wire.specs.Filling.{written, roomed, lend}
use Rattle.wire.specs.Fields.{size_of}
use Rattle.wire.specs.Unwritten.{Unwritten}
use Rattle.wire.proofs.Answers.{measure_answer_once}
use Rattle.wire.proofs.Steps.{refused_same}
use Rattle.wire.proofs.Had.{either_tells, refused_tells, refused_read_is_roomless, refused_write_is_roomless, refused_write_had_few}
use Rattle.wire.proofs.Unwritten.{unwritten_lay, lay_unwritten}
use Rattle.format.specs.Kinds.{is_kind, layout_of, read_kind}
use Rattle.steps.specs.Writes.{Measures, Writes}
use Rattle.copies.specs.Sizes.{sizes_of}
use Rattle.copies.specs.Copied.{bytes_read, record_bytes, MeasuresKind, Copies}
use Rattle.format.proofs.Begun.{read_lies_in}
use Rattle.copies.proofs.Copied.{no_bytes_read}
use Rattle.copies.proofs.Laid.{lay_laid, legal_laid}
use Rattle.wire.proofs.Lent.{size_of_bytes, size_of_refused, size_told, size_answers, written_is_roomed, lent_is_as_good}
use Rattle.copies.proofs.Rewritten.{read_record_is_laid}
use Rattle.copies.proofs.Walked.{read_of_kind, read_bytes}

-- ---- an answer, and the same with room for it

-- a writer with so much room answers r where m was measured: the same, unless that is a size which passes the room; then NoRoom at 0, with
-- the size
abbrev pub SameUnlessFull : (room : ℕ) (m r : Result ℕ Refusal) → Type 0
SameUnlessFull room m r = (r ≡ m) ⊎ ((n : ℕ) × (m ≡ Ok n) × (room < n) × (r ≡ Err (no_room 0 n)))

-- it answers NoRoom exactly then: if it does, a size was measured that passes the room; and if so, it does
abbrev pub FullExactly : (room : ℕ) (m r : Result ℕ Refusal) → Type 0
FullExactly room m r =
    ((f : Refusal) → r ≡ Err f → f.fault ≡ NoRoom → (n : ℕ) × (m ≡ Ok n) × (room < n) × (f ≡ no_room 0 n))
    × ((n : ℕ) → m ≡ Ok n → room < n → r ≡ Err (no_room 0 n))

-- of one thing, m is the size and r the writer's answer
roomed_answer : (a : Ans (List ℕ)) (old : List ℕ) (m r : Result ℕ Refusal) → measure_answer m ≡ size_of a → measure_answer r ≡ written 0 a old → measure_answer r ≡ roomed (length old) (measure_answer m)
roomed_answer a old m r size answer = answer ∙ written_is_roomed a old ∙ ap (λ x. roomed (length old) x) (sym size)

module _ (room : ℕ) (m r : Result ℕ Refusal) (same : measure_answer r ≡ roomed room (measure_answer m)) where
  roomed_of : {x : Result ℕ Refusal} → m ≡ x → measure_answer r ≡ roomed room (measure_answer x)
  roomed_of e = same ∙ ap (λ x. roomed room (measure_answer x)) e

  -- a size that passes the room is refused for that
  full : {n : ℕ} → m ≡ Ok n → room < n → r ≡ Err (no_room 0 n)
  full {n} e h = measure_answer_once r (Err (no_room 0 n)) (roomed_of e ∙ rw (lt-leb n room h))

  -- any other answer stays
  same_unless_full : SameUnlessFull room m r
  same_unless_full = by m refl
    where
      by : (x : Result ℕ Refusal) → m ≡ x → SameUnlessFull room m r
      by (Ok n) p = go (leb n room) refl
        where
          go : (b : Bool) → leb n room ≡ b → SameUnlessFull room m r
          go true t = inl (measure_answer_once r (Ok n) (roomed_of p ∙ rw t) ∙ sym p)
          go false t = let past = leb-false n room t in inr (n, p, past, full p past)
      by (Err f) p = inl (measure_answer_once r (Err f) (roomed_of p) ∙ sym p)

  -- so NoRoom is answered for a size that passes the room alone, if it was not measured
  full_exactly : ((f : Refusal) → m ≡ Err f → f.fault ≡ NoRoom → ⊥) → FullExactly room m r
  full_exactly never = (λ f e w. by f e w same_unless_full, λ n e h. full e h)
    where
      by : (f : Refusal) → r ≡ Err f → f.fault ≡ NoRoom → SameUnlessFull room m r → (n : ℕ) × (m ≡ Ok n) × (room < n) × (f ≡ no_room 0 n)
      by f e w (inl p) = absurd (never f (sym p ∙ e) w)
      by f e w (inr (n, is, past, q)) = (n, is, past, refused_same (ap measure_answer (sym e ∙ q)))

-- ---- a record that is measured

-- the record and its source determine what is measured
pub measure_is_one : {l : Layout} {ps : List Part} {src : List ℕ} {m m' : Result ℕ Refusal} → Measures l ps src m → Measures l ps src m' → m ≡ m'
measure_is_one {m = m} {m'} a b = measure_answer_once m m' (a.answer ∙ sym b.answer)

module _ {l : Layout} {ps : List Part} {src : List ℕ} {m : Result ℕ Refusal} (a : Measures l ps src m) where
  -- no bytes are laid where a refusal was measured
  none_laid : {f : Refusal} → m ≡ Err f → lay l ps src 0 ≡ refused f
  none_laid e = size_of_refused (lay l ps src 0) (size_told (lay l ps src 0) m a.answer e)

  -- the size is the sum of the field sizes: of the bytes that the record is written as there are so many, and its spans lie in the source
  pub measured_size_is_the_sum_of_the_fields : {n : ℕ} → m ≡ Ok n
      → (n ≡ sizes_of l ps) × Within src ps × ((bs : List ℕ) × (lay l ps src 0 ≡ found bs) × (length bs ≡ n))
  measured_size_is_the_sum_of_the_fields e =
      let (bs, laid, size) = size_of_bytes (lay l ps src 0) (size_told (lay l ps src 0) m a.answer e) in
      let (sum, within) = lay_laid l ps src 0 bs laid in
      (sym size ∙ sum, within, (bs, laid, size))

  -- no NoRoom is measured: there is no buffer that could want room
  pub measure_never_wants_room : (f : Refusal) → m ≡ Err f → f.fault ≡ NoRoom → ⊥
  measure_never_wants_room f e = refused_write_is_roomless l ps src 0 f (none_laid e)

  -- a refused measure had no bytes, unless it is Short, of a list, and then fewer than it needs
  pub refused_measure_had_few : {f : Refusal} → m ≡ Err f → HadFew f
  refused_measure_had_few {f} e = refused_write_had_few l ps src 0 f (none_laid e)

  -- every legal record is measured
  pub legal_record_is_measured : {bs : List ℕ} → Within src ps → Spells l (shown src ps) bs → m ≡ Ok (length bs)
  legal_record_is_measured within d = size_answers (lay l ps src 0) m a.answer (Ok _) (ap size_of (legal_laid d ps src 0 refl within))

  -- a refusal names the first field, in wire order, that may not be written; and that field is refused so
  pub measured_refusal_is_the_first_that_may_not_be_written : {f : Refusal} → Bytes src → m ≡ Err f → Unwritten src l ps 0 f
  measured_refusal_is_the_first_that_may_not_be_written {f} b e = lay_unwritten l ps src 0 f b a.shaped (none_laid e)

  pub the_first_that_may_not_be_written_is_measured_so : {f : Refusal} → Unwritten src l ps 0 f → m ≡ Err f
  the_first_that_may_not_be_written_is_measured_so d = size_answers (lay l ps src 0) m a.answer (Err _) (ap size_of (unwritten_lay d))

  -- ---- and written, into any buffer

  module _ {old last : List ℕ} {r : Result ℕ Refusal} (w : Writes l ps src old r last) where
    -- what the writer answers is what was measured, with room for it
    pub measured_is_written : measure_answer r ≡ roomed (length old) (measure_answer m)
    measured_is_written = roomed_answer (lay l ps src 0) old m r a.answer w.answer

    -- so both answer the same refusal, or the same size, unless that passes the room
    pub same_refusal_or_same_size : SameUnlessFull (length old) m r
    same_refusal_or_same_size = same_unless_full (length old) m r measured_is_written

    -- and the writer answers NoRoom exactly when the size passes the room
    pub no_room_exactly_when_the_size_passes_the_room : FullExactly (length old) m r
    no_room_exactly_when_the_size_passes_the_room = full_exactly (length old) m r measured_is_written measure_never_wants_room

  -- what is written into just as many bytes of a buffer as were measured, or into all where there are fewer, is written into the buffer
  pub lent_is_written : {old last : List ℕ} {r : Result ℕ Refusal} {k : ℕ} → k ≡ lend (measure_answer m) (length old) → Writes l ps src (take k old) r last → Writes l ps src old r (last ++ drop k old)
  lent_is_written {old} {last} {r} {k} e w =
      let (answer, buffer) = lent_is_as_good old (lay l ps src 0) (e ∙ ap (λ x. lend x (length old)) a.answer) in
      record { answer = w.answer ∙ answer; buffer = ap (λ xs. xs ++ drop k old) w.buffer ∙ buffer; shaped = w.shaped }

-- what a measure of the layout ensures is what a measure of the kind ensures; `kind_layouts` of `records` says which layout a number has
pub measure_by_number : {l : Layout} {ps : List Part} {src : List ℕ} {m : Result ℕ Refusal} (k : ℕ) → layout_of k ≡ l → Measures l ps src m → Measures (layout_of k) ps src m
measure_by_number k e a = rw e a

-- a record that was read measures to its end less its start
pub read_record_measures_to_its_end_less_its_start : (k : ℕ) {ps : List Part} {src : List ℕ} {m : Result ℕ Refusal} → Measures (layout_of k) ps src m
    → (at : ℕ) {e : ℕ} → Bytes src → read (layout_of k) src at ≡ parsed ps e → m ≡ Ok (e - at)
read_record_measures_to_its_end_less_its_start k {ps} {src} {m} a at {e} b p =
    let (laid, size) = read_record_is_laid k src at b p in
    size_answers (lay (layout_of k) ps src 0) m a.answer (Ok (e - at)) (ap size_of laid ∙ ap found size)

-- ---- by the kind's number

-- no reader refuses for want of room, nor is a number that is no kind's refused so
roomless_by_number : (k : ℕ) (src : List ℕ) (at : ℕ) (f : Refusal) → read_kind k src at ≡ refused f → f.fault ≡ NoRoom → ⊥
unfolding read_kind
roomless_by_number k src at =
    either_tells (λ f. f.fault ≡ NoRoom → ⊥) (is_kind k) (read (layout_of k) src at) (refused (bad_kind k)) (refused_read_is_roomless (layout_of k) src at)
    (refused_tells (λ f. f.fault ≡ NoRoom → ⊥) (bad_kind k) (λ e. let nine = ap (λ t. (paper t).number) e in omega arith))

-- the input determines what is measured
pub kind_measure_is_one : {k : ℕ} {src : List ℕ} {m m' : Result ℕ Refusal} → MeasuresKind k src m → MeasuresKind k src m' → m ≡ m'
kind_measure_is_one {m = m} {m'} a b = measure_answer_once m m' (a.answer ∙ sym b.answer)

module _ {k : ℕ} {src : List ℕ} {m : Result ℕ Refusal} (a : MeasuresKind k src m) where
  -- a record that was read measures to its end, which is the sum of its field sizes
  pub read_record_measures_to_its_end : {ps : List Part} {e : ℕ} → Bytes src → read_kind k src 0 ≡ parsed ps e → (m ≡ Ok e) × (e ≡ sizes_of (layout_of k) ps)
  unfolding record_bytes
  read_record_measures_to_its_end {ps} {e} b p =
      let there = read_of_kind k src p in
      let size : length (take e src) ≡ e = length-take-le e src (read_lies_in k src 0 b there).1 in
      let sum = (lay_laid (layout_of k) ps src 0 (take e src) (read_bytes k src (record { parts = ps; stops = e }) b p)).0 in
      (measure_answer_once m (Ok e) (a.answer ∙ ap (λ x. size_of (bytes_read x src)) p ∙ ap found size), sym size ∙ sum)

  -- no NoRoom is measured
  pub kind_measure_never_wants_room : (f : Refusal) → m ≡ Err f → f.fault ≡ NoRoom → ⊥
  kind_measure_never_wants_room f e =
      roomless_by_number k src 0 f (no_bytes_read k src (size_of_refused (record_bytes k src) (size_told (record_bytes k src) m a.answer e)))

  module _ {old last : List ℕ} {r : Result ℕ Refusal} (c : Copies k src old r last) where
    -- what is copied is what was measured, with room for it
    pub measured_is_copied : measure_answer r ≡ roomed (length old) (measure_answer m)
    measured_is_copied = roomed_answer (record_bytes k src) old m r a.answer c.answer

    pub same_refusal_or_same_size_copied : SameUnlessFull (length old) m r
    same_refusal_or_same_size_copied = same_unless_full (length old) m r measured_is_copied

    pub no_room_to_copy_exactly_when_the_size_passes_the_room : FullExactly (length old) m r
    no_room_to_copy_exactly_when_the_size_passes_the_room = full_exactly (length old) m r measured_is_copied kind_measure_never_wants_room
