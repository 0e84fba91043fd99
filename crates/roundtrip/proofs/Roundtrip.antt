-- A writer's contract and a reader's equation, put together: what is written is read back, and what is read is written and read again.
-- Assumes nothing.
use Prim.Native.Nat.{ℕ, ◌-◌, ◌≤◌, ◌<◌}
use native.Mathlib.Nat.{zero-add}
use native.Mathlib.Omega.{arith}
use mathlib.Core.Path.{◌≡◌, refl, sym, ap, ◌∙◌}
use mathlib.Core.Logic.{◌⊎◌, inl, inr}
use mathlib.Core.Bool.{true, false}
use mathlib.Core.List.{List, ◌++◌}
use lib.ListN.{length, take, drop}
use Rattle.std.specs.Prelude.{Err, Ok, Result}
use Rattle.faults.specs.declared.Refusal.{Refusal}
use Rattle.faults.specs.Faults.{no_room, bad_kind}
use Rattle.wire.specs.Answers.{measure_answer}
use Rattle.wire.specs.Bytes.{Bytes}
use Rattle.wire.specs.Layout.{Layout}
use Rattle.wire.specs.Records.{Part, Ans, found, refused, next, Parsed, parsed}
use Rattle.wire.specs.Reading.{read, end_of}
use Rattle.wire.specs.Grammar.{Token, Spells, placed, shown}
use Rattle.wire.specs.Writing.{lay}
use Rattle.wire.specs.Filling.{written, filled, lend}
use Rattle.wire.specs.Unwritten.{Shaped, Unwritten}
use Rattle.wire.proofs.Stand.{stands_start}
use Rattle.wire.proofs.Steps.{found_refused, refused_same, parsed_same}
use Rattle.wire.proofs.Complete.{read_complete, placed_shows}
use Rattle.wire.proofs.Written.{read_then_lay, lay_sound, lay_then_read}
use Rattle.wire.proofs.Had.{refused_write_had_few}
use Rattle.wire.proofs.Unwritten.{lay_unwritten}
use Rattle.format.specs.Kinds.{is_kind, layout_of, read_kind}
use Rattle.format.proofs.Numbered.{of_kind, no_kind_read}
use Rattle.steps.specs.Writes.{Measures, Writes}
use Rattle.wire.specs.Within.{Within}
use Rattle.copies.specs.Copied.{bytes_read, record_bytes, Begins, Copies}
use Rattle.wire.proofs.Lent.{room_is_used, size_is_of_bytes, refusal_or_no_room, lent_had_few, refusal_changes_nothing}
use Rattle.copies.proofs.Laid.{legal_laid}
use Rattle.copies.proofs.Copied.{copies}
use Rattle.copies.proofs.Measured.{lent_is_written}
use Rattle.roundtrip.specs.Roundtrip.{ReadsBack, Rewrites, Again}
pub use borrow.Author.Rules.{rules}

-- ---- written, and read again

module _ (l : Layout) (ps : List Part) (src old last : List ℕ) (b : Bytes src) (buffer : last ≡ filled 0 (lay l ps src 0) old) where
  -- what was written is read back to the answered size
  written_is_back : {n : ℕ} → written 0 (lay l ps src 0) old ≡ found n
      → (bs : List ℕ) × Spells l (shown src ps) bs × (last ≡ bs ++ drop (length bs) old) × (n ≡ length bs)
      × ((qs : List Part) × (read l last 0 ≡ parsed qs (length bs)) × (shown last qs ≡ shown src ps))
  written_is_back {n} p =
      let (bs, e, size, room, held) = size_is_of_bytes old (lay l ps src 0) p in
      let there : last ≡ bs ++ drop (length bs) old = buffer ∙ held ∙ ap (λ m. bs ++ drop m old) (sym size) in
      let (qs, again, same) = lay_then_read l ps src 0 b e (bs ++ drop (length bs) old) 0 (stands_start bs (drop (length bs) old)) in
      (bs, lay_sound l ps src 0 bs b e, there, sym size, (qs, ap (λ xs. read l xs 0) there ∙ again ∙ ap (λ m. parsed qs m) (zero-add (length bs)), rw there same))

  module _ (s : Shaped l ps) {a : Ans Parsed} (answer : a ≡ next (written 0 (lay l ps src 0) old) (λ n. read l last 0)) where
    comes_back : {qs : List Part} {e : ℕ} → a ≡ parsed qs e
        → (bs : List ℕ) × Spells l (shown src ps) bs × (last ≡ bs ++ drop (length bs) old) × (e ≡ length bs) × (shown last qs ≡ shown src ps)
    comes_back {qs} {e} p = by (written 0 (lay l ps src 0) old) refl
      where
        by : (w : Ans ℕ) → written 0 (lay l ps src 0) old ≡ w → (bs : List ℕ) × Spells l (shown src ps) bs × (last ≡ bs ++ drop (length bs) old) × (e ≡ length bs) × (shown last qs ≡ shown src ps)
        by (found n) w =
            let (bs, d, there, size, (qs', again, same)) = written_is_back w in
            let (parts, stops) = parsed_same (sym p ∙ answer ∙ ap (λ x. next x (λ n. read l last 0)) w ∙ again) in
            (bs, d, there, stops, ap (λ xs. shown last xs) parts ∙ same)
        by (refused f) w = absurd (found_refused (sym (answer ∙ ap (λ x. next x (λ n. read l last 0)) w) ∙ p))

    legal_back : {bs : List ℕ} → Within src ps → Spells l (shown src ps) bs → length bs ≤ length old → (qs : List Part) × (a ≡ parsed qs (length bs))
    legal_back {bs} within d room =
        let w = (room_is_used old (lay l ps src 0) (legal_laid d ps src 0 refl within) room).0 in
        let (bs', d', there, size, (qs, again, same)) = written_is_back w in
        (qs, answer ∙ ap (λ x. next x (λ n. read l last 0)) w ∙ again ∙ ap (λ m. parsed qs m) (sym size))

    writer_refused : {f : Refusal} → a ≡ refused f → written 0 (lay l ps src 0) old ≡ refused f
    writer_refused {f} p = by (written 0 (lay l ps src 0) old) refl
      where
        by : (w : Ans ℕ) → written 0 (lay l ps src 0) old ≡ w → written 0 (lay l ps src 0) old ≡ refused f
        by (found n) w =
            let (bs, d, there, size, (qs, again, same)) = written_is_back w in
            absurd (found_refused (sym p ∙ answer ∙ ap (λ x. next x (λ n. read l last 0)) w ∙ again))
        by (refused g) w = w ∙ ap refused (refused_same (sym (answer ∙ ap (λ x. next x (λ n. read l last 0)) w) ∙ p))

    why_refused : {f : Refusal} → a ≡ refused f → Unwritten src l ps 0 f ⊎ ((bs : List ℕ) × Spells l (shown src ps) bs × (length old < length bs) × (f ≡ no_room 0 (length bs)))
    why_refused {f} p = by (refusal_or_no_room old (lay l ps src 0) (writer_refused p))
      where
        by : (lay l ps src 0 ≡ refused f) ⊎ ((bs : List ℕ) × (lay l ps src 0 ≡ found bs) × (length old < length bs) × (f ≡ no_room 0 (length bs)))
            → Unwritten src l ps 0 f ⊎ ((bs : List ℕ) × Spells l (shown src ps) bs × (length old < length bs) × (f ≡ no_room 0 (length bs)))
        by (inl none) = inl (lay_unwritten l ps src 0 f b s none)
        by (inr (bs, laid, short, same)) = inr (bs, lay_sound l ps src 0 bs b laid, short, same)

    pub reads_back : ReadsBack l ps src old a last
    reads_back =
        record {
          answer = answer;
          buffer = buffer;
          back = comes_back;
          legal_is_back = legal_back;
          kept = λ p. (buffer ∙ refusal_changes_nothing old (lay l ps src 0) (writer_refused p), writer_refused p);
          refusal_is_first = why_refused;
          refusal_had_few = λ {f} p. lent_had_few old (lay l ps src 0) (refused_write_had_few l ps src 0) f (writer_refused p);
        }

-- ---- for `search`: m was measured, a writer answered r of the k bytes that it was lent, and then a reader of what the buffer holds

module _ (l : Layout) (ps : List Part) (src old last : List ℕ) (k : ℕ) (m r : Result ℕ Refusal) where
  pub written_back : {n : ℕ} {a : Ans Parsed} → Bytes src → Measures l ps src m → (k ≡ lend (measure_answer m) (length old)) × (k ≤ length old) → Writes l ps src (take k old) r last
      → r ≡ Ok n → a ≡ read l (last ++ drop k old) 0 → ReadsBack l ps src old a (last ++ drop k old)
  written_back b m lent w e p =
      let all = lent_is_written m lent.0 w in
      reads_back l ps src old (last ++ drop k old) b all.buffer all.shaped (p ∙ ap (λ x. next x (λ n. read l (last ++ drop k old) 0)) (ap measure_answer (sym e) ∙ all.answer))

  pub not_written : {f : Refusal} → Bytes src → Measures l ps src m → (k ≡ lend (measure_answer m) (length old)) × (k ≤ length old) → Writes l ps src (take k old) r last
      → r ≡ Err f → ReadsBack l ps src old (refused f) (last ++ drop k old)
  not_written b m lent w e =
      let all = lent_is_written m lent.0 w in
      reads_back l ps src old (last ++ drop k old) b all.buffer all.shaped (ap (λ x. next x (λ n. read l (last ++ drop k old) 0)) (ap measure_answer (sym e) ∙ all.answer))

-- ---- read, written, and read again

-- what is read back ends at the size that the writer answered
back_ends : {l : Layout} {ps : List Part} {src old : List ℕ} {a : Ans Parsed} {last : List ℕ} → Bytes src → ReadsBack l ps src old a last → end_of a ≡ written 0 (lay l ps src 0) old
back_ends {l} {ps} {src} {old} {a} {last} b r = by (written 0 (lay l ps src 0) old) refl
  where
    answered : {w : Ans ℕ} → written 0 (lay l ps src 0) old ≡ w → a ≡ next w (λ n. read l last 0)
    answered w = r.answer ∙ ap (λ x. next x (λ n. read l last 0)) w

    by : (w : Ans ℕ) → written 0 (lay l ps src 0) old ≡ w → end_of a ≡ w
    by (found n) w =
        let (bs, d, there, size, (qs, again, same)) = written_is_back l ps src old last b r.buffer w in
        ap end_of (answered w ∙ again) ∙ ap found (sym size)
    by (refused f) w = ap end_of (answered w)

-- a record was read, written, and read back, with the answer a
pub read_again : (l : Layout) (src old last : List ℕ) {ps : List Part} {e : ℕ} {a : Ans Parsed} (r : Result ℕ Refusal) → Bytes src → parsed ps e ≡ read l src 0 → ReadsBack l ps src old a last
    → measure_answer r ≡ end_of a → Rewrites (read l src 0) src old r last
read_again l src old last {ps} {e} r bytes told back given =
    let all : e - 0 ≡ e = omega arith in
    let laid : lay l ps src 0 ≡ bytes_read (read l src 0) src =
    read_then_lay l src 0 0 (record { parts = ps; stops = e }) bytes (omega arith) (sym told) ∙ ap (λ n. found (take n src)) all ∙ ap (λ x. bytes_read x src) told in
    record { answer = given ∙ back_ends bytes back ∙ ap (λ x. written 0 x old) laid; buffer = back.buffer ∙ ap (λ x. filled 0 x old) laid }

-- none was
pub none_again : (l : Layout) (src old : List ℕ) (f : Refusal) → refused f ≡ read l src 0 → Rewrites (read l src 0) src old (Err f) old
none_again l src old f there = record { answer = ap (λ x. written 0 (bytes_read x src) old) there; buffer = ap (λ x. filled 0 (bytes_read x src) old) there }

-- ---- by the kind's number

pub kind_again : (j k : ℕ) (src old last : List ℕ) (r : Result ℕ Refusal) → k ≡ j → is_kind j ≡ true → Rewrites (read (layout_of j) src 0) src old r last → Rewrites (read_kind k src 0) src old r last
kind_again j k src old last r e h p = rw (← of_kind j src 0 e h) p

pub no_kind_again : (k : ℕ) (src old : List ℕ) {f : Refusal} → f ≡ bad_kind k → is_kind k ≡ false → Rewrites (read_kind k src 0) src old (Err f) old
no_kind_again k src old {f} e h =
    let there : refused f ≡ read_kind k src 0 = ap refused e ∙ no_kind_read k src 0 h in
    record { answer = ap (λ x. written 0 (bytes_read x src) old) there; buffer = ap (λ x. filled 0 (bytes_read x src) old) there }

pub again : (k : ℕ) (src old last : List ℕ) (r : Result ℕ Refusal) → Bytes src → Rewrites (read_kind k src 0) src old r last → Again k src old r last
unfolding record_bytes
again k src old last r b p = record { copies = copied; reads_again = shows_same }
  where
    copied : Copies k src old r last
    copied = copies k src old last r b p.answer p.buffer

    shows_same : {ts : List Token} {bs : List ℕ} → Begins k src ts bs → length bs ≤ length old → (qs : List Part) × (read (layout_of k) last 0 ≡ parsed qs (length bs)) × (shown last qs ≡ ts)
    shows_same {bs = bs} d room =
        let held : last ≡ bs ++ drop (length bs) old = (copied.legal_is_copied d room).1 in
        let stands = stands_start bs (drop (length bs) old) in
        (placed d.spells 0, rw held (read_complete d.spells stands ∙ ap (λ n. parsed (placed d.spells 0) n) (zero-add (length bs))), rw held (placed_shows d.spells stands))
