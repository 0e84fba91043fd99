-- A record that is measured or copied by its kind's number: from the equations of its answer and of the buffer to what they say in the
-- grammar's words. Assumes nothing.
use Prim.Native.Nat.{ℕ, ◌≤◌, ◌<◌}
use native.Mathlib.Nat.{zero-add}
use mathlib.Core.Path.{◌≡◌, refl, sym, ap, ◌∙◌}
use mathlib.Core.Logic.{◌⊎◌, inl, inr}
use mathlib.Core.List.{List, ◌++◌}
use lib.ListN.{length, take, drop}
use lib.Seq.{take_at}
use Rattle.std.specs.Prelude.{Err, Ok, Result}
use Rattle.faults.specs.declared.Refusal.{Refusal}
use Rattle.faults.specs.Faults.{no_room}
use Rattle.wire.specs.Answers.{measure_answer}
use Rattle.wire.specs.Bytes.{Bytes}
use Rattle.wire.specs.Records.{Ans, found, refused, Parsed}
use Rattle.wire.specs.Grammar.{Token, Starts}
use Rattle.wire.specs.Fields.{size_of}
use Rattle.wire.specs.Filling.{written, filled}
use Rattle.wire.proofs.Answers.{measure_answer_once}
use Rattle.wire.proofs.Steps.{found_refused, found_same, refused_same, next_found}
use Rattle.wire.specs.Refusals.{Had}
use Rattle.wire.proofs.Had.{other, other_had}
use Rattle.format.specs.Kinds.{layout_of, read_kind}
use Rattle.format.specs.Refused.{RefusesKind}
use Rattle.format.proofs.Legal.{legal_is_read_by_number, read_by_number_is_legal, refusal_by_number_is_first, first_is_refusal_by_number, refused_by_number_says_what_it_had}
use Rattle.copies.specs.Copied.{bytes_read, record_bytes, Begins, MeasuresKind, Copies}
use Rattle.wire.proofs.Lent.{room_is_used, no_room_is_refused, size_is_of_bytes, refusal_or_no_room, lent_tells, refusal_changes_nothing, size_of_bytes, size_of_refused, size_told, size_answers}

-- ---- the bytes of the record at the front

module _ (k : ℕ) (src : List ℕ) where
  -- what begins the input starts at its first place
  pub begins_starts : {ts : List Token} {bs : List ℕ} → Begins k src ts bs → Starts (layout_of k) src 0 (length bs)
  begins_starts {ts} {bs} d = record { tokens = ts; front = bs; spells = d.spells; stands = record { rest = d.rest; begins = d.front }; ends = sym (zero-add (length bs)) }

  -- those of a legal record are its own
  pub legal_bytes : {ts : List Token} {bs : List ℕ} → Begins k src ts bs → record_bytes k src ≡ found bs
  unfolding record_bytes
  legal_bytes {bs = bs} d =
      ap (λ a. bytes_read a src) (legal_is_read_by_number k (begins_starts d))
      ∙ ap (λ xs. found (take (length bs) xs)) d.front ∙ ap found (take_at bs d.rest (length bs) refl)

  -- and where there are any, they are those of a legal record
  pub bytes_are_legal : {bs : List ℕ} → Bytes src → record_bytes k src ≡ found bs → (ts : List Token) × Begins k src ts bs
  unfolding record_bytes
  bytes_are_legal {bs} b p =
      let (r, e, q) = next_found (read_kind k src 0) _ p in
      let d = read_by_number_is_legal k src 0 b e in
      let size : r.stops ≡ length d.front = d.ends ∙ zero-add (length d.front) in
      let same : d.front ≡ bs = sym (take_at d.front d.stands.rest (length d.front) refl) ∙ ap (λ xs. take (length d.front) xs) (sym d.stands.begins) ∙ ap (λ n. take n src) (sym size) ∙ found_same q in
      (d.tokens, record { spells = rw same at d.spells; rest = d.stands.rest; front = d.stands.begins ∙ ap (λ xs. xs ++ d.stands.rest) same })

  -- where there are none, none were read
  pub no_bytes_read : {f : Refusal} → record_bytes k src ≡ refused f → read_kind k src 0 ≡ refused f
  unfolding record_bytes
  no_bytes_read {f} p = by (read_kind k src 0) p
    where
      by : (a : Ans Parsed) → bytes_read a src ≡ refused f → a ≡ refused f
      by (found r) e = absurd (found_refused (sym e))
      by (refused g) e = ap refused (refused_same e)

-- ---- what a measure owes, from its equation

module _ (k : ℕ) (src : List ℕ) (r : Result ℕ Refusal) (b : Bytes src) (answer : measure_answer r ≡ size_of (record_bytes k src)) where
  none_read : {f : Refusal} → r ≡ Err f → read_kind k src 0 ≡ refused f
  none_read e = no_bytes_read k src (size_of_refused (record_bytes k src) (size_told (record_bytes k src) r answer e))

  measured_legal : {n : ℕ} → r ≡ Ok n → (ts : List Token) × (bs : List ℕ) × Begins k src ts bs × (length bs ≡ n)
  measured_legal e =
      let (bs, there, size) = size_of_bytes (record_bytes k src) (size_told (record_bytes k src) r answer e) in
      let (ts, d) = bytes_are_legal k src b there in
      (ts, bs, d, size)

  first_not_measured : {f : Refusal} → RefusesKind k src 0 f → r ≡ Err f
  unfolding record_bytes
  first_not_measured {f} d = size_answers (record_bytes k src) r answer (Err f) (ap (λ a. size_of (bytes_read a src)) (first_is_refusal_by_number k d))

  pub measures_kind : MeasuresKind k src r
  measures_kind =
      record {
        answer = answer;
        legal_is_measured = λ {ts} {bs} d. size_answers (record_bytes k src) r answer (Ok (length bs)) (ap size_of (legal_bytes k src d));
        measured_is_legal = measured_legal;
        refusal_is_first = λ e. refusal_by_number_is_first k src 0 b (none_read e);
        refusal_says_what_it_had = λ {f} e. refused_by_number_says_what_it_had k src 0 f (none_read e);
        first_is_refusal = first_not_measured;
      }

-- ---- what a copy owes, from its two equations

module _ (k : ℕ) (src old last : List ℕ) (r : Result ℕ Refusal) (b : Bytes src) (answer : measure_answer r ≡ written 0 (record_bytes k src) old) (buffer : last ≡ filled 0 (record_bytes k src) old) where
  told : {s : Result ℕ Refusal} → r ≡ s → written 0 (record_bytes k src) old ≡ measure_answer s
  told e = sym answer ∙ ap measure_answer e

  answers : (s : Result ℕ Refusal) → written 0 (record_bytes k src) old ≡ measure_answer s → r ≡ s
  answers s e = measure_answer_once r s (answer ∙ e)

  legal_copied : {ts : List Token} {bs : List ℕ} → Begins k src ts bs → length bs ≤ length old → (r ≡ Ok (length bs)) × (last ≡ bs ++ drop (length bs) old)
  legal_copied {bs = bs} d room =
      let (size, held) = room_is_used old (record_bytes k src) (legal_bytes k src d) room in
      (answers (Ok (length bs)) size, buffer ∙ held)

  size_legal : {n : ℕ} → r ≡ Ok n → (ts : List Token) × (bs : List ℕ) × Begins k src ts bs × (length bs ≡ n) × (n ≤ length old) × (last ≡ bs ++ drop n old)
  size_legal e =
      let (bs, there, size, room, held) = size_is_of_bytes old (record_bytes k src) (told e) in
      let (ts, d) = bytes_are_legal k src b there in
      (ts, bs, d, size, room, buffer ∙ held)

  why_refused : {f : Refusal} → r ≡ Err f
      → RefusesKind k src 0 f ⊎ ((ts : List Token) × (bs : List ℕ) × Begins k src ts bs × (length old < length bs) × (f ≡ no_room 0 (length bs)))
  why_refused {f} e = by (refusal_or_no_room old (record_bytes k src) (told e))
    where
      by : (record_bytes k src ≡ refused f) ⊎ ((bs : List ℕ) × (record_bytes k src ≡ found bs) × (length old < length bs) × (f ≡ no_room 0 (length bs)))
          → RefusesKind k src 0 f ⊎ ((ts : List Token) × (bs : List ℕ) × Begins k src ts bs × (length old < length bs) × (f ≡ no_room 0 (length bs)))
      by (inl none) = inl (refusal_by_number_is_first k src 0 b (no_bytes_read k src none))
      by (inr (bs, there, short, same)) = let (ts, d) = bytes_are_legal k src b there in inr (ts, bs, d, short, same)

  says_what_it_had : {f : Refusal} → r ≡ Err f → Had src f
  says_what_it_had {f} e =
      lent_tells old (Had src) (record_bytes k src) (λ g none. refused_by_number_says_what_it_had k src 0 g (no_bytes_read k src none)) (λ n. other_had (other 7 refl refl))
      f (told e)

  first_refused : {f : Refusal} → RefusesKind k src 0 f → r ≡ Err f
  unfolding record_bytes
  first_refused {f} d = answers (Err f) (ap (λ a. written 0 (bytes_read a src) old) (first_is_refusal_by_number k d))

  pub copies : Copies k src old r last
  copies =
      record {
        answer = answer;
        buffer = buffer;
        legal_is_copied = legal_copied;
        copied_is_legal = size_legal;
        refused_changes_nothing = λ e. buffer ∙ refusal_changes_nothing old (record_bytes k src) (told e);
        refusal_is_first = why_refused;
        refusal_says_what_it_had = says_what_it_had;
        first_is_refusal = first_refused;
        legal_needs_room = λ {ts} {bs} d short. answers (Err (no_room 0 (length bs))) (no_room_is_refused old (record_bytes k src) (legal_bytes k src d) short).0;
      }
