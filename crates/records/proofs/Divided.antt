-- A row that is counted or divided: from the equations of the answer and of the cells to what these say in the grammar's words.
-- Assumes nothing.
use Prim.Native.Nat.{ℕ, ◌≤◌, ◌<◌}
use borrow.Author.Tests.{le-leb, lt-leb}
use mathlib.Core.Path.{◌≡◌, refl, sym, ap, ◌∙◌}
use mathlib.Core.Logic.{◌⊎◌, inl, inr}
use mathlib.Core.Bool.{true}
use mathlib.Core.List.{List, ◌++◌}
use lib.ListN.{length, drop}
use Rattle.std.specs.Prelude.{Err, Ok, Result}
use Rattle.faults.specs.declared.Refusal.{Refusal}
use Rattle.faults.specs.Faults.{no_room}
use Rattle.wire.specs.Answers.{measure_answer}
use Rattle.wire.specs.Bytes.{Bytes}
use Rattle.wire.specs.Records.{found, refused}
use Rattle.wire.specs.Grammar.{Token}
use Rattle.wire.specs.Refusals.{Had}
use Rattle.wire.specs.Fields.{size_of}
use Rattle.wire.specs.Filling.{written, filled, roomed}
use Rattle.wire.proofs.Answers.{measure_answer_once}
use Rattle.wire.proofs.Steps.{found_refused}
use Rattle.wire.proofs.Had.{other, other_had, refused_says_what_it_had}
use Rattle.wire.proofs.Refused.{refuses_read}
use Rattle.wire.proofs.Lent.{room_is_used, no_room_is_refused, size_is_of_bytes, refusal_or_no_room, lent_tells, refusal_changes_nothing, size_of_bytes, size_of_refused, size_told, size_answers, written_is_roomed}
use Rattle.format.specs.Kinds.{is_kind, layout_of}
use Rattle.records.specs.Runs.{Run, RefusesRow, no_kind, no_record, divided, CountsRow, DividesRow}
use Rattle.records.proofs.Rows.{run_length}
use Rattle.records.proofs.RunPromises.{reading_finds_the_run, found_ends_are_a_runs, refused_row_says_why, why_is_row_refusal}

-- ---- what is owed

-- a refused row says what it had
row_had : (k : ℕ) (src : List ℕ) {f : Refusal} → RefusesRow k src f → Had src f
row_had k src (no_kind lacks same) = rw same (other_had (other 10 refl refl))
row_had k src {f} (no_record {xs = xs} some run stands inside first) = refused_says_what_it_had (layout_of k) src (length xs) f (refuses_read first)

-- whoever counts
module _ (k : ℕ) (src : List ℕ) (r : Result ℕ Refusal) (b : Bytes src) (answer : measure_answer r ≡ size_of (divided k src)) where
  row_counted : {tss : List (List Token)} {es : List ℕ} → is_kind k ≡ true → Run (layout_of k) 0 tss es src → r ≡ Ok (length tss)
  row_counted {tss} {es} some run =
      size_answers (divided k src) r answer (Ok (length tss)) (ap size_of (reading_finds_the_run k src some run) ∙ ap found (sym (run_length run)))

  counted_row : {n : ℕ} → r ≡ Ok n → (is_kind k ≡ true) × (tss : List (List Token)) × (es : List ℕ) × Run (layout_of k) 0 tss es src × (n ≡ length tss)
  counted_row e =
      let (es, there, size) = size_of_bytes (divided k src) (size_told (divided k src) r answer e) in
      let (some, tss, run) = found_ends_are_a_runs k src b there in
      (some, tss, es, run, sym size ∙ sym (run_length run))

  why_not : {f : Refusal} → r ≡ Err f → RefusesRow k src f
  why_not e = refused_row_says_why k src b (size_of_refused (divided k src) (size_told (divided k src) r answer e))

  none_refused : ((tss : List (List Token)) (es : List ℕ) → Run (layout_of k) 0 tss es src → ⊥) → (f : Refusal) × (r ≡ Err f)
  none_refused never = by r refl
    where
      by : (s : Result ℕ Refusal) → r ≡ s → (f : Refusal) × (r ≡ Err f)
      by (Ok n) e = let (some, tss, es, run, size) = counted_row e in absurd (never tss es run)
      by (Err f) e = (f, e)

  pub counts_row : CountsRow k src r
  counts_row =
      record {
        answer = answer;
        run_is_counted = row_counted;
        counted_is_run = counted_row;
        refused_means_none = λ {tss} {es} some e run. found_refused (ap measure_answer (sym e ∙ row_counted some run));
        none_means_refused = none_refused;
        refusal_is_first = why_not;
        first_is_refusal = λ {f} why. size_answers (divided k src) r answer (Err f) (ap size_of (why_is_row_refusal k src why));
        refusal_says_what_it_had = λ e. row_had k src (why_not e);
      }

-- what was counted says what is answered, with cells for it or without
module _ (k : ℕ) (src old : List ℕ) where
  pub cells_enough : {n : ℕ} → size_of (divided k src) ≡ found n → n ≤ length old → found n ≡ written 0 (divided k src) old
  cells_enough {n} size room = sym (written_is_roomed (divided k src) old ∙ ap (roomed (length old)) size ∙ rw (le-leb n (length old) room))

  pub cells_too_few : {n : ℕ} {f : Refusal} → size_of (divided k src) ≡ found n → length old < n → f ≡ no_room 0 n → refused f ≡ written 0 (divided k src) old
  cells_too_few {n} size short e = sym (written_is_roomed (divided k src) old ∙ ap (roomed (length old)) size ∙ rw (lt-leb n (length old) short, e))

  pub cells_for_none : {f : Refusal} → size_of (divided k src) ≡ refused f → refused f ≡ written 0 (divided k src) old
  cells_for_none size = sym (written_is_roomed (divided k src) old ∙ ap (roomed (length old)) size)

-- and whoever divides
module _ (k : ℕ) (src old last : List ℕ) (r : Result ℕ Refusal) (b : Bytes src) (answer : measure_answer r ≡ written 0 (divided k src) old) (cells : last ≡ filled 0 (divided k src) old) where
  told : {s : Result ℕ Refusal} → r ≡ s → written 0 (divided k src) old ≡ measure_answer s
  told e = sym answer ∙ ap measure_answer e

  answers : (s : Result ℕ Refusal) → written 0 (divided k src) old ≡ measure_answer s → r ≡ s
  answers s e = measure_answer_once r s (answer ∙ e)

  row_divided : {tss : List (List Token)} {es : List ℕ} → is_kind k ≡ true → Run (layout_of k) 0 tss es src → length es ≤ length old
      → (r ≡ Ok (length es)) × (last ≡ es ++ drop (length es) old)
  row_divided {es = es} some run room =
      let (size, held) = room_is_used old (divided k src) (reading_finds_the_run k src some run) room in
      (answers (Ok (length es)) size, cells ∙ held)

  divided_row : {n : ℕ} → r ≡ Ok n
      → (is_kind k ≡ true) × (tss : List (List Token)) × (es : List ℕ) × Run (layout_of k) 0 tss es src × (n ≡ length es) × (n ≤ length old) × (last ≡ es ++ drop n old)
  divided_row e =
      let (es, there, size, room, held) = size_is_of_bytes old (divided k src) (told e) in
      let (some, tss, run) = found_ends_are_a_runs k src b there in
      (some, tss, es, run, sym size, room, cells ∙ held)

  none_divided : ((tss : List (List Token)) (es : List ℕ) → Run (layout_of k) 0 tss es src → ⊥) → (f : Refusal) × (r ≡ Err f)
  none_divided never = by r refl
    where
      by : (s : Result ℕ Refusal) → r ≡ s → (f : Refusal) × (r ≡ Err f)
      by (Ok n) e = let (some, tss, es, run, size, room, held) = divided_row e in absurd (never tss es run)
      by (Err f) e = (f, e)

  why_not_divided : {f : Refusal} → r ≡ Err f
      → RefusesRow k src f
      ⊎ ((tss : List (List Token)) × (es : List ℕ) × Run (layout_of k) 0 tss es src × (length old < length es) × (f ≡ no_room 0 (length es)))
  why_not_divided {f} e = by (refusal_or_no_room old (divided k src) (told e))
    where
      by : (divided k src ≡ refused f) ⊎ ((es : List ℕ) × (divided k src ≡ found es) × (length old < length es) × (f ≡ no_room 0 (length es)))
          → RefusesRow k src f
          ⊎ ((tss : List (List Token)) × (es : List ℕ) × Run (layout_of k) 0 tss es src × (length old < length es) × (f ≡ no_room 0 (length es)))
      by (inl fails) = inl (refused_row_says_why k src b fails)
      by (inr (es, there, short, same)) = let (some, tss, run) = found_ends_are_a_runs k src b there in inr (tss, es, run, short, same)

  pub divides_row : DividesRow k src old r last
  divides_row =
      record {
        answer = answer;
        cells = cells;
        run_is_divided = row_divided;
        divided_is_run = divided_row;
        refused_means_none = λ {tss} {es} some e room run. found_refused (ap measure_answer (sym e ∙ (row_divided some run room).0));
        none_means_refused = none_divided;
        refused_changes_nothing = λ e. cells ∙ refusal_changes_nothing old (divided k src) (told e);
        refusal_is_first = why_not_divided;
        first_is_refusal = λ {f} why. answers (Err f) (ap (λ a. written 0 a old) (why_is_row_refusal k src why));
        run_needs_cells = λ {tss} {es} some run short. answers (Err (no_room 0 (length es))) (no_room_is_refused old (divided k src) (reading_finds_the_run k src some run) short).0;
        refusal_says_what_it_had = λ {f} e. lent_tells old (Had src) (divided k src) (λ g fails. row_had k src (refused_row_says_why k src b fails)) (λ n. other_had (other 7 refl refl)) f (told e);
      }

-- a refusal leaves the cells as they were
pub divides_none : (k : ℕ) (src old : List ℕ) {f : Refusal} → Bytes src → refused f ≡ written 0 (divided k src) old → DividesRow k src old (Err f) old
divides_none k src old {f} b answer = divides_row k src old old (Err f) b answer (sym (refusal_changes_nothing old (divided k src) (sym answer)))
