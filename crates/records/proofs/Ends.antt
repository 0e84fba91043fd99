-- Where a record ends, by its kind's number: from the equation with the reader to what it says in the grammar's words. Assumes nothing.
use Prim.Native.Nat.{ℕ, ◌+◌}
use mathlib.Core.Path.{◌≡◌, refl, sym, ap, ◌∙◌}
use mathlib.Core.Bool.{true}
use mathlib.Core.List.{List}
use lib.ListN.{length}
use Rattle.std.specs.Prelude.{Err, Ok, Result}
use Rattle.faults.specs.declared.Refusal.{Refusal}
use Rattle.wire.specs.Answers.{measure_answer}
use Rattle.wire.specs.Bytes.{Bytes}
use Rattle.wire.specs.Layout.{Layout}
use Rattle.wire.specs.Records.{Ans, found, refused, Parsed}
use Rattle.wire.specs.Reading.{read, end_of}
use Rattle.wire.specs.Grammar.{Token, Spells, Stands, Starts}
use Rattle.wire.specs.Editions.{Later, Ours, Foreign}
use Rattle.wire.proofs.Answers.{measure_answer_once}
use Rattle.wire.proofs.Steps.{found_refused, found_same, refused_same, next_found}
use Rattle.wire.proofs.Ours.{ours_kept, ours_is_read, not_ours_is_refused}
use Rattle.format.specs.Kinds.{is_kind, layout_of, read_kind}
use Rattle.format.proofs.Numbered.{of_kind}
use Rattle.format.proofs.Legal.{spelled_is_kind, legal_is_read_by_number, read_by_number_is_legal, refusal_by_number_is_first, first_is_refusal_by_number, refused_by_number_says_what_it_had}
use Rattle.records.specs.Ends.{Ends}
use Rattle.records.proofs.Promised.{cut_there, cut_ours_there, later_cut_there}

-- no end is a refusal, and that one
pub no_end : (a : Ans Parsed) {f : Refusal} → end_of a ≡ refused f → a ≡ refused f
no_end (found r) e = absurd (found_refused (sym e))
no_end (refused g) e = ap refused (refused_same e)

-- ---- a record as a prefix

module _ (k : ℕ) (src : List ℕ) (at : ℕ) (r : Result ℕ Refusal) (answer : measure_answer r ≡ end_of (read_kind k src at)) (b : Bytes src) where
  told : {s : Result ℕ Refusal} → r ≡ s → end_of (read_kind k src at) ≡ measure_answer s
  told e = sym answer ∙ ap measure_answer e

  answers : (s : Result ℕ Refusal) → end_of (read_kind k src at) ≡ measure_answer s → r ≡ s
  answers s e = measure_answer_once r s (answer ∙ e)

  legal_ends : {e : ℕ} → Starts (layout_of k) src at e → r ≡ Ok e
  legal_ends {e} d = answers (Ok e) (ap end_of (legal_is_read_by_number k d))

  end_legal : {e : ℕ} → r ≡ Ok e → Starts (layout_of k) src at e
  end_legal e =
      let (p, there, stops) = next_found (read_kind k src at) _ (told e) in
      rw (← found_same stops) (read_by_number_is_legal k src at b there)

  refused_none : {e : ℕ} {f : Refusal} → r ≡ Err f → Starts (layout_of k) src at e → ⊥
  refused_none fails d = found_refused (ap measure_answer (sym fails ∙ legal_ends d))

  none_refused : ((e : ℕ) → Starts (layout_of k) src at e → ⊥) → (f : Refusal) × (r ≡ Err f)
  none_refused none = by (read_kind k src at) refl
    where
      by : (a : Ans Parsed) → read_kind k src at ≡ a → (f : Refusal) × (r ≡ Err f)
      by (found p) e = absurd (none p.stops (read_by_number_is_legal k src at b e))
      by (refused f) e = (f, answers (Err f) (ap end_of e))

  -- what a reader of the layout answers is answered, if the number is a kind's
  by_layout : {s : Result ℕ Refusal} → is_kind k ≡ true → end_of (read (layout_of k) src at) ≡ measure_answer s → r ≡ s
  by_layout {s} some e = answers s (ap end_of (sym (of_kind k src at refl some)) ∙ e)

  ours_ends : {l' : Layout} {ts : List Token} {bs : List ℕ} (x : Later (layout_of k) l') (d : Spells l' ts bs) → Stands src at bs → Ours x d → r ≡ Ok (at + length bs)
  ours_ends x d stands all = by_layout (spelled_is_kind k (ours_kept x d all).0) (ap end_of (ours_is_read x d stands all))

  not_ours_refused : {l' : Layout} {ts : List Token} {bs : List ℕ} → is_kind k ≡ true → (x : Later (layout_of k) l') (d : Spells l' ts bs) → Stands src at bs → (Ours x d → ⊥)
      → (f : Refusal) × Foreign (layout_of k) src at (at + length bs) f × (r ≡ Err f)
  not_ours_refused some x d stands foreign = let (f, g, p) = not_ours_is_refused x d stands foreign in (f, g, by_layout some (ap end_of p))

  pub ends : Ends k src at r
  ends =
      record {
        answer = answer;
        legal_has_end = legal_ends;
        end_is_legal = end_legal;
        refused_means_none = refused_none;
        none_means_refused = none_refused;
        refusal_is_first = λ e. refusal_by_number_is_first k src at b (no_end (read_kind k src at) (told e));
        first_is_refusal = λ {f} d. answers (Err f) (ap end_of (first_is_refusal_by_number k d));
        refusal_says_what_it_had = λ {f} e. refused_by_number_says_what_it_had k src at f (no_end (read_kind k src at) (told e));
        cut_is_short = λ y ys inside d. let (place, needed, p) = cut_there (layout_of k) src at b y ys inside d in (place, needed, by_layout (spelled_is_kind k d) (ap end_of p));
        ours_has_end = ours_ends;
        not_ours_has_no_end = not_ours_refused;
        cut_ours_is_short = λ y ys inside x d all. let (place, needed, p) = cut_ours_there (layout_of k) src at b y ys inside x d all in (place, needed, by_layout (spelled_is_kind k (ours_kept x d all).0) (ap end_of p));
        later_cut_is_refused = λ y ys some inside x d. let (f, p, why) = later_cut_there (layout_of k) src at b y ys inside x d in (f, by_layout some (ap end_of p), why);
      }
