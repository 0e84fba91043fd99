-- Where a record ends that is all there is, by its kind's number: from the equation with the reader to what it says in the grammar's words.
-- Assumes nothing.
use Prim.Native.Nat.{ℕ, ◌+◌, ◌-◌, ◌<◌}
use native.Mathlib.Omega.{arith}
use mathlib.Core.Path.{◌≡◌, refl, sym, ap, ◌∙◌}
use mathlib.Core.Logic.{◌⊎◌, inl, inr}
use mathlib.Core.Bool.{Bool, true, false}
use mathlib.Core.List.{List}
use lib.ListN.{length, drop, length-drop}
use Rattle.std.specs.Prelude.{Err, Ok, Result}
use Rattle.faults.specs.declared.Refusal.{Refusal}
use Rattle.faults.specs.Faults.{bad_kind, trailing}
use Rattle.wire.specs.Answers.{measure_answer}
use Rattle.wire.specs.Bytes.{Bytes}
use Rattle.wire.specs.Layout.{Layout}
use Rattle.wire.specs.Records.{Ans, found, refused}
use Rattle.wire.specs.Reading.{read, read_whole, end_of}
use Rattle.wire.specs.Grammar.{Token, Spells, Stands, Starts}
use Rattle.wire.specs.Refusals.{RefusesWhole, first_fault, left_over, Had}
use Rattle.wire.specs.Editions.{Later, Ours, Foreign}
use Rattle.wire.proofs.Answers.{measure_answer_once}
use Rattle.wire.proofs.Steps.{found_same, refused_same, next_found, when_found}
use Rattle.wire.proofs.Had.{refused_whole_says_what_it_had}
use Rattle.wire.proofs.Ours as ours
use Rattle.wire.proofs.Whole.{refused_is_refused_whole}
use Rattle.wire.proofs.WholeExactly as whole
use Rattle.format.specs.Kinds.{is_kind, layout_of}
use Rattle.format.specs.Refused.{RefusesKind, no_kind, in_record}
use Rattle.format.proofs.Legal.{spelled_is_kind, kind_tells}
use Rattle.records.specs.Ends.{read_kind_whole, IsWhole, WholeEnds}
use Rattle.records.proofs.Promised.{cut_there, cut_ours_there, later_cut_there}
use Rattle.records.proofs.Ends.{no_end}
pub use borrow.Author.Rules.{rules}

-- ---- by the kind's number

-- a number that is a kind's is read whole as that kind
of_whole_kind : (j : ℕ) (src : List ℕ) (at : ℕ) {k : ℕ} → k ≡ j → is_kind j ≡ true → read_whole (layout_of j) src at ≡ read_kind_whole k src at
unfolding read_kind_whole
of_whole_kind j src at e h = rw (e, h)

-- a number that is none is refused
pub no_whole_kind : (k : ℕ) (src : List ℕ) (at : ℕ) → is_kind k ≡ false → refused (bad_kind k) ≡ read_kind_whole k src at
unfolding read_kind_whole
no_whole_kind k src at h = rw h

-- ---- what is owed, from the equation

module _ (k : ℕ) (src : List ℕ) (at : ℕ) (r : Result ℕ Refusal) (answer : measure_answer r ≡ end_of (read_kind_whole k src at)) (b : Bytes src) where
  told : {s : Result ℕ Refusal} → r ≡ s → end_of (read_kind_whole k src at) ≡ measure_answer s
  told e = sym answer ∙ ap measure_answer e

  answers : (s : Result ℕ Refusal) → end_of (read_kind_whole k src at) ≡ measure_answer s → r ≡ s
  answers s e = measure_answer_once r s (answer ∙ e)

  -- what the reader of the layout answers is answered
  by_layout : {s : Result ℕ Refusal} → is_kind k ≡ true → end_of (read_whole (layout_of k) src at) ≡ measure_answer s → r ≡ s
  by_layout {s} some e = answers s (ap end_of (sym (of_whole_kind k src at refl some)) ∙ e)

  whole_ends : {e : ℕ} → IsWhole (layout_of k) src at e → r ≡ Ok e
  whole_ends w =
      by_layout (spelled_is_kind k w.spells) (ap end_of (whole.legal_is_accepted_whole (layout_of k) src at w.spells refl) ∙ ap found (sym w.ends))

  end_whole : {e : ℕ} → r ≡ Ok e → IsWhole (layout_of k) src at e
  unfolding read_kind_whole
  end_whole {e} given =
      let (p, there, stops) = next_found (read_kind_whole k src at) _ (told given) in
      let (ts, d, same, shows, end) = whole.whole_accepts_only_all (layout_of k) src at b (when_found (is_kind k) _ _ there).1 in
      record { tokens = ts; spells = d; ends = omega (arith, found_same stops, end, length-drop at src) }

  why_refused : {f : Refusal} → r ≡ Err f → RefusesKind k src at f ⊎ ((e : ℕ) × Starts (layout_of k) src at e × (e < length src) × (f ≡ trailing e (length src - e)))
  why_refused {f} given = by (is_kind k) refl
    where
      fails : read_kind_whole k src at ≡ refused f
      fails = no_end (read_kind_whole k src at) (told given)

      why : is_kind k ≡ true → RefusesWhole src (layout_of k) at f → RefusesKind k src at f ⊎ ((e : ℕ) × Starts (layout_of k) src at e × (e < length src) × (f ≡ trailing e (length src - e)))
      why some (first_fault d) = inl (in_record some d)
      why some (left_over e d more same) = inr (e, d, more, same)

      by : (t : Bool) → is_kind k ≡ t → RefusesKind k src at f ⊎ ((e : ℕ) × Starts (layout_of k) src at e × (e < length src) × (f ≡ trailing e (length src - e)))
      by true some = why some (whole.whole_refusal_says_why (layout_of k) src at f b (of_whole_kind k src at refl some ∙ fails))
      by false none = inl (no_kind none (refused_same (sym fails ∙ sym (no_whole_kind k src at none))))

  first_refused : {f : Refusal} → RefusesKind k src at f → r ≡ Err f
  first_refused {f} (no_kind none same) = answers (Err f) (ap end_of (sym (no_whole_kind k src at none)) ∙ ap refused (sym same))
  first_refused {f} (in_record some d) = by_layout some (ap end_of (whole.why_is_whole_refusal (layout_of k) src at (first_fault d)))

  says_what_it_had : {f : Refusal} → r ≡ Err f → Had src f
  unfolding read_kind_whole
  says_what_it_had {f} given =
      kind_tells k src (read_whole (layout_of k) src at) (refused_whole_says_what_it_had (layout_of k) src at) f (no_end (read_kind_whole k src at) (told given))

  tail_trailing : {e : ℕ} → Starts (layout_of k) src at e → e < length src → r ≡ Err (trailing e (length src - e))
  tail_trailing {e} d more = by_layout (spelled_is_kind k d.spells) (ap end_of (whole.why_is_whole_refusal (layout_of k) src at (left_over e d more refl)))

  ours_end : {l' : Layout} {ts : List Token} {bs : List ℕ} (x : Later (layout_of k) l') (d : Spells l' ts bs) → drop at src ≡ bs → Ours x d → r ≡ Ok (at + length bs)
  ours_end x d alone all = by_layout (spelled_is_kind k (ours.ours_kept x d all).0) (ap end_of (ours.ours_is_read_whole src at x d alone all))

  not_ours_refused : {l' : Layout} {ts : List Token} {bs : List ℕ} → is_kind k ≡ true → (x : Later (layout_of k) l') (d : Spells l' ts bs) → Stands src at bs → (Ours x d → ⊥)
      → (f : Refusal) × Foreign (layout_of k) src at (at + length bs) f × (r ≡ Err f)
  not_ours_refused some x d stands foreign = let (f, g, p) = ours.not_ours_is_refused_whole x d stands foreign in (f, g, by_layout some (ap end_of p))

  -- what is refused as a prefix is refused whole
  cut_whole : {f : Refusal} → read (layout_of k) src at ≡ refused f → end_of (read_whole (layout_of k) src at) ≡ refused f
  cut_whole p = ap end_of (refused_is_refused_whole (layout_of k) src at p)

  pub whole_end_lem : WholeEnds k src at r
  whole_end_lem =
      record {
        answer = answer;
        whole_has_end = whole_ends;
        end_is_whole = end_whole;
        refusal_is_first = why_refused;
        first_is_refusal = first_refused;
        tail_is_trailing = tail_trailing;
        refusal_says_what_it_had = says_what_it_had;
        ours_has_end = ours_end;
        not_ours_has_no_end = not_ours_refused;
        cut_is_short = λ y ys inside d. let (place, needed, p) = cut_there (layout_of k) src at b y ys inside d in (place, needed, by_layout (spelled_is_kind k d) (cut_whole p));
        cut_ours_is_short = λ y ys inside x d all. let (place, needed, p) = cut_ours_there (layout_of k) src at b y ys inside x d all in (place, needed, by_layout (spelled_is_kind k (ours.ours_kept x d all).0) (cut_whole p));
        later_cut_is_refused = λ y ys some inside x d. let (f, p, why) = later_cut_there (layout_of k) src at b y ys inside x d in (f, by_layout some (cut_whole p), why);
      }

-- ---- for `search`: the number is j, and j's reader of whole records answered so

pub as_whole_kind : {j k : ℕ} {z : Ans ℕ} (src : List ℕ) (at : ℕ) → k ≡ j → is_kind j ≡ true → z ≡ end_of (read_whole (layout_of j) src at) → z ≡ end_of (read_kind_whole k src at)
as_whole_kind {j} src at e h p = p ∙ ap end_of (of_whole_kind j src at e h)
