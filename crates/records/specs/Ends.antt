-- What is owed to whoever asks where a record ends, by its kind's number. Assumes nothing.
use Rattle.std.specs.Prelude.{ℕ, ◌+◌, ◌-◌, ◌≤◌, ◌<◌, ◌≡◌, ◌⊎◌, true, cond, List, ◌∷◌, ◌++◌, length, drop, Err, Ok, Result}
use Rattle.faults.specs.declared.Fault.TheVariants.{Short}
use Rattle.faults.specs.declared.Refusal.{Refusal}
use Rattle.faults.specs.Faults.{short, bad_kind, trailing}
use Rattle.wire.specs.Answers.{measure_answer}
use Rattle.wire.specs.Layout.{Layout}
use Rattle.wire.specs.Records.{refused, Parsed, left}
use Rattle.wire.specs.Reading.{Reader, read_whole, end_of}
use Rattle.wire.specs.Grammar.{Token, Spells, Stands, Starts}
use Rattle.wire.specs.Refusals.{Had}
use Rattle.wire.specs.Editions.{Later, Ours, Newer, Foreign}
use Rattle.format.specs.Kinds.{is_kind, layout_of, read_kind}
use Rattle.format.specs.Refused.{RefusesKind}

-- What is owed to whoever asks where the record of a kind ends that starts at a place, whatever follows it: r was answered
pub record Ends (kind : ℕ) (src : List ℕ) (at : ℕ) (r : Result ℕ Refusal) : Type 0 where
  -- the end that the kind's reader finds, or its refusal: the input determines it
  pub answer : measure_answer r ≡ end_of (read_kind kind src at)
  -- where a legal record of the kind starts, its end is answered
  pub legal_has_end : {e : ℕ} → Starts (layout_of kind) src at e → r ≡ Ok e
  -- an end is that of a legal record of the kind which starts there
  pub end_is_legal : {e : ℕ} → r ≡ Ok e → Starts (layout_of kind) src at e
  -- a refusal means that none starts there
  pub refused_means_none : {e : ℕ} {f : Refusal} → r ≡ Err f → Starts (layout_of kind) src at e → ⊥
  -- where none starts, there is a refusal
  pub none_means_refused : ((e : ℕ) → Starts (layout_of kind) src at e → ⊥) → (f : Refusal) × (r ≡ Err f)
  -- it says that there is no such kind, or names the first fault
  pub refusal_is_first : {f : Refusal} → r ≡ Err f → RefusesKind kind src at f
  -- and what says so is answered
  pub first_is_refusal : {f : Refusal} → RefusesKind kind src at f → r ≡ Err f
  -- it says what it had
  pub refusal_says_what_it_had : {f : Refusal} → r ≡ Err f → Had src f
  -- a legal record of which the input has only the beginning is Short, which had what stands from its place to the cut
  pub cut_is_short : {ts : List Token} (y : ℕ) (ys : List ℕ) → at ≤ length src → Spells (layout_of kind) ts (drop at src ++ (y ∷ ys))
      → (place : ℕ) × (needed : ℕ) × (r ≡ Err (short place needed (left src place)))
  -- a record of a later edition that starts there, with anything after it: if its codes and arms are all ours, its end is answered
  pub ours_has_end : {l' : Layout} {ts : List Token} {bs : List ℕ} (x : Later (layout_of kind) l') (d : Spells l' ts bs) → Stands src at bs → Ours x d
      → r ≡ Ok (at + length bs)
  -- and any other is refused at the first code or arm that is not ours, which lies in the record
  pub not_ours_has_no_end : {l' : Layout} {ts : List Token} {bs : List ℕ} → is_kind kind ≡ true → (x : Later (layout_of kind) l') (d : Spells l' ts bs) → Stands src at bs → (Ours x d → ⊥)
      → (f : Refusal) × Foreign (layout_of kind) src at (at + length bs) f × (r ≡ Err f)
  -- one of which the input has only the beginning is Short if it is all ours, and else Short, or refused for a code or an arm that is not ours
  pub cut_ours_is_short : {l' : Layout} {ts : List Token} (y : ℕ) (ys : List ℕ) → at ≤ length src → (x : Later (layout_of kind) l') (d : Spells l' ts (drop at src ++ (y ∷ ys))) → Ours x d
      → (place : ℕ) × (needed : ℕ) × (r ≡ Err (short place needed (left src place)))
  pub later_cut_is_refused : {l' : Layout} {ts : List Token} (y : ℕ) (ys : List ℕ) → is_kind kind ≡ true → at ≤ length src → Later (layout_of kind) l' → Spells l' ts (drop at src ++ (y ∷ ys))
      → (f : Refusal) × (r ≡ Err f) × ((f.fault ≡ Short) ⊎ Newer f)

-- what a reader of whole records of any kind answers: a number that is no kind is refused before any byte is looked at
unfoldable pub read_kind_whole : (kind : ℕ) → Reader Parsed
read_kind_whole k src at = cond (is_kind k) (read_whole (layout_of k) src at) (refused (bad_kind k))

-- all that stands in src from the place `at` on is a legal record of the layout l, which ends at e
pub record IsWhole (l : Layout) (src : List ℕ) (at e : ℕ) : Type 0 where
  pub tokens : List Token
  pub spells : Spells l tokens (drop at src)
  pub ends : e ≡ at + length (drop at src)

-- What is owed to whoever asks where the record of a kind ends that is to be all that stands from a place on: r was answered
pub record WholeEnds (kind : ℕ) (src : List ℕ) (at : ℕ) (r : Result ℕ Refusal) : Type 0 where
  -- the end that the kind's reader of whole records finds, or its refusal: the input determines it
  pub answer : measure_answer r ≡ end_of (read_kind_whole kind src at)
  -- a legal record with nothing behind it has its end answered
  pub whole_has_end : {e : ℕ} → IsWhole (layout_of kind) src at e → r ≡ Ok e
  -- and an end is that of such a record
  pub end_is_whole : {e : ℕ} → r ≡ Ok e → IsWhole (layout_of kind) src at e
  -- a refusal says that there is no such kind, names the first fault, or says where a legal record ends and how many bytes are left behind it
  pub refusal_is_first : {f : Refusal} → r ≡ Err f
      → RefusesKind kind src at f ⊎ ((e : ℕ) × Starts (layout_of kind) src at e × (e < length src) × (f ≡ trailing e (length src - e)))
  -- and what says so is answered
  pub first_is_refusal : {f : Refusal} → RefusesKind kind src at f → r ≡ Err f
  pub tail_is_trailing : {e : ℕ} → Starts (layout_of kind) src at e → e < length src → r ≡ Err (trailing e (length src - e))
  -- it says what it had
  pub refusal_says_what_it_had : {f : Refusal} → r ≡ Err f → Had src f
  -- a record of a later edition that is all there is: if its codes and arms are all ours, its end is answered
  pub ours_has_end : {l' : Layout} {ts : List Token} {bs : List ℕ} (x : Later (layout_of kind) l') (d : Spells l' ts bs) → drop at src ≡ bs → Ours x d
      → r ≡ Ok (at + length bs)
  -- and any other is refused at the first code or arm that is not ours, which lies in the record
  pub not_ours_has_no_end : {l' : Layout} {ts : List Token} {bs : List ℕ} → is_kind kind ≡ true → (x : Later (layout_of kind) l') (d : Spells l' ts bs) → Stands src at bs → (Ours x d → ⊥)
      → (f : Refusal) × Foreign (layout_of kind) src at (at + length bs) f × (r ≡ Err f)
  -- a legal record of which the input has only the beginning is Short, which had what stands from its place to the cut
  pub cut_is_short : {ts : List Token} (y : ℕ) (ys : List ℕ) → at ≤ length src → Spells (layout_of kind) ts (drop at src ++ (y ∷ ys))
      → (place : ℕ) × (needed : ℕ) × (r ≡ Err (short place needed (left src place)))
  -- one of which the input has only the beginning is Short if it is all ours, and else Short, or refused for a code or an arm that is not ours
  pub cut_ours_is_short : {l' : Layout} {ts : List Token} (y : ℕ) (ys : List ℕ) → at ≤ length src → (x : Later (layout_of kind) l') (d : Spells l' ts (drop at src ++ (y ∷ ys))) → Ours x d
      → (place : ℕ) × (needed : ℕ) × (r ≡ Err (short place needed (left src place)))
  pub later_cut_is_refused : {l' : Layout} {ts : List Token} (y : ℕ) (ys : List ℕ) → is_kind kind ≡ true → at ≤ length src → Later (layout_of kind) l' → Spells l' ts (drop at src ++ (y ∷ ys))
      → (f : Refusal) × (r ≡ Err f) × ((f.fault ≡ Short) ⊎ Newer f)
