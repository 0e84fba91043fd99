-- What is owed to whoever reads a record of a layout, in the grammar's words: its fields, its end and its tail, or why there is none.
-- Assumes nothing.
use Rattle.std.specs.Prelude.{ℕ, ◌+◌, ◌≤◌, ◌<◌, ◌≡◌, ◌⊎◌, List, ◌∷◌, ◌++◌, length, drop}
use Rattle.faults.specs.declared.Fault.TheVariants.{Short}
use Rattle.faults.specs.declared.Refusal.{Refusal}
use Rattle.faults.specs.Faults.{trailing}
use Rattle.wire.specs.Layout.{Layout}
use Rattle.wire.specs.Records.{Part, Ans, refused, Parsed, parsed, left}
use Rattle.wire.specs.Reading.{read, read_whole, IsShort}
use Rattle.wire.specs.Grammar.{Token, Spells, Stands, Starts, placed, shown}
use Rattle.wire.specs.Refusals.{Refuses, RefusesWhole, Had}
use Rattle.wire.specs.Editions.{Later, Ours, Newer, Foreign}

-- a was answered to whoever reads a record of the layout l in src from the place `at` on, whatever follows it
pub record Reads (l : Layout) (src : List ℕ) (at : ℕ) (a : Ans Parsed) : Type 0 where
  -- what the reader of the layout answers: the input determines it
  pub answer : a ≡ read l src at
  -- an accepted record is a legal one that starts there: its fields and its end are that record's, and its tail is all that follows
  pub accepted_is_legal : {ps : List Part} {e : ℕ} → a ≡ parsed ps e
      → (d : Starts l src at e) × (ps ≡ placed d.spells at) × (shown src ps ≡ d.tokens) × (drop at src ≡ d.front ++ drop e src)
  -- a legal record that starts there is accepted, with its fields, to its last byte
  pub legal_is_accepted : {ts : List Token} {bs : List ℕ} (d : Spells l ts bs) → Stands src at bs
      → (a ≡ parsed (placed d at) (at + length bs)) × (shown src (placed d at) ≡ ts)
  -- it is refused exactly when none starts there
  pub refused_means_none : {e : ℕ} {f : Refusal} → a ≡ refused f → Starts l src at e → ⊥
  pub none_means_refused : ((e : ℕ) → Starts l src at e → ⊥) → (f : Refusal) × (a ≡ refused f)
  -- the refusal names the first fault, and the first fault is refused
  pub refusal_is_first : {f : Refusal} → a ≡ refused f → Refuses src l at f
  pub first_is_refusal : {f : Refusal} → Refuses src l at f → a ≡ refused f
  -- it says what it had
  pub refusal_says_what_it_had : {f : Refusal} → a ≡ refused f → Had src f
  -- a record of a later edition whose codes and arms are all ours is read, with its fields, to its last byte
  pub ours_is_read : {l' : Layout} {ts : List Token} {bs : List ℕ} (x : Later l l') (d : Spells l' ts bs) → Stands src at bs → Ours x d → a ≡ parsed (placed d at) (at + length bs)
  -- and any other is refused at the first code or arm that is not ours, which lies in the record
  pub not_ours_is_refused : {l' : Layout} {ts : List Token} {bs : List ℕ} (x : Later l l') (d : Spells l' ts bs) → Stands src at bs → (Ours x d → ⊥)
      → (f : Refusal) × Foreign l src at (at + length bs) f × (a ≡ refused f)
  -- a legal record of which the input has only the beginning is Short, which had what stands from its place to the cut, and so is one of a
  -- later edition that is all ours; of another it may be a code or an arm that is not ours
  pub cut_is_short : {ts : List Token} (y : ℕ) (ys : List ℕ) → at ≤ length src → Spells l ts (drop at src ++ (y ∷ ys)) → IsShort src a
  pub cut_ours_is_short : {l' : Layout} {ts : List Token} (y : ℕ) (ys : List ℕ) → at ≤ length src → (x : Later l l') (d : Spells l' ts (drop at src ++ (y ∷ ys))) → Ours x d → IsShort src a
  pub later_cut_is_refused : {l' : Layout} {ts : List Token} (y : ℕ) (ys : List ℕ) → at ≤ length src → Later l l' → Spells l' ts (drop at src ++ (y ∷ ys))
      → (f : Refusal) × (a ≡ refused f) × ((f.fault ≡ Short) ⊎ Newer f)

-- a was answered to whoever reads a record of the layout l that is to be all that stands in src from the place `at` on
pub record ReadsWhole (l : Layout) (src : List ℕ) (at : ℕ) (a : Ans Parsed) : Type 0 where
  -- what the reader of whole records answers: the input determines it
  pub answer : a ≡ read_whole l src at
  -- an accepted record is a legal one, and all that stands there: its fields are that record's, and it ends where the input ends
  pub accepted_is_all : {ps : List Part} {e : ℕ} → a ≡ parsed ps e
      → (ts : List Token) × (d : Spells l ts (drop at src)) × (ps ≡ placed d at) × (shown src ps ≡ ts) × (e ≡ at + left src at)
  -- a legal record that is all that stands there is accepted, with its fields
  pub all_is_accepted : {ts : List Token} {bs : List ℕ} (d : Spells l ts bs) → drop at src ≡ bs → a ≡ parsed (placed d at) (at + length bs)
  -- it is refused exactly for the first fault, or for what is left after a legal record
  pub refusal_says_why : (f : Refusal) → a ≡ refused f → RefusesWhole src l at f
  pub why_is_refusal : {f : Refusal} → RefusesWhole src l at f → a ≡ refused f
  -- it says what it had
  pub refusal_says_what_it_had : {f : Refusal} → a ≡ refused f → Had src f
  -- a record of a later edition whose codes and arms are all ours is read if it is all there is, and Trailing with bytes after it
  pub ours_is_read : {l' : Layout} {ts : List Token} {bs : List ℕ} (x : Later l l') (d : Spells l' ts bs) → drop at src ≡ bs → Ours x d → a ≡ parsed (placed d at) (at + length bs)
  pub ours_with_a_tail_is_trailing : {l' : Layout} {ts : List Token} {bs : List ℕ} (x : Later l l') (d : Spells l' ts bs) → Stands src at bs → at + length bs < length src → Ours x d
      → a ≡ refused (trailing (at + length bs) (left src (at + length bs)))
  -- and any other is refused at the first code or arm that is not ours
  pub not_ours_is_refused : {l' : Layout} {ts : List Token} {bs : List ℕ} (x : Later l l') (d : Spells l' ts bs) → Stands src at bs → (Ours x d → ⊥)
      → (f : Refusal) × Foreign l src at (at + length bs) f × (a ≡ refused f)
  -- a legal record of which the input has only the beginning is Short, which had what stands from its place to the cut, and so is one of a
  -- later edition that is all ours; of another it may be a code or an arm that is not ours
  pub cut_is_short : {ts : List Token} (y : ℕ) (ys : List ℕ) → at ≤ length src → Spells l ts (drop at src ++ (y ∷ ys)) → IsShort src a
  pub cut_ours_is_short : {l' : Layout} {ts : List Token} (y : ℕ) (ys : List ℕ) → at ≤ length src → (x : Later l l') (d : Spells l' ts (drop at src ++ (y ∷ ys))) → Ours x d → IsShort src a
  pub later_cut_is_refused : {l' : Layout} {ts : List Token} (y : ℕ) (ys : List ℕ) → at ≤ length src → Later l l' → Spells l' ts (drop at src ++ (y ∷ ys))
      → (f : Refusal) × (a ≡ refused f) × ((f.fault ≡ Short) ⊎ Newer f)
