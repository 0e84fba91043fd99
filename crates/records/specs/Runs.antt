-- Records of one kind in a row, one behind the other with nothing between them: what such a row is, what repeated reading finds of it, and
-- what is owed to whoever has it divided. Assumes nothing.
use Rattle.std.specs.Prelude.{ℕ, zero, suc, ◌+◌, ◌≤◌, ◌<◌, ◌≡◌, ◌⊎◌, true, false, cond, List, [], ◌∷◌, ◌++◌, length, drop, leb, Err, Ok, Result}
use Rattle.faults.specs.declared.Refusal.{Refusal}
use Rattle.faults.specs.Faults.{bad_kind, no_room}
use Rattle.wire.specs.Answers.{measure_answer}
use Rattle.wire.specs.Layout.{Layout}
use Rattle.wire.specs.Records.{Ans, found, refused, next}
use Rattle.wire.specs.Reading.{Reader, read, end_of}
use Rattle.wire.specs.Grammar.{Token, Spells, Stands}
use Rattle.wire.specs.Refusals.{Refuses, Had}
use Rattle.wire.specs.Fields.{size_of}
use Rattle.wire.specs.Filling.{written, filled}
use Rattle.format.specs.Kinds.{is_kind, layout_of}

-- ---- rows, with no reader in sight

-- Run l at tss es bs: the bytes bs are records of the layout l, one behind the other. The first starts at the place `at`; they show tss, one
-- list of tokens a record, and end at the places es
pub data Run (l : Layout) : (at : ℕ) → List (List Token) → (es bs : List ℕ) → Type 0 where
  -- no bytes: no record
  none : {at : ℕ} → Run l at [] [] []
  -- a record, which ends at e, and from there on the others
  more : {at e : ℕ} {ts : List Token} {tss : List (List Token)} {es bs xs ys : List ℕ}
      → bs ≡ xs ++ ys → Spells l ts xs → e ≡ at + length xs → Run l e tss es ys
      → Run l at (ts ∷ tss) (e ∷ es) bs

-- RefusesRow k src f: why src is no row of records of the kind k. There is no such kind; or src begins with such records, none at all
-- perhaps, and there are bytes left where the last of them ends, of which f is the first fault
pub data RefusesRow (k : ℕ) (src : List ℕ) (f : Refusal) : Type 0 where
  no_kind : is_kind k ≡ false → f ≡ bad_kind k → RefusesRow k src f
  no_record : {tss : List (List Token)} {es xs : List ℕ} → is_kind k ≡ true
      → Run (layout_of k) 0 tss es xs → Stands src 0 xs → length xs < length src → Refuses src (layout_of k) (length xs) f
      → RefusesRow k src f

-- ---- repeated reading

-- where the records end that are read one behind the other, each from where the last ended, until nothing is left; the first refusal
-- decides. It is told how many records there may be at most: with one for each byte that is left it comes to the end, if every record has a
-- byte
abbrev pub ends_from : Layout → (most : ℕ) → Reader (List ℕ)
ends_from l zero src at = found []
ends_from l (suc most) src at =
    cond (leb (length src) at)
    (found [])
    (next (end_of (read l src at))
    (λ e. next (ends_from l most src e)
    (λ es. found (e ∷ es))))

-- where the records end that the whole of src is; a number that is no kind is refused before any byte is looked at, and where there is none
unfoldable pub divided : (kind : ℕ) (src : List ℕ) → Ans (List ℕ)
divided k src = cond (is_kind k) (ends_from (layout_of k) (length src) src 0) (refused (bad_kind k))

-- ---- what is owed

-- What is owed to whoever asks how many records of a kind the whole of src is: r was answered
pub record CountsRow (kind : ℕ) (src : List ℕ) (r : Result ℕ Refusal) : Type 0 where
  -- how many repeated reading finds, or the first refusal: the input determines it
  pub answer : measure_answer r ≡ size_of (divided kind src)
  -- a row of records of the kind is counted
  pub run_is_counted : {tss : List (List Token)} {es : List ℕ} → is_kind kind ≡ true → Run (layout_of kind) 0 tss es src → r ≡ Ok (length tss)
  -- what is counted is one
  pub counted_is_run : {n : ℕ} → r ≡ Ok n
      → (is_kind kind ≡ true) × (tss : List (List Token)) × (es : List ℕ) × Run (layout_of kind) 0 tss es src × (n ≡ length tss)
  -- a refusal means that it is none, and what is none is refused
  pub refused_means_none : {tss : List (List Token)} {es : List ℕ} {f : Refusal} → is_kind kind ≡ true → r ≡ Err f → Run (layout_of kind) 0 tss es src → ⊥
  pub none_means_refused : ((tss : List (List Token)) (es : List ℕ) → Run (layout_of kind) 0 tss es src → ⊥) → (f : Refusal) × (r ≡ Err f)
  -- the refusal says that there is no such kind, or is that of the first record that is not there; and what says so is answered
  pub refusal_is_first : {f : Refusal} → r ≡ Err f → RefusesRow kind src f
  pub first_is_refusal : {f : Refusal} → RefusesRow kind src f → r ≡ Err f
  -- it says what it had
  pub refusal_says_what_it_had : {f : Refusal} → r ≡ Err f → Had src f

-- What is owed to whoever has src divided into records of a kind, and lends cells for the places where they end: how many there are, or why
-- not; and all that the cells hold afterwards. They held old before and hold last now, and r was answered
pub record DividesRow (kind : ℕ) (src old : List ℕ) (r : Result ℕ Refusal) (last : List ℕ) : Type 0 where
  -- how many repeated reading finds, the first refusal, or that there are too few cells: the input and the cells determine it
  pub answer : measure_answer r ≡ written 0 (divided kind src) old
  -- the ends and then what was there, or all that was there
  pub cells : last ≡ filled 0 (divided kind src) old
  -- a row of records of the kind is divided where each of them ends, if there are cells for that
  pub run_is_divided : {tss : List (List Token)} {es : List ℕ} → is_kind kind ≡ true → Run (layout_of kind) 0 tss es src → length es ≤ length old
      → (r ≡ Ok (length es)) × (last ≡ es ++ drop (length es) old)
  -- what is divided is such a row
  pub divided_is_run : {n : ℕ} → r ≡ Ok n
      → (is_kind kind ≡ true) × (tss : List (List Token)) × (es : List ℕ) × Run (layout_of kind) 0 tss es src × (n ≡ length es) × (n ≤ length old) × (last ≡ es ++ drop n old)
  -- with cells enough a refusal means that it is none, and what is none is refused
  pub refused_means_none : {tss : List (List Token)} {es : List ℕ} {f : Refusal} → is_kind kind ≡ true → r ≡ Err f → length es ≤ length old → Run (layout_of kind) 0 tss es src → ⊥
  pub none_means_refused : ((tss : List (List Token)) (es : List ℕ) → Run (layout_of kind) 0 tss es src → ⊥) → (f : Refusal) × (r ≡ Err f)
  -- a refusal changes no cell
  pub refused_changes_nothing : {f : Refusal} → r ≡ Err f → last ≡ old
  -- it says why src is no such row; or it is one, and there are fewer cells than records, of which it says how many there are
  pub refusal_is_first : {f : Refusal} → r ≡ Err f
      → RefusesRow kind src f
      ⊎ ((tss : List (List Token)) × (es : List ℕ) × Run (layout_of kind) 0 tss es src × (length old < length es) × (f ≡ no_room 0 (length es)))
  -- and what says so is answered
  pub first_is_refusal : {f : Refusal} → RefusesRow kind src f → r ≡ Err f
  pub run_needs_cells : {tss : List (List Token)} {es : List ℕ} → is_kind kind ≡ true → Run (layout_of kind) 0 tss es src → length old < length es
      → r ≡ Err (no_room 0 (length es))
  -- it says what it had
  pub refusal_says_what_it_had : {f : Refusal} → r ≡ Err f → Had src f
