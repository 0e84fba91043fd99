-- The promises of reading, for the code: what follows from the equation with `read` that every reader ensures. Its answer, as the
-- `.. Answer` of its type means it, is `a`; `told` is that equation, for the layout of the kind's number. Assumes nothing.
use Prim.Native.Nat.{ℕ, ◌+◌, ◌≤◌, ◌<◌}
use borrow.Author.Tests.{eq-eqb}
use mathlib.Core.Path.{◌≡◌, refl, sym, ap, ◌∙◌}
use mathlib.Core.Logic.{◌⊎◌}
use mathlib.Core.Bool.{true, false}
use mathlib.Core.List.{List, ◌∷◌, ◌++◌}
use lib.ListN.{length, drop}
use lib.Seq.{drop_at, drop-drop}
use Rattle.std.specs.Prelude.{Option, Some, Err, Ok, Result}
use Rattle.faults.specs.declared.Fault.TheVariants.{Short}
use Rattle.faults.specs.declared.Refusal.{Refusal}
use Rattle.faults.specs.Faults.{bad_kind, trailing}
use Rattle.wire.specs.Answers.{measure_answer}
use Rattle.wire.specs.Bytes.{Bytes}
use Rattle.wire.specs.Layout.{Layout, no_arm}
use Rattle.wire.specs.Records.{Part, Ans, refused, Parsed, parsed, left}
use Rattle.wire.specs.Reading.{read, read_whole, end_of, IsShort}
use Rattle.wire.specs.Grammar.{Token, Spells, Stands, Starts, placed, shown}
use Rattle.wire.specs.Refusals.{Refuses, RefusesWhole, first_fault, left_over, Had}
use Rattle.wire.specs.Unions.{is_arm}
use Rattle.wire.specs.Editions.{Later, Ours, Newer, Foreign}
use Rattle.wire.proofs.Complete.{read_complete, placed_shows}
use Rattle.wire.proofs.Prefix as prefix
use Rattle.wire.proofs.Had.{refused_whole_says_what_it_had}
use Rattle.wire.proofs.Ours as ours
use Rattle.wire.proofs.Answers.{measure_answer_once}
use Rattle.wire.proofs.Whole.{whole_is_read}
use Rattle.wire.proofs.WholeExactly as whole
use Rattle.wire.proofs.Unions.{chosen_is}
use Rattle.format.specs.Kinds.{tpmt_ha, tpmt_sym_def, tpmt_kdf_scheme, tpmt_keyedhash_scheme, tpmt_sig_scheme, tpmt_asym_scheme, tpmt_public_parms, tpmt_signature, tpmt_public, tpmt_sensitive, tpms_attest, tpml_pcr_selection, tpms_capability_data, tpmt_nv_public2, tpmt_tk_creation, tpmt_tk_verified, tpmt_tk_hashcheck, tpmt_tk_auth, kinds, is_kind, layout_of, read_kind}
use Rattle.format.proofs.Numbered.{no_kind}
use Rattle.records.proofs.Promises as promises

-- ---- which layout a kind has

-- the layout of each number, as the contracts name it: `kind_layouts.11` is that of kind 11, and 0 is no kind
pub kind_layouts :
    (layout_of 0 ≡ no_arm 0)
    × (layout_of 1 ≡ tpmt_ha) × (layout_of 2 ≡ tpmt_sym_def) × (layout_of 3 ≡ tpmt_kdf_scheme) × (layout_of 4 ≡ tpmt_keyedhash_scheme) × (layout_of 5 ≡ tpmt_sig_scheme)
    × (layout_of 6 ≡ tpmt_asym_scheme) × (layout_of 7 ≡ tpmt_asym_scheme) × (layout_of 8 ≡ tpmt_asym_scheme)
    × (layout_of 9 ≡ tpmt_public_parms) × (layout_of 10 ≡ tpmt_signature) × (layout_of 11 ≡ tpmt_public) × (layout_of 12 ≡ tpmt_sensitive)
    × (layout_of 13 ≡ tpms_attest) × (layout_of 14 ≡ tpml_pcr_selection) × (layout_of 15 ≡ tpms_capability_data)
    × (layout_of 16 ≡ tpmt_nv_public2) × (layout_of 17 ≡ tpmt_tk_creation) × (layout_of 18 ≡ tpmt_tk_verified) × (layout_of 19 ≡ tpmt_tk_hashcheck) × (layout_of 20 ≡ tpmt_tk_auth)
unfolding layout_of kinds
kind_layouts = (refl, refl, refl, refl, refl, refl, refl, refl, refl, refl, refl, refl, refl, refl, refl, refl, refl, refl, refl, refl, refl)

-- what a reader of the layout ensures is what a reader of the kind ensures
pub read_by_number : {l : Layout} {a : Ans Parsed} (k : ℕ) (src : List ℕ) (at : ℕ) → layout_of k ≡ l → a ≡ read l src at → a ≡ read (layout_of k) src at
read_by_number k src at e told = rw e told

-- ---- a record read as a prefix

module _ (k : ℕ) (src : List ℕ) (at : ℕ) {a : Ans Parsed} (told : a ≡ read (layout_of k) src at) where
  -- an accepted record, its fields and its end are those of a legal record that starts there
  pub accepted_is_legal : {ps : List Part} {e : ℕ} → Bytes src → a ≡ parsed ps e
      → (d : Starts (layout_of k) src at e) × (ps ≡ placed d.spells at) × (shown src ps ≡ d.tokens)
  accepted_is_legal b found = prefix.accepted_is_legal (layout_of k) src at b (sym told ∙ found)

  -- its tail is all that stands behind that record
  pub tail_is_the_rest : {ps : List Part} {e : ℕ} {tail : List ℕ} → Bytes src → a ≡ parsed ps e → tail ≡ drop e src
      → (d : Starts (layout_of k) src at e) × (drop at src ≡ d.front ++ tail)
  tail_is_the_rest b found rest =
      let d = (accepted_is_legal b found).0 in
      let n = length d.front in
      let behind = sym (drop_at d.front d.stands.rest n refl) ∙ ap (λ xs. drop n xs) (sym d.stands.begins) ∙ drop-drop n at src ∙ ap (λ m. drop m src) (sym d.ends) in
      (d, d.stands.begins ∙ ap (λ xs. d.front ++ xs) (behind ∙ sym rest))

  -- a legal record that starts there is accepted, with its fields, and ends where it ends, whatever stands behind
  pub legal_is_accepted : {ts : List Token} {bs : List ℕ} (d : Spells (layout_of k) ts bs) → Stands src at bs
      → (a ≡ parsed (placed d at) (at + length bs)) × (shown src (placed d at) ≡ ts)
  legal_is_accepted d stands = (told ∙ read_complete d stands, placed_shows d stands)

  -- a refusal means that no legal record starts there
  pub refused_means_none : {e : ℕ} {f : Refusal} → a ≡ refused f → Starts (layout_of k) src at e → ⊥
  refused_means_none fails d = promises.refused_means_none k (sym told ∙ fails) d

  -- and where none starts, there is a refusal
  pub none_means_refused : Bytes src → ((e : ℕ) → Starts (layout_of k) src at e → ⊥) → (f : Refusal) × (a ≡ refused f)
  none_means_refused b none = let (f, p) = promises.none_means_refused k src at b none in (f, told ∙ p)

  -- it names the first fault in wire order
  pub refusal_is_first : {f : Refusal} → Bytes src → a ≡ refused f → Refuses src (layout_of k) at f
  refusal_is_first {f} b fails = promises.refusal_is_first k src at f b (sym told ∙ fails)

  pub first_is_refusal : {f : Refusal} → Refuses src (layout_of k) at f → a ≡ refused f
  first_is_refusal faulty = told ∙ promises.first_is_refusal k faulty

  -- it says what it had
  pub refusal_says_what_it_had : {f : Refusal} → a ≡ refused f → Had src f
  refusal_says_what_it_had {f} fails = promises.refusal_says_what_it_had k src at f (sym told ∙ fails)

  -- where a legal record of a later edition starts: if its codes and arms are all ours, it is accepted with its fields and ends where it
  -- ends, whatever stands behind
  pub ours_is_read : {l' : Layout} {ts : List Token} {bs : List ℕ} (x : Later (layout_of k) l') (d : Spells l' ts bs) → Stands src at bs → Ours x d
      → (a ≡ parsed (placed d at) (at + length bs)) × (shown src (placed d at) ≡ ts)
  ours_is_read x d stands all = (told ∙ ours.ours_is_read x d stands all, placed_shows d stands)

  -- any other is refused at the first code or arm, in wire order, that is not ours
  pub not_ours_is_refused : {l' : Layout} {ts : List Token} {bs : List ℕ} (x : Later (layout_of k) l') (d : Spells l' ts bs) → Stands src at bs → (Ours x d → ⊥)
      → (f : Refusal) × Foreign (layout_of k) src at (at + length bs) f × (a ≡ refused f)
  not_ours_is_refused x d stands foreign = let (f, g, p) = ours.not_ours_is_refused x d stands foreign in (f, g, told ∙ p)

-- ---- a record that is cut

module _ (k : ℕ) (before xs : List ℕ) (y : ℕ) (ys : List ℕ) {a : Ans Parsed} (told : a ≡ read (layout_of k) (before ++ xs) (length before)) where
  -- the beginning of a legal record is Short
  pub cut_is_short : {ts : List Token} → Bytes before → Spells (layout_of k) ts (xs ++ (y ∷ ys)) → IsShort (before ++ xs) a
  cut_is_short b d = let (place, needed, p) = promises.cut_is_short k before xs y ys b d in (place, needed, told ∙ p)

  -- that of a later edition's record that is all ours is Short too
  pub cut_ours_is_short : {l' : Layout} {ts : List Token} → Bytes before → (x : Later (layout_of k) l') (d : Spells l' ts (xs ++ (y ∷ ys))) → Ours x d → IsShort (before ++ xs) a
  cut_ours_is_short b x d all = let (place, needed, p) = promises.cut_ours_is_short k before xs y ys b x d all in (place, needed, told ∙ p)

  -- that of any other is Short, or refused for a code or an arm that is not ours
  pub later_edition_cut : {l' : Layout} {ts : List Token} → Bytes before → Later (layout_of k) l' → Spells l' ts (xs ++ (y ∷ ys))
      → (f : Refusal) × (a ≡ refused f) × ((f.fault ≡ Short) ⊎ Newer f)
  later_edition_cut b x d = let (f, p, why) = promises.later_edition_cut k before xs y ys b x d in (f, told ∙ p, why)

-- ---- a record read whole

module _ (k : ℕ) (src : List ℕ) (at : ℕ) {a : Ans Parsed} (told : a ≡ read_whole (layout_of k) src at) where
  -- what is accepted whole is accepted as a prefix, and nothing stands behind it
  pub whole_has_no_tail : {ps : List Part} {e : ℕ} → a ≡ parsed ps e → (read (layout_of k) src at ≡ parsed ps e) × (length src ≤ e)
  whole_has_no_tail found = whole_is_read (layout_of k) src at (sym told ∙ found)

  -- what is accepted whole is all that stands there: a legal record, with its fields, which ends where the input ends (past the end, where
  -- it was looked for)
  pub whole_accepts_only_all : {ps : List Part} {e : ℕ} → Bytes src → a ≡ parsed ps e
      → (ts : List Token) × (d : Spells (layout_of k) ts (drop at src)) × (ps ≡ placed d at) × (shown src ps ≡ ts) × (e ≡ at + left src at)
  whole_accepts_only_all b found = whole.whole_accepts_only_all (layout_of k) src at b (sym told ∙ found)

  -- a legal record that is all that stands there is accepted
  pub legal_is_accepted_whole : {ts : List Token} {bs : List ℕ} (d : Spells (layout_of k) ts bs) → drop at src ≡ bs → a ≡ parsed (placed d at) (at + length bs)
  legal_is_accepted_whole d all = told ∙ whole.legal_is_accepted_whole (layout_of k) src at d all

  -- with bytes behind it, it is Trailing: where it ends, and how many are left
  pub tail_is_trailing : {e : ℕ} → Starts (layout_of k) src at e → e < length src → a ≡ refused (trailing e (left src e))
  tail_is_trailing {e} d more = told ∙ whole.why_is_whole_refusal (layout_of k) src at (left_over e d more refl)

  -- where none starts, the first fault in wire order is answered
  pub whole_first_is_refusal : {f : Refusal} → Refuses src (layout_of k) at f → a ≡ refused f
  whole_first_is_refusal first = told ∙ whole.why_is_whole_refusal (layout_of k) src at (first_fault first)

  -- and what is refused is refused for one of these two
  pub whole_refusal_says_why : {f : Refusal} → Bytes src → a ≡ refused f → RefusesWhole src (layout_of k) at f
  whole_refusal_says_why {f} b fails = whole.whole_refusal_says_why (layout_of k) src at f b (sym told ∙ fails)

  -- it says what it had
  pub whole_refusal_says_what_it_had : {f : Refusal} → a ≡ refused f → Had src f
  whole_refusal_says_what_it_had {f} fails = refused_whole_says_what_it_had (layout_of k) src at f (sym told ∙ fails)

  -- a legal record of a later edition that is all that stands there is accepted, if it is all ours
  pub ours_is_read_whole : {l' : Layout} {ts : List Token} {bs : List ℕ} (x : Later (layout_of k) l') (d : Spells l' ts bs) → drop at src ≡ bs → Ours x d → a ≡ parsed (placed d at) (at + length bs)
  ours_is_read_whole x d alone all = told ∙ ours.ours_is_read_whole src at x d alone all

  -- with bytes behind it, it is Trailing
  pub ours_with_a_tail_is_trailing : {l' : Layout} {ts : List Token} {bs : List ℕ} (x : Later (layout_of k) l') (d : Spells l' ts bs) → Stands src at bs → at + length bs < length src → Ours x d
      → a ≡ refused (trailing (at + length bs) (left src (at + length bs)))
  ours_with_a_tail_is_trailing x d stands more all = told ∙ ours.ours_with_a_tail_is_trailing x d stands more all

  -- and any other is refused at the first code or arm that is not ours
  pub not_ours_is_refused_whole : {l' : Layout} {ts : List Token} {bs : List ℕ} (x : Later (layout_of k) l') (d : Spells l' ts bs) → Stands src at bs → (Ours x d → ⊥)
      → (f : Refusal) × Foreign (layout_of k) src at (at + length bs) f × (a ≡ refused f)
  not_ours_is_refused_whole x d stands foreign = let (f, g, p) = ours.not_ours_is_refused_whole x d stands foreign in (f, g, told ∙ p)

-- ---- where a record ends, by its kind's number

module _ (k : ℕ) (src : List ℕ) (at : ℕ) {r : Result ℕ Refusal} (told : measure_answer r ≡ end_of (read_kind k src at)) where
  -- the end that `record_end` answers is where a legal record of that kind ends
  pub end_is_legal : {e : ℕ} → Bytes src → is_kind k ≡ true → r ≡ Ok e → Starts (layout_of k) src at e
  end_is_legal b some given = promises.end_is_legal k src at b some (sym told ∙ ap measure_answer given)

  -- where one ends, that end is answered
  pub legal_has_end : {e : ℕ} → is_kind k ≡ true → Starts (layout_of k) src at e → r ≡ Ok e
  legal_has_end {e} some d = measure_answer_once r (Ok e) (told ∙ promises.legal_has_end k some d)

  -- where a legal record of a later edition ends, that end is answered, if it is all ours
  pub ours_has_end : {l' : Layout} {ts : List Token} {bs : List ℕ} → is_kind k ≡ true → (x : Later (layout_of k) l') (d : Spells l' ts bs) → Stands src at bs → Ours x d → r ≡ Ok (at + length bs)
  ours_has_end {bs = bs} some x d stands all = measure_answer_once r (Ok (at + length bs)) (told ∙ promises.ours_has_end k some x d stands all)

  -- any other is refused at the first code or arm that is not ours
  pub not_ours_has_no_end : {l' : Layout} {ts : List Token} {bs : List ℕ} → is_kind k ≡ true → (x : Later (layout_of k) l') (d : Spells l' ts bs) → Stands src at bs → (Ours x d → ⊥)
      → (f : Refusal) × Foreign (layout_of k) src at (at + length bs) f × (r ≡ Err f)
  not_ours_has_no_end some x d stands foreign =
      let (f, g, p) = promises.not_ours_has_no_end k some x d stands foreign in
      (f, g, measure_answer_once r (Err f) (told ∙ p))

  -- and a number that is no kind is refused as such
  pub no_kind_has_no_end : is_kind k ≡ false → r ≡ Err (bad_kind k)
  no_kind_has_no_end none = measure_answer_once r (Err (bad_kind k)) (told ∙ sym (no_kind k src at none))

-- ---- arms

-- `matches_tag` says yes exactly when the arm that is held is the one that the selector chooses
pub matches_the_chosen : (c : Option ℕ) (t : ℕ) → is_arm c t ≡ true → c ≡ Some t
matches_the_chosen c t e = chosen_is c t e

pub chosen_matches : (c : Option ℕ) (t : ℕ) → c ≡ Some t → is_arm c t ≡ true
chosen_matches c t e = rw (e, eq-eqb t t refl)
