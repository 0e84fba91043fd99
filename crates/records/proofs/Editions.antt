-- The third promise, in the words of an edition that extends ours: each kind's layout in it is later than ours, and so all that is proved of
-- later layouts holds. As in Readers, `told` is what the code ensures of its answer. Assumes nothing.
use Prim.Native.Nat.{ℕ, ◌+◌, ◌<◌}
use mathlib.Core.Path.{◌≡◌, refl, sym, ap, ◌∙◌}
use mathlib.Core.Logic.{◌⊎◌}
use mathlib.Core.Bool.{true}
use mathlib.Core.List.{List, ◌∷◌, ◌++◌}
use lib.ListN.{length, drop}
use Rattle.std.specs.Prelude.{Err, Ok, Result}
use Rattle.faults.specs.declared.Fault.TheVariants.{Short}
use Rattle.faults.specs.declared.Refusal.{Refusal}
use Rattle.faults.specs.Faults.{trailing}
use Rattle.wire.specs.Answers.{measure_answer}
use Rattle.wire.specs.Bytes.{Bytes}
use Rattle.wire.specs.Records.{Ans, refused, Parsed, parsed, left}
use Rattle.wire.specs.Reading.{read, read_whole, end_of, IsShort}
use Rattle.wire.specs.Grammar.{Token, Spells, Stands, placed, shown}
use Rattle.wire.specs.Editions.{Ours, Newer, Foreign}
use Rattle.wire.proofs.Answers.{measure_answer_once}
use Rattle.wire.proofs.Whole.{refused_is_refused_whole}
use Rattle.wire.proofs.Ours.{ours_kept, legal_is_ours}
use Rattle.format.specs.Kinds.{is_kind, layout_of, read_kind}
use Rattle.format.specs.Editions.{Edition, Extends}
use Rattle.format.specs.EditionKinds.{layout_in}
use Rattle.format.proofs.Numbered.{of_kind}
use Rattle.format.proofs.Editions.{extension_is_later}
use Rattle.records.proofs.Promises as promises
use Rattle.records.proofs.Readers as readers

-- every code of d, a record of kind k of the edition, is one that we list, and every arm that it holds is one of ours
abbrev pub AllOurs : {e : Edition} (x : Extends e) (k : ℕ) {ts : List Token} {bs : List ℕ} → Spells (layout_in e k) ts bs → Type 0
AllOurs x k d = Ours (extension_is_later x k) d

-- that is: its bytes are a legal record of ours too
module _ {e : Edition} (x : Extends e) (k : ℕ) {ts : List Token} {bs : List ℕ} (d : Spells (layout_in e k) ts bs) where
  pub ours_is_legal : AllOurs x k d → Spells (layout_of k) ts bs
  ours_is_legal all = (ours_kept (extension_is_later x k) d all).0

  pub legal_is_all_ours : Spells (layout_of k) ts bs → AllOurs x k d
  legal_is_all_ours c = legal_is_ours (extension_is_later x k) d c

-- ---- read as a prefix

module _ {e : Edition} (x : Extends e) (k : ℕ) (src : List ℕ) (at : ℕ) {a : Ans Parsed} (told : a ≡ read (layout_of k) src at)
    {ts : List Token} {bs : List ℕ} (d : Spells (layout_in e k) ts bs) (stands : Stands src at bs) where
  -- where a legal record of the edition stands: if its codes and arms are all ours, it is accepted with its fields and ends where it ends,
  -- whatever stands behind
  pub ours_is_read : AllOurs x k d → (a ≡ parsed (placed d at) (at + length bs)) × (shown src (placed d at) ≡ ts)
  ours_is_read all = readers.ours_is_read k src at told (extension_is_later x k) d stands all

  -- any other is refused with UnknownCode or NoArm at the first code or arm, in wire order, that is not ours, and that stands in the record
  pub not_ours_is_refused : (AllOurs x k d → ⊥) → (f : Refusal) × Foreign (layout_of k) src at (at + length bs) f × (a ≡ refused f)
  not_ours_is_refused foreign = readers.not_ours_is_refused k src at told (extension_is_later x k) d stands foreign

-- ---- read whole

module _ {e : Edition} (x : Extends e) (k : ℕ) (src : List ℕ) (at : ℕ) {a : Ans Parsed} (told : a ≡ read_whole (layout_of k) src at)
    {ts : List Token} {bs : List ℕ} (d : Spells (layout_in e k) ts bs) where
  -- a record of the edition that is all ours, and all that stands there, is accepted
  pub ours_is_read_whole : drop at src ≡ bs → AllOurs x k d → a ≡ parsed (placed d at) (at + length bs)
  ours_is_read_whole alone all = readers.ours_is_read_whole k src at told (extension_is_later x k) d alone all

  -- with bytes behind it, it is Trailing: where it ends, and how many are left
  pub ours_with_a_tail_is_trailing : Stands src at bs → at + length bs < length src → AllOurs x k d → a ≡ refused (trailing (at + length bs) (left src (at + length bs)))
  ours_with_a_tail_is_trailing stands more all = readers.ours_with_a_tail_is_trailing k src at told (extension_is_later x k) d stands more all

  -- and any other is refused as it is as a prefix
  pub not_ours_is_refused_whole : Stands src at bs → (AllOurs x k d → ⊥) → (f : Refusal) × Foreign (layout_of k) src at (at + length bs) f × (a ≡ refused f)
  not_ours_is_refused_whole stands foreign = readers.not_ours_is_refused_whole k src at told (extension_is_later x k) d stands foreign

-- ---- where it ends, by the kind's number

module _ {e : Edition} (x : Extends e) (k : ℕ) (src : List ℕ) (at : ℕ) {r : Result ℕ Refusal} (told : measure_answer r ≡ end_of (read_kind k src at))
    {ts : List Token} {bs : List ℕ} (some : is_kind k ≡ true) (d : Spells (layout_in e k) ts bs) (stands : Stands src at bs) where
  -- of a record of the edition that is all ours `record_end` answers the end
  pub ours_has_end : AllOurs x k d → r ≡ Ok (at + length bs)
  ours_has_end all = readers.ours_has_end k src at told some (extension_is_later x k) d stands all

  -- and any other it refuses
  pub not_ours_has_no_end : (AllOurs x k d → ⊥) → (f : Refusal) × Foreign (layout_of k) src at (at + length bs) f × (r ≡ Err f)
  not_ours_has_no_end foreign = readers.not_ours_has_no_end k src at told some (extension_is_later x k) d stands foreign

-- ---- cut: xs stands at the end of the input, and the record goes on

module _ {e : Edition} (x : Extends e) (k : ℕ) (before xs : List ℕ) (y : ℕ) (ys : List ℕ) (b : Bytes before) {ts : List Token} (d : Spells (layout_in e k) ts (xs ++ (y ∷ ys))) where
  -- a record of the edition that is all ours and is cut is Short
  pub cut_ours_is_short : {a : Ans Parsed} → a ≡ read (layout_of k) (before ++ xs) (length before) → AllOurs x k d → IsShort (before ++ xs) a
  cut_ours_is_short told all = readers.cut_ours_is_short k before xs y ys told b (extension_is_later x k) d all

  -- any that is cut is refused: with Short, or for a code or an arm that is not ours
  pub cut_is_refused : {a : Ans Parsed} → a ≡ read (layout_of k) (before ++ xs) (length before) → (f : Refusal) × (a ≡ refused f) × ((f.fault ≡ Short) ⊎ Newer f)
  cut_is_refused told = readers.later_edition_cut k before xs y ys told b (extension_is_later x k) d

  -- so it is whole
  pub cut_is_refused_whole : {a : Ans Parsed} → a ≡ read_whole (layout_of k) (before ++ xs) (length before) → (f : Refusal) × (a ≡ refused f) × ((f.fault ≡ Short) ⊎ Newer f)
  cut_is_refused_whole told =
      let (f, p, why) = promises.later_edition_cut k before xs y ys b (extension_is_later x k) d in
      (f, told ∙ refused_is_refused_whole (layout_of k) (before ++ xs) (length before) p, why)

  -- and `record_end` answers no end
  pub cut_has_no_end : {r : Result ℕ Refusal} → is_kind k ≡ true → measure_answer r ≡ end_of (read_kind k (before ++ xs) (length before)) → (f : Refusal) × (r ≡ Err f) × ((f.fault ≡ Short) ⊎ Newer f)
  cut_has_no_end {r} some told =
      let (f, p, why) = promises.later_edition_cut k before xs y ys b (extension_is_later x k) d in
      (f, measure_answer_once r (Err f) (told ∙ sym (ap end_of (of_kind k (before ++ xs) (length before) refl some)) ∙ ap end_of p), why)
