-- The promises of reading, for every kind by one statement over the kind's number. Assumes nothing.
use Prim.Native.Nat.{ℕ, ◌+◌}
use mathlib.Core.Path.{◌≡◌, refl, sym, ap, ◌∙◌}
use mathlib.Core.Logic.{◌⊎◌}
use mathlib.Core.Bool.{true}
use mathlib.Core.List.{List, [], ◌∷◌, ◌++◌}
use lib.ListN.{length}
use Rattle.faults.specs.declared.Fault.TheVariants.{Short}
use Rattle.faults.specs.declared.Refusal.{Refusal}
use Rattle.wire.specs.Bytes.{Bytes}
use Rattle.wire.specs.Layout.{Layout}
use Rattle.wire.specs.Records.{found, refused, Parsed, parsed}
use Rattle.wire.specs.Reading.{read, end_of, IsShort}
use Rattle.wire.specs.Grammar.{Token, Spells, Stands, Starts, placed, shown}
use Rattle.wire.specs.Refusals.{Refuses, Had}
use Rattle.wire.specs.Editions.{Later, Ours, Newer, Foreign}
use Rattle.wire.proofs.Stand.{stands_start}
use Rattle.wire.proofs.Steps.{next_found, found_same}
use Rattle.wire.proofs.Complete.{read_complete, placed_shows}
use Rattle.wire.proofs.Sound.{read_sound}
use Rattle.wire.proofs.Prefix.{starts_read, refused_none, none_refused, prefix_free, one_spelling}
use Rattle.wire.proofs.Refused.{refuses_read, read_refuses}
use Rattle.wire.proofs.Had.{refused_says_what_it_had}
use Rattle.wire.proofs.Stable.{cut_short}
use Rattle.wire.proofs.Ours as ours
use Rattle.format.specs.Kinds.{is_kind, layout_of, read_kind}
use Rattle.format.proofs.Numbered.{of_kind}

module _ (k : ℕ) where
  -- ---- a record is found exactly where a legal one starts

  -- where a legal record of the kind starts, it is read, to its end, and shows what it says, whatever stands behind
  pub legal_is_read : {ts : List Token} {bs : List ℕ} (d : Spells (layout_of k) ts bs) (tail : List ℕ)
      → (read (layout_of k) (bs ++ tail) 0 ≡ parsed (placed d 0) (0 + length bs)) × (shown (bs ++ tail) (placed d 0) ≡ ts)
  legal_is_read {bs = bs} d tail = (read_complete d (stands_start bs tail), placed_shows d (stands_start bs tail))

  -- what is read is a legal record that starts there
  pub read_is_legal : (src : List ℕ) (at : ℕ) (r : Parsed) → Bytes src → read (layout_of k) src at ≡ found r → Starts (layout_of k) src at r.stops
  read_is_legal = read_sound (layout_of k)

  -- a refusal means that no legal record starts there
  pub refused_means_none : {src : List ℕ} {at e : ℕ} {f : Refusal} → read (layout_of k) src at ≡ refused f → Starts (layout_of k) src at e → ⊥
  refused_means_none = refused_none

  -- and where none starts, there is a refusal
  pub none_means_refused : (src : List ℕ) (at : ℕ) → Bytes src → ((e : ℕ) → Starts (layout_of k) src at e → ⊥) → (f : Refusal) × (read (layout_of k) src at ≡ refused f)
  none_means_refused = none_refused (layout_of k)

  -- it names the first field, in wire order, that is not as the layout has it
  pub refusal_is_first : (src : List ℕ) (at : ℕ) (f : Refusal) → Bytes src → read (layout_of k) src at ≡ refused f → Refuses src (layout_of k) at f
  refusal_is_first = read_refuses (layout_of k)

  pub first_is_refusal : {src : List ℕ} {at : ℕ} {f : Refusal} → Refuses src (layout_of k) at f → read (layout_of k) src at ≡ refused f
  first_is_refusal = refuses_read

  -- it says what it had
  pub refusal_says_what_it_had : (src : List ℕ) (at : ℕ) (f : Refusal) → read (layout_of k) src at ≡ refused f → Had src f
  refusal_says_what_it_had = refused_says_what_it_had (layout_of k)

  -- ---- records side by side, and cut

  pub no_record_begins_another : {ts us : List Token} {bs : List ℕ} (more : List ℕ) → Spells (layout_of k) ts bs → Spells (layout_of k) us (bs ++ more) → (more ≡ []) × (ts ≡ us)
  no_record_begins_another = prefix_free

  pub one_record_one_spelling : {ts : List Token} {bs cs : List ℕ} → Spells (layout_of k) ts bs → Spells (layout_of k) ts cs → bs ≡ cs
  one_record_one_spelling = one_spelling

  pub cut_is_short : {ts : List Token} (before xs : List ℕ) (y : ℕ) (ys : List ℕ) → Bytes before → Spells (layout_of k) ts (xs ++ (y ∷ ys)) → IsShort (before ++ xs) (read (layout_of k) (before ++ xs) (length before))
  cut_is_short = cut_short

  -- ---- later editions

  -- a legal record of a later edition whose codes and arms are all ours is read, to its end, and shows what it says, whatever stands behind
  pub ours_is_read : {l' : Layout} {ts : List Token} {bs : List ℕ} (x : Later (layout_of k) l') (d : Spells l' ts bs) (tail : List ℕ) → Ours x d
      → (read (layout_of k) (bs ++ tail) 0 ≡ parsed (placed d 0) (0 + length bs)) × (shown (bs ++ tail) (placed d 0) ≡ ts)
  ours_is_read {bs = bs} x d tail all = (ours.ours_is_read x d (stands_start bs tail) all, placed_shows d (stands_start bs tail))

  -- any other is refused at the first code or arm, in wire order, that is not ours
  pub not_ours_is_refused : {l' : Layout} {ts : List Token} {bs : List ℕ} (x : Later (layout_of k) l') (d : Spells l' ts bs) (tail : List ℕ) → (Ours x d → ⊥)
      → (f : Refusal) × Foreign (layout_of k) (bs ++ tail) 0 (0 + length bs) f × (read (layout_of k) (bs ++ tail) 0 ≡ refused f)
  not_ours_is_refused {bs = bs} x d tail foreign = ours.not_ours_is_refused x d (stands_start bs tail) foreign

  -- one that is all ours and is cut is Short
  pub cut_ours_is_short : {l' : Layout} {ts : List Token} (before xs : List ℕ) (y : ℕ) (ys : List ℕ) → Bytes before → (x : Later (layout_of k) l') (d : Spells l' ts (xs ++ (y ∷ ys))) → Ours x d
      → IsShort (before ++ xs) (read (layout_of k) (before ++ xs) (length before))
  cut_ours_is_short = ours.cut_ours_is_short

  -- and any that is cut is refused
  pub later_edition_cut : {l' : Layout} {ts : List Token} (before xs : List ℕ) (y : ℕ) (ys : List ℕ) → Bytes before → Later (layout_of k) l' → Spells l' ts (xs ++ (y ∷ ys))
      → (f : Refusal) × (read (layout_of k) (before ++ xs) (length before) ≡ refused f) × ((f.fault ≡ Short) ⊎ Newer f)
  later_edition_cut = ours.later_cut

  -- ---- by number: what `record_end` answers

  -- the end that is answered is where a legal record of that kind ends
  pub end_is_legal : (src : List ℕ) (at : ℕ) {e : ℕ} → Bytes src → is_kind k ≡ true → end_of (read_kind k src at) ≡ found e → Starts (layout_of k) src at e
  end_is_legal src at {e} b h p =
      let (r, q, s) = next_found (read (layout_of k) src at) _ (ap end_of (of_kind k src at refl h) ∙ p) in
      rw (← found_same s) (read_sound (layout_of k) src at r b q)

  -- and where one ends, that end is answered
  pub legal_has_end : {src : List ℕ} {at e : ℕ} → is_kind k ≡ true → Starts (layout_of k) src at e → end_of (read_kind k src at) ≡ found e
  legal_has_end {src} {at} h d = sym (ap end_of (of_kind k src at refl h)) ∙ ap end_of (starts_read d)

  -- where a legal record of a later edition stands: if it is all ours, its end is answered
  pub ours_has_end : {l' : Layout} {ts : List Token} {bs src : List ℕ} {at : ℕ} → is_kind k ≡ true → (x : Later (layout_of k) l') (d : Spells l' ts bs) → Stands src at bs → Ours x d
      → end_of (read_kind k src at) ≡ found (at + length bs)
  ours_has_end {src = src} {at} h x d stands all = sym (ap end_of (of_kind k src at refl h)) ∙ ap end_of (ours.ours_is_read x d stands all)

  -- and any other is refused
  pub not_ours_has_no_end : {l' : Layout} {ts : List Token} {bs src : List ℕ} {at : ℕ} → is_kind k ≡ true → (x : Later (layout_of k) l') (d : Spells l' ts bs) → Stands src at bs → (Ours x d → ⊥)
      → (f : Refusal) × Foreign (layout_of k) src at (at + length bs) f × (end_of (read_kind k src at) ≡ refused f)
  not_ours_has_no_end {src = src} {at} h x d stands foreign =
      let (f, g, p) = ours.not_ours_is_refused x d stands foreign in
      (f, g, sym (ap end_of (of_kind k src at refl h)) ∙ ap end_of p)
