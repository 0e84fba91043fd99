-- What whoever has a deposit listed can rely on. Assumes nothing.
use Prim.Native.Nat.{ℕ, ◌+◌, ◌-◌, ◌≤◌, ◌<◌}
use native.Mathlib.Omega.{arith}
use borrow.Author.Tests.{le-leb, lt-leb, leb-true}
use mathlib.Core.Path.{◌≡◌, refl, sym, ap, ◌∙◌}
use mathlib.Core.Bool.{Bool, true, false}
use mathlib.Core.List.{List, [], ◌∷◌, ◌++◌}
use lib.ListN.{length, drop, length-append}
use lib.Dec.{leb}
use Rattle.std.specs.Prelude.{Err, Ok, Result}
use Rattle.faults.specs.declared.Refusal.{Refusal}
use Rattle.faults.specs.Faults.{no_room, bad_kind, oversize}
use Rattle.wire.specs.Bytes.{Bytes, be}
use Rattle.wire.specs.Layout.{◌then◌}
use Rattle.wire.specs.Grammar.{Token, Spells, Starts, placed}
use Rattle.wire.specs.Records.{Ans, found, refused, Parsed, parsed}
use Rattle.wire.specs.Reading.{read, field, piece}
use Rattle.wire.specs.Refusals.{Refuses, Had}
use Rattle.wire.proofs.Answers.{measure_answer_once}
use Rattle.wire.proofs.Had.{other, other_had, Tells, either_tells, refused_tells}
use Rattle.codes.specs.Codes.{is_algorithm, algorithms}
use Rattle.format.specs.Kinds.{tpmu_sym_key_bits_arm, tpmu_sym_mode_arm, is_kind, kinds, tpmt_sym_def, tpmu_sym_key_bits, tpmu_sym_mode, layout_of, read_kind}
use Rattle.format.proofs.Legal.{kind_tells}
use Rattle.wire.specs.Lines.{lines}
use Rattle.records.proofs.Promises.{legal_is_read, read_is_legal, first_is_refusal, refusal_says_what_it_had, legal_has_end}
use Rattle.text.specs.Ascii.{ascii}
use Rattle.text.specs.Text.{decimal, lines_text, read_text, refused_text}
use Rattle.listing.specs.Listing.{judged, answer_text, record_text, listing, answered, is_found, Lists}
use Rattle.listing.proofs.Deposits.{judged_read, judged_unread, read_listed, refused_listed, end_judged, end_answered}

-- ---- what was lent

-- a text and the slice determine the answer, and every byte of the slice
pub answer_is_one : {text old last last' : List ℕ} {r s : Result ℕ Refusal} → Lists text old r last → Lists text old s last' → (r ≡ s) × (last ≡ last')
answer_is_one x y = (measure_answer_once _ _ (x.answer ∙ sym y.answer), x.buffer ∙ sym y.buffer)

module _ {text old last : List ℕ} {r : Result ℕ Refusal} (lists : Lists text old r last) where
  -- where the listing fits it is there, all of it, and behind it what was there
  pub whole_listing_is_there : length text ≤ length old → (r ≡ Ok (length text)) × (last ≡ text ++ drop (length text) old)
  whole_listing_is_there room =
      let enough = le-leb (length text) (length old) room in
      (measure_answer_once _ _ (lists.answer ∙ rw enough), lists.buffer ∙ rw enough)

  -- as it does wherever 16,384 bytes are lent
  pub every_listing_fits : 16384 ≤ length old → length text ≤ length old
  every_listing_fits room = omega (arith, lists.most)

  -- where it does not fit nothing is changed, and the room that it needs is answered
  pub too_little_room_changes_nothing : length old < length text → (r ≡ Err (no_room 0 (length text))) × (last ≡ old)
  too_little_room_changes_nothing short =
      let few = lt-leb (length text) (length old) short in
      (measure_answer_once _ _ (lists.answer ∙ rw few), lists.buffer ∙ rw few)

-- no listing is empty
text_some : (k : ℕ) (bs : List ℕ) (a : Ans Parsed) → 0 < length (answer_text k bs a)
text_some k bs (found r) = omega arith
text_some k bs (refused f) = omega arith

pub no_listing_is_empty : (k : ℕ) (bs : List ℕ) → 0 < length (record_text k bs)
unfolding record_text
no_listing_is_empty k bs = text_some k bs (judged k bs)

-- so whoever lends no room at all is told how long the listing is
pub no_room_asks_for_the_size : (k : ℕ) (bs : List ℕ) {last : List ℕ} {r : Result ℕ Refusal} → Lists (record_text k bs) [] r last → r ≡ Err (no_room 0 (length (record_text k bs)))
no_room_asks_for_the_size k bs lists = (too_little_room_changes_nothing lists (no_listing_is_empty k bs)).0

-- ---- what is listed

-- no byte at all: kind 0
pub nothing_is_kind_zero : listing [] ≡ refused_text 0 (bad_kind 0)
unfolding listing record_text judged
nothing_is_kind_zero = refl

module _ (k : ℕ) where
  of_kind_text : (bs : List ℕ) → record_text k bs ≡ listing (k ∷ bs)
  unfolding listing
  of_kind_text bs = refl

  -- a number that is no kind, whatever follows
  pub no_kind_is_listed : (bs : List ℕ) → is_kind k ≡ false → listing (k ∷ bs) ≡ refused_text k (bad_kind k)
  unfolding judged
  no_kind_is_listed bs none = sym (refused_listed k bs {f = bad_kind k} (rw none) ∙ of_kind_text bs)

  -- a record of more than 4,096 bytes, whatever they are
  pub oversize_is_listed : (bs : List ℕ) → is_kind k ≡ true → 4096 < length bs → listing (k ∷ bs) ≡ refused_text k oversize
  oversize_is_listed bs some many = sym (refused_listed k bs {f = oversize} (judged_unread k bs many ∙ rw some) ∙ of_kind_text bs)

  -- bytes with a legal record of the kind in front: where it ends, how many bytes are left behind it, and its fields
  pub legal_record_is_listed : {ts : List Token} {bs : List ℕ} (d : Spells (layout_of k) ts bs) (tail : List ℕ) → is_kind k ≡ true → length (bs ++ tail) ≤ 4096
      → listing (k ∷ (bs ++ tail)) ≡ read_text k (length bs) (length tail) ++ lines_text (lines (layout_of k) (placed d 0) (bs ++ tail) 0)
  unfolding read_kind
  legal_record_is_listed {bs = bs} d tail some few =
      let read-there : judged k (bs ++ tail) ≡ parsed (placed d 0) (0 + length bs) = judged_read k (bs ++ tail) few ∙ rw some (legal_is_read k d tail).0 in
      let end : 0 + length bs ≡ length bs = omega arith in
      let rest : length (bs ++ tail) - length bs ≡ length tail = omega (arith, length-append bs tail) in
      sym (of_kind_text (bs ++ tail)) ∙ sym (read_listed k (bs ++ tail) read-there)
      ∙ ap (λ e. read_text k e (length (bs ++ tail) - e) ++ lines_text (lines (layout_of k) (placed d 0) (bs ++ tail) 0)) end
      ∙ ap (λ t. read_text k (length bs) t ++ lines_text (lines (layout_of k) (placed d 0) (bs ++ tail) 0)) rest

  -- bytes that no legal record starts: the first fault in wire order
  pub first_fault_is_listed : {bs : List ℕ} {f : Refusal} → Refuses bs (layout_of k) 0 f → is_kind k ≡ true → length bs ≤ 4096 → listing (k ∷ bs) ≡ refused_text k f
  unfolding read_kind
  first_fault_is_listed {bs} {f} fault some few = sym (refused_listed k bs {f = f} (judged_read k bs few ∙ rw some (first_is_refusal k fault)) ∙ of_kind_text bs)

-- a refusal is listed by its line, which says what it had: Short all the bytes that the record has from its place on, fewer than it needs;
-- any other nothing. More bytes than are listed are not for want of bytes
pub listed_refusal_says_what_it_had : (k : ℕ) (bs : List ℕ) (f : Refusal) → answered (k ∷ bs) ≡ refused f → (listing (k ∷ bs) ≡ refused_text k f) × Had bs f
unfolding answered judged
listed_refusal_says_what_it_had k bs f fails =
    let had : Tells (Had bs) (judged k bs) =
    kind_tells k bs _ (either_tells (Had bs) (leb (length bs) 4096) _ _ (refusal_says_what_it_had k bs 0) (refused_tells (Had bs) oversize (other_had (other 11 refl refl)))) in
    (sym (refused_listed k bs fails ∙ of_kind_text k bs), had f fails)

-- ---- whether it is a record

was_found : (a : Ans Parsed) → is_found a ≡ true → (r : Parsed) × (a ≡ found r)
was_found (found r) e = (r, refl)
was_found (refused f) e = let z : ◌≡◌ {A = ℕ} 0 1 = cc in absurd (omega arith)

module _ (k : ℕ) (bs : List ℕ) where
  -- what is listed is the text of what is answered
  pub listing_is_the_answer : listing (k ∷ bs) ≡ answer_text k bs (answered (k ∷ bs))
  unfolding listing record_text answered
  listing_is_the_answer = refl

  -- a legal record of a kind at the front of at most 4,096 bytes is read
  pub legal_record_was_read : {e : ℕ} → Starts (layout_of k) bs 0 e → is_kind k ≡ true → length bs ≤ 4096 → is_found (answered (k ∷ bs)) ≡ true
  unfolding answered
  legal_record_was_read start some few = sym (end_answered k bs (end_judged k bs few (sym (legal_has_end k some start))))

  -- and what was read is one
  pub read_was_a_legal_record : Bytes bs → is_found (answered (k ∷ bs)) ≡ true → (is_kind k ≡ true) × (length bs ≤ 4096) × ((e : ℕ) × Starts (layout_of k) bs 0 e)
  unfolding answered judged
  read_was_a_legal_record b p = by (is_kind k) refl (leb (length bs) 4096) refl
    where
      by : (x : Bool) → is_kind k ≡ x → (y : Bool) → leb (length bs) 4096 ≡ y → (is_kind k ≡ true) × (length bs ≤ 4096) × ((e : ℕ) × Starts (layout_of k) bs 0 e)
      by true some true few =
          let (r, e) = was_found (read (layout_of k) bs 0) (rw (some, few) at p) in
          (some, leb-true (length bs) 4096 few, (r.stops, read_is_legal k bs 0 r b e))
      by true some false many = let q : false ≡ true = rw (some, many) at p in let z : ◌≡◌ {A = ℕ} 0 1 = cc in absurd (omega arith)
      by false none y q = let q : false ≡ true = rw none at p in let z : ◌≡◌ {A = ℕ} 0 1 = cc in absurd (omega arith)

-- no byte at all is no record
pub nothing_was_not_read : is_found (answered []) ≡ false
unfolding answered judged
nothing_was_not_read = refl

-- the format's example
pub example_is_listed : listing (2 ∷ 0 ∷ 6 ∷ 0 ∷ 128 ∷ 0 ∷ 67 ∷ []) ≡ ascii "kind 2 read 6 tail 0\n0 2 code 6\n2 2 number 128\n4 2 code 67\n"
unfolding listing record_text judged read layout_of kinds tpmt_sym_def field piece is_algorithm algorithms be ◌then◌ tpmu_sym_key_bits tpmu_sym_key_bits_arm tpmu_sym_mode_arm tpmu_sym_mode decimal lines
example_is_listed = refl

pub cut_example_is_listed : listing (2 ∷ 0 ∷ 6 ∷ 0 ∷ 128 ∷ []) ≡ ascii "kind 2 refused 1 at 4 value 2 had 0\n"
unfolding listing record_text judged read layout_of kinds tpmt_sym_def field piece is_algorithm algorithms be ◌then◌ tpmu_sym_key_bits tpmu_sym_key_bits_arm tpmu_sym_mode_arm tpmu_sym_mode decimal
cut_example_is_listed = refl
