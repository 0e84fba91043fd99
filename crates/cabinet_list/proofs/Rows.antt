-- The records of a row, listed one by one: which is the next, and what is put of it. Assumes nothing.
use Prim.Native.Nat.{ℕ, ◌+◌, ◌-◌, ◌≤◌, ◌<◌}
use native.Mathlib.Omega.{arith}
use borrow.Author.Tests.{leb-true, leb-false}
use mathlib.Core.Path.{◌≡◌, refl, sym, ap, ◌∙◌, subst}
use mathlib.Core.Bool.{Bool, true, false}
use mathlib.Core.List.{List, [], ◌∷◌, ◌++◌, append-nil, append_assoc}
use lib.ListN.{length, take, drop, length-append, length-drop, drop_of_length-le}
use lib.Seq.{take_all, drop-drop}
use lib.Dec.{leb}
use Rattle.std.specs.Prelude.{Err, Ok, Result, is_ok}
use Rattle.faults.specs.declared.Refusal.{Refusal}
use Rattle.wire.specs.Answers.{measure_answer}
use Rattle.wire.specs.Records.{Ans, found, refused}
use Rattle.wire.specs.Fields.{size_of}
use Rattle.wire.proofs.Steps.{found_refused, found_same}
use Rattle.format.specs.Kinds.{layout_of}
use Rattle.text.specs.Puts.{Puts, Fits}
use Rattle.text.specs.Text.{record_at_text, refused_text}
use Rattle.text.proofs.Putting.{puts_length, puts_then, fits_puts}
use Rattle.text.proofs.Rows.{record_at_text_length, refused_text_length}
use Rattle.records.specs.Ends.{Ends}
use Rattle.records.specs.Runs.{ends_from, divided}
use Rattle.records.proofs.Rows.{ahead}
use Rattle.records.proofs.RowLoops.{SoFar, so_far_none, so_far_more, so_far_all, so_far_refused, counted_is_kind}
use Rattle.listing.specs.Listing.{record_text, Lists}
use Rattle.listing.proofs.Promises.{whole_listing_is_there, every_listing_fits}
use Rattle.cabinet_list.specs.Rows.{entry_text, between, entries_text, row_text, behind_all, IsNumbered}

-- ---- the next record

behind_last : (at : ℕ) (es : List ℕ) (e : ℕ) → behind_all at (es ++ (e ∷ [])) ≡ e
behind_last at [] e = refl
behind_last at (d ∷ es) e = behind_last d es e

-- of the row src n records are listed, up to the place `at`
pub record Listed (k : ℕ) (src : List ℕ) (at n : ℕ) : Type 0 where
  pub ends : List ℕ
  pub many : n ≡ length ends
  pub so_far : SoFar k src at ends
  pub starts : at ≡ behind_all 0 ends

pub listed_none : (k : ℕ) (src : List ℕ) {all : ℕ} → size_of (divided k src) ≡ found all → Listed k src 0 0
listed_none k src size = record { ends = []; many = refl; so_far = so_far_none k src (counted_is_kind k src size); starts = refl }

module _ {k : ℕ} {src : List ℕ} {at n all : ℕ} (x : Listed k src at n) (size : size_of (divided k src) ≡ found all) (fewer : n < all) where
  -- where fewer are listed than were counted, bytes are left
  bytes_left : at < length src
  bytes_left = by (leb (length src) at) refl
    where
      by : (b : Bool) → leb (length src) at ≡ b → at < length src
      by true t =
          let counted : all ≡ length x.ends = found_same (sym size ∙ ap size_of (so_far_all x.so_far (leb-true (length src) at t))) in
          absurd (omega (arith, x.many))
      by false t = leb-false (length src) at t

  -- and the next record is there
  pub next_is_there : {r : Result ℕ Refusal} {f : Refusal} → Ends k src at r → r ≡ Err f → ⊥
  next_is_there told fails = found_refused (sym (ap size_of (so_far_refused x.so_far bytes_left told fails)) ∙ size)

  pub next_is_read : (r : Result ℕ Refusal) → Ends k src at r → is_ok r ≡ true
  next_is_read (Ok e) told = refl
  next_is_read (Err f) told = absurd (next_is_there told refl)

  module _ {r : Result ℕ Refusal} {e : ℕ} (told : Ends k src at r) (given : r ≡ Ok e) where
    further : SoFar k src e (x.ends ++ (e ∷ []))
    further = so_far_more x.so_far bytes_left told given

    pub listed_more : Listed k src e (n + 1)
    listed_more =
        record {
          ends = x.ends ++ (e ∷ []);
          many = omega (arith, length-append x.ends (e ∷ []), x.many);
          so_far = further;
          starts = sym (behind_last 0 x.ends e);
        }

    -- that which ends there has the next number
    pub next_is_numbered : IsNumbered k src (n + 1) at e
    next_is_numbered = by (ends_from (layout_of k) further.most src e) further.same
      where
        by : (a : Ans (List ℕ)) → divided k src ≡ ahead (x.ends ++ (e ∷ [])) a → IsNumbered k src (n + 1) at e
        by (found fs) same =
            let d = told.end_is_legal given in
            record {
              front = x.ends;
              others = fs;
              ends = same ∙ ap found (append_assoc x.ends (e ∷ []) fs);
              number = ap (λ m. m + 1) x.many;
              starts = x.starts;
              forward = omega (arith, d.ends);
              inside = further.inside;
            }
        by (refused f) same = absurd (found_refused (sym (ap size_of same) ∙ size))

-- ---- its text

entries_joined : (k : ℕ) (src : List ℕ) (n at : ℕ) (es fs : List ℕ)
    → entries_text k src n at (es ++ fs) ≡ entries_text k src n at es ++ entries_text k src (n + length es) (behind_all at es) fs
entries_joined k src n at [] fs = let here : n ≡ n + 0 = omega arith in ap (λ m. entries_text k src m at fs) here
entries_joined k src n at (e ∷ es) fs =
    let there : n + 1 + length es ≡ n + length (e ∷ es) = omega arith in
    ap (λ t. entry_text k n at (between at e src) ++ t) (entries_joined k src (n + 1) e es fs ∙ ap (λ m. entries_text k src (n + 1) e es ++ entries_text k src m (behind_all e es) fs) there)
    ∙ sym (append_assoc (entry_text k n at (between at e src)) (entries_text k src (n + 1) e es) (entries_text k src (n + length (e ∷ es)) (behind_all e es) fs))

-- the text of a numbered record stands in that of its row: behind that of the records in front of it, ahead of that of the others
pub numbered_is_in_the_row : {k : ℕ} {src : List ℕ} {n at e : ℕ} (x : IsNumbered k src n at e)
    → row_text k src ≡ entries_text k src 1 0 x.front ++ (entry_text k n at (between at e src) ++ entries_text k src (n + 1) e x.others)
unfolding row_text
numbered_is_in_the_row {k} {src} {n} {at} {e} x =
    let number : 1 + length x.front ≡ n = omega (arith, x.number) in
    rw x.ends (entries_joined k src 1 0 x.front (e ∷ x.others)
    ∙ ap (λ m. entries_text k src 1 0 x.front ++ entries_text k src m (behind_all 0 x.front) (e ∷ x.others)) number
    ∙ ap (λ m. entries_text k src 1 0 x.front ++ entries_text k src n m (e ∷ x.others)) (sym x.starts))

-- that of a row which is refused is the one line
pub refused_row_is_its_line : (k : ℕ) (src : List ℕ) {f : Refusal} → divided k src ≡ refused f → row_text k src ≡ refused_text k f
unfolding row_text
refused_row_is_its_line k src e = rw e

-- ---- what is put

-- the line was put at the start, where there is room for an entry
module _ (n at : ℕ) {old mid : List ℕ} {m : ℕ} (room : 16436 ≤ length old) (line : Fits 0 (record_at_text n at) old m mid) where
  few : m ≤ 52
  few = omega (arith, line.size, record_at_text_length n at)

  put : Puts 0 (record_at_text n at) old m mid
  put =
      let place : 0 + length (record_at_text n at) ≡ m = omega (arith, line.size) in
      subst (λ p. Puts 0 (record_at_text n at) old p mid) place (fits_puts (omega (arith, record_at_text_length n at)) line)

  same : length mid ≡ length old
  same = puts_length (omega (arith, few)) put

  pub line_inside : m ≤ length mid
  line_inside = omega (arith, few, same)

  -- and the listing into what is left behind it, where there is room for every listing
  module _ (k : ℕ) (bs : List ℕ) {r : Result ℕ Refusal} {part : List ℕ} (lists : Lists (record_text k bs) (take (length mid - m) (drop m mid)) r part) where
    lent : take (length mid - m) (drop m mid) ≡ drop m mid
    lent = take_all (length mid - m) (drop m mid) (omega (arith, length-drop m mid))

    behind : drop (length mid - m) (drop m mid) ≡ []
    behind = drop_of_length-le (drop m mid) {i = length mid - m} (omega (arith, length-drop m mid))

    fits : length (record_text k bs) ≤ length (take (length mid - m) (drop m mid))
    fits = every_listing_fits lists (omega (arith, ap length lent, length-drop m mid, few, same))

    listed : r ≡ Ok (length (record_text k bs))
    listed = (whole_listing_is_there lists fits).0

    pub entry_is_listed : is_ok r ≡ true
    entry_is_listed = rw listed

    module _ {j : ℕ} (given : r ≡ Ok j) where
      size : length (record_text k bs) ≡ j
      size = found_same (ap measure_answer (sym listed ∙ given))

      pub entry_puts : Puts 0 (entry_text k n at bs) old (m + j) (take m mid ++ (part ++ drop (length mid - m) (drop m mid)))
      unfolding entry_text
      entry_puts =
          let text = record_text k bs in
          puts_then (omega (arith, few)) put
          (record {
            behind = ap (λ p. m + p) (sym size);
            holds = ap (λ p. take m mid ++ (part ++ p)) behind
                ∙ ap (λ p. take m mid ++ p) (append-nil part ∙ (whole_listing_is_there lists fits).1 ∙ ap (λ p. text ++ drop (length text) p) lent ∙ ap (λ p. text ++ p) (drop-drop (length text) m mid));
          })

-- what was put at the start lies in what was lent for it
pub put_inside : {text old last : List ℕ} {r : ℕ} → Puts 0 text old r last → r ≤ length last
put_inside {text} {old} p = omega (arith, p.behind, ap length p.holds, length-append text (drop (0 + length text) old))

pub refusal_inside : (k : ℕ) (f : Refusal) {old last : List ℕ} {r : ℕ} → 131 ≤ length old → Fits 0 (refused_text k f) old r last → r ≤ length last
refusal_inside k f room p = omega (arith, p.size, put_inside (fits_puts (omega (arith, refused_text_length k f)) p))
