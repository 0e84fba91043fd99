-- What the loops over a row keep: one thing, `SoFar`, and each what it counts or has put. Assumes nothing.
use Prim.Native.Nat.{ℕ, zero, suc, ◌+◌, ◌≤◌, ◌<◌}
use native.Mathlib.Numerals.{add-one}
use native.Mathlib.Omega.{arith}
use mathlib.Core.Path.{◌≡◌, refl, sym, ap, ◌∙◌}
use mathlib.Core.Bool.{true, false}
use mathlib.Core.List.{List, [], ◌∷◌, ◌++◌, append-nil, append_assoc}
use lib.ListN.{length, drop, get_or, set, length-append, length-set}
use lib.Seq.{drop-cons, set_at}
use Rattle.std.specs.Prelude.{Err, Ok, Result}
use Rattle.faults.specs.declared.Refusal.{Refusal}
use Rattle.faults.specs.Faults.{bad_kind}
use Rattle.wire.specs.Answers.{measure_answer}
use Rattle.wire.specs.Records.{Ans, found, refused, left}
use Rattle.wire.specs.Reading.{read, end_of}
use Rattle.wire.specs.Fields.{size_of}
use Rattle.wire.specs.Filling.{filled}
use Rattle.wire.proofs.Steps.{found_refused, found_same, when_found}
use Rattle.wire.proofs.Prefix.{starts_read}
use Rattle.wire.proofs.Lent.{room_is_used, size_of_bytes}
use Rattle.format.specs.Kinds.{is_kind, layout_of}
use Rattle.format.proofs.Numbered.{of_kind}
use Rattle.format.proofs.Begun.{starts_lies_in}
use Rattle.records.specs.Ends.{Ends}
use Rattle.records.specs.Runs.{ends_from, divided}
use Rattle.records.proofs.Rows.{ahead, ahead_none, ahead_last, turn_none, turn_found, turn_refused}

-- ---- what both loops keep

-- of the row src the records that end at es are read, up to the place `at`: what is left to read there, behind these ends, is what there was
-- to read at the start
pub record SoFar (k : ℕ) (src : List ℕ) (at : ℕ) (es : List ℕ) : Type 0 where
  pub kind : is_kind k ≡ true
  pub few : length es ≤ at
  pub inside : at ≤ length src
  pub most : ℕ
  pub enough : left src at ≤ most
  pub same : divided k src ≡ ahead es (ends_from (layout_of k) most src at)

-- an end stands further on, and in the input
pub read_further : {k : ℕ} {src : List ℕ} {at e : ℕ} {r : Result ℕ Refusal} → Ends k src at r → r ≡ Ok e → (at < e) × (e ≤ length src)
read_further {k} told given = starts_lies_in k (told.end_is_legal given)

-- at the start
pub so_far_none : (k : ℕ) (src : List ℕ) → is_kind k ≡ true → SoFar k src 0 []
unfolding divided
so_far_none k src some =
    record { kind = some; few = omega arith; inside = omega arith; most = length src; enough = omega arith; same = rw some (ahead_none (ends_from (layout_of k) (length src) src 0)) }

module _ {k : ℕ} {src : List ℕ} {at : ℕ} {es : List ℕ} (x : SoFar k src at es) where
  -- a record was read: its end is one more
  pub so_far_more : {r : Result ℕ Refusal} {e : ℕ} → at < length src → Ends k src at r → r ≡ Ok e → SoFar k src e (es ++ (e ∷ []))
  so_far_more {r} {e} more told given = by x.most x.enough x.same
    where
      by : (m : ℕ) → left src at ≤ m → divided k src ≡ ahead es (ends_from (layout_of k) m src at) → SoFar k src e (es ++ (e ∷ []))
      by zero enough same = absurd (omega arith)
      by (suc m) enough same =
          let (further, inside) = read_further told given in
          record {
            kind = x.kind;
            few = omega (arith, length-append es (e ∷ []), x.few);
            inside = inside;
            most = m;
            enough = omega arith;
            same = same ∙ ap (λ a. ahead es a) (turn_found (layout_of k) src m at more (ap end_of (starts_read (told.end_is_legal given)))) ∙ ahead_last es e (ends_from (layout_of k) m src e);
          }

  -- nothing is left: these are all
  pub so_far_all : length src ≤ at → divided k src ≡ found es
  so_far_all over = x.same ∙ ap (λ a. ahead es a) (turn_none (layout_of k) src x.most at over) ∙ ap found (append-nil es)

  -- the next record is not there
  pub so_far_refused : {r : Result ℕ Refusal} {f : Refusal} → at < length src → Ends k src at r → r ≡ Err f → divided k src ≡ refused f
  so_far_refused {r} {f} more told given = by x.most x.enough x.same
    where
      by : (m : ℕ) → left src at ≤ m → divided k src ≡ ahead es (ends_from (layout_of k) m src at) → divided k src ≡ refused f
      by zero enough same = absurd (omega arith)
      by (suc m) enough same =
          let none-there : end_of (read (layout_of k) src at) ≡ refused f = ap end_of (of_kind k src at refl x.kind) ∙ sym told.answer ∙ ap measure_answer given in
          same ∙ ap (λ a. ahead es a) (turn_refused (layout_of k) src m at more none-there)

  -- no more are read than there are in all
  pub so_far_few : {all : ℕ} → size_of (divided k src) ≡ found all → length es ≤ all
  so_far_few {all} p = by (ends_from (layout_of k) x.most src at) (rw x.same at p)
    where
      by : (a : Ans (List ℕ)) → size_of (ahead es a) ≡ found all → length es ≤ all
      by (found fs) q = omega (arith, found_same q, length-append es fs)
      by (refused f) q = absurd (found_refused q)

-- ---- the first loop counts

-- n records are read so far
pub record Counted (k : ℕ) (src : List ℕ) (at n : ℕ) : Type 0 where
  pub ends : List ℕ
  pub many : n ≡ length ends
  pub so_far : SoFar k src at ends

pub counted_none : (k : ℕ) (src : List ℕ) {n : ℕ} → n ≡ 0 → is_kind k ≡ true → Counted k src 0 n
counted_none k src e some = record { ends = []; many = e; so_far = so_far_none k src some }

-- a number that is no kind's has none to count
pub no_kind_counted : (k : ℕ) (src : List ℕ) {j : ℕ} {f : Refusal} → f ≡ bad_kind j → j ≡ k → is_kind k ≡ false → refused f ≡ size_of (divided k src)
unfolding divided
no_kind_counted k src e same lacks = rw (lacks, e, same)

module _ {k : ℕ} {src : List ℕ} {at n : ℕ} (x : Counted k src at n) where
  pub counted_more : {r : Result ℕ Refusal} {e : ℕ} → at < length src → Ends k src at r → r ≡ Ok e → Counted k src e (n + 1)
  counted_more {e = e} more told given =
      record { ends = x.ends ++ (e ∷ []); many = omega (arith, length-append x.ends (e ∷ []), x.many); so_far = so_far_more x.so_far more told given }

  pub counted_all : length src ≤ at → found n ≡ size_of (divided k src)
  counted_all over = ap found x.many ∙ sym (ap size_of (so_far_all x.so_far over))

  pub counted_refused : {r : Result ℕ Refusal} {f : Refusal} → at < length src → Ends k src at r → r ≡ Err f → refused f ≡ size_of (divided k src)
  counted_refused more told given = sym (ap size_of (so_far_refused x.so_far more told given))

-- ---- the second puts their ends into cells

-- the cells held old; of the n records so far each has its end in one, and the others hold what was there
pub record Celled (k : ℕ) (src old out : List ℕ) (at n : ℕ) : Type 0 where
  pub ends : List ℕ
  pub many : length ends ≡ n
  pub so_far : SoFar k src at ends
  pub same : length out ≡ length old
  pub held : out ≡ ends ++ drop n old

-- a row of which all records are counted is one of a kind
pub counted_is_kind : (k : ℕ) (src : List ℕ) {all : ℕ} → size_of (divided k src) ≡ found all → is_kind k ≡ true
unfolding divided
counted_is_kind k src p = let (es, there, size) = size_of_bytes (divided k src) p in (when_found (is_kind k) _ _ there).0

pub celled_none : (k : ℕ) (src old : List ℕ) {all : ℕ} → size_of (divided k src) ≡ found all → Celled k src old old 0 0
celled_none k src old size = record { ends = []; many = refl; so_far = so_far_none k src (counted_is_kind k src size); same = refl; held = refl }

module _ {k : ℕ} {src old out : List ℕ} {at n all : ℕ} (x : Celled k src old out at n) (size : size_of (divided k src) ≡ found all) (room : all ≤ length old) where
  module _ {r : Result ℕ Refusal} {e : ℕ} (more : at < length src) (told : Ends k src at r) (given : r ≡ Ok e) where
    -- there is a cell for one more
    pub cell_there : n < length old
    cell_there = omega (arith, so_far_few (so_far_more x.so_far more told given) size, length-append x.ends (e ∷ []), x.many)

    -- and its end is put there
    pub celled_more : Celled k src old (set out n e) e (n + 1)
    celled_more =
        let es = x.ends in
        record {
          ends = es ++ (e ∷ []);
          many = omega (arith, length-append es (e ∷ []), x.many);
          so_far = so_far_more x.so_far more told given;
          same = length-set out n e ∙ x.same;
          held =
              ap (λ l. set l n e) (x.held ∙ ap (λ l. es ++ l) (drop-cons old n 0 cell_there))
              ∙ set_at es (get_or old n 0) (drop (suc n) old) e n x.many
              ∙ ap (λ m. es ++ (e ∷ drop m old)) (sym (add-one n)) ∙ sym (append_assoc es (e ∷ []) (drop (n + 1) old));
        }

  -- all that were counted are there
  pub never_refused : {r : Result ℕ Refusal} {f : Refusal} → at < length src → Ends k src at r → r ≡ Err f → ⊥
  never_refused more told given = found_refused (sym (ap size_of (so_far_refused x.so_far more told given)) ∙ size)

  pub celled_all : length src ≤ at → out ≡ filled 0 (divided k src) old
  celled_all over =
      let there = so_far_all x.so_far over in
      let few : length x.ends ≤ length old = omega (arith, so_far_few x.so_far size) in
      x.held ∙ ap (λ m. x.ends ++ drop m old) (sym x.many) ∙ sym (room_is_used old (divided k src) there few).1
