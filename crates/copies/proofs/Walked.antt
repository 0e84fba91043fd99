-- From what a reader answered to the walk over it, from a layout to the kind's number, and from walks to a measure and a copy. Assumes
-- nothing.
use Prim.Native.Nat.{ℕ, ◌-◌}
use native.Mathlib.Omega.{arith}
use mathlib.Core.Path.{◌≡◌, refl, sym, ap, ◌∙◌, subst}
use mathlib.Core.Bool.{true, false}
use mathlib.Core.List.{List}
use lib.ListN.{length, take}
use lib.Dec.{leb}
use borrow.Author.Tests.{leb-true}
use Rattle.std.specs.Prelude.{Result}
use Rattle.faults.specs.declared.Refusal.{Refusal}
use Rattle.faults.specs.Faults.{bad_kind}
use Rattle.wire.specs.Answers.{measure_answer}
use Rattle.wire.specs.Bytes.{Bytes}
use Rattle.wire.specs.Layout.{Layout}
use Rattle.wire.specs.Records.{Part, Ans, found, refused, Parsed, parsed}
use Rattle.wire.specs.Reading.{read}
use Rattle.wire.specs.Writing.{lay}
use Rattle.wire.specs.Fields.{size_of}
use Rattle.wire.specs.Filling.{written, filled}
use Rattle.wire.proofs.Steps.{found_same, refused_same, found_refused, when_found}
use Rattle.wire.proofs.Written.{read_then_lay}
use Rattle.format.specs.Kinds.{is_kind, layout_of, read_kind}
use Rattle.steps.specs.declared.walk.Walk.{Walk}
use Rattle.steps.specs.Walks.{Here, here, judging, refusing, Walks, ready_walk, walk_answer}
use Rattle.steps.specs.Writes.{Measures}
use Rattle.steps.proofs.Search.{by_more}
use Rattle.steps.proofs.Marshalled.{measured, marshalled, refusing_answer}
use Rattle.copies.specs.Walked.{WalkOf}
use Rattle.copies.specs.Copied.{record_bytes, MeasuresKind, Copies}
use Rattle.copies.proofs.Copied.{measures_kind, copies}
use Rattle.format.proofs.Numbered.{of_kind, no_kind_read}
pub use borrow.Author.Rules.{rules}

-- a record was read, and its fields were walked over; where it ends does not matter
pub as_walked : (l : Layout) (src : List ℕ) {y : Ans Parsed} {ps ls : List Part} {e k : ℕ} {u v : Here} → parsed ps e ≡ y → Walks k l ps ls src u v → leb k 24 ≡ true → leb (length ls) 1 ≡ true → WalkOf l src y u v
as_walked l src {ps = ps} {ls} {e} {k} {u} {v} told p few one = record {
  walked = λ q. (ls, subst (λ qs. Walks 24 l qs ls src u v) (ap (λ r. r.parts) (found_same (told ∙ q))) (by_more src k 24 l ps ls u v p few), leb-true (length ls) 1 one);
  none = λ q. absurd (found_refused (sym (told ∙ q)));
}

-- a reader refused, and so is the walk
pub not_walked : (l : Layout) (src : List ℕ) {y : Ans Parsed} {f : Refusal} {w r : Walk} {out : List ℕ} → refused f ≡ y → r ≡ refusing f → WalkOf l src y (here w out) (here r out)
not_walked l src {out = out} e is = record { walked = λ p. absurd (found_refused (e ∙ p)); none = λ p. ap (λ x. here x out) (is ∙ ap refusing (refused_same (e ∙ p))) }

-- ---- by the kind's number

pub kind_walked : (j k : ℕ) (src : List ℕ) (u v : Here) → k ≡ j → is_kind j ≡ true → WalkOf (layout_of j) src (read (layout_of j) src 0) u v → WalkOf (layout_of k) src (read_kind k src 0) u v
kind_walked j k src u v e h p = rw (e, ← of_kind j src 0 refl h) p

pub no_kind_walked : (k : ℕ) (src : List ℕ) {f : Refusal} {w r : Walk} {out : List ℕ} → r ≡ refusing f → f ≡ bad_kind k → is_kind k ≡ false → WalkOf (layout_of k) src (read_kind k src 0) (here w out) (here r out)
no_kind_walked k src is e h = not_walked (layout_of k) src (ap refused e ∙ no_kind_read k src 0 h) is

-- what is read by a kind's number is read by its layout, and lies in the input as it stands
pub read_of_kind : (k : ℕ) (src : List ℕ) {r : Parsed} → read_kind k src 0 ≡ found r → read (layout_of k) src 0 ≡ found r
unfolding read_kind
read_of_kind k src p = (when_found (is_kind k) _ _ p).1

pub read_bytes : (k : ℕ) (src : List ℕ) (r : Parsed) → Bytes src → read_kind k src 0 ≡ found r → lay (layout_of k) r.parts src 0 ≡ found (take r.stops src)
read_bytes k src r b p = let all : r.stops - 0 ≡ r.stops = omega arith in read_then_lay (layout_of k) src 0 0 r b (omega arith) (read_of_kind k src p) ∙ ap (λ n. found (take n src)) all

-- ---- a walk that judges the record, and one that puts it

pub measured_kind : (k : ℕ) (src old mid : List ℕ) (u w : Walk) (r : Result ℕ Refusal) → Bytes src → u ≡ judging 0 → WalkOf (layout_of k) src (read_kind k src 0) (here u old) (here w mid)
    → measure_answer r ≡ walk_answer w → MeasuresKind k src r
unfolding record_bytes
measured_kind k src old mid u w r b begin walks told = measures_kind k src r b (by (read_kind k src 0) refl)
  where
    by : (y : Ans Parsed) → read_kind k src 0 ≡ y → measure_answer r ≡ size_of (record_bytes k src)
    by (found x) e =
        let (ls, p, one) = walks.walked e in
        (measured 24 (layout_of k) x.parts ls src old mid u w r begin p told refl).answer ∙ ap size_of (read_bytes k src x b e) ∙ rw e
    by (refused f) e = told ∙ ap (λ h. walk_answer h.walk) (walks.none e) ∙ refusing_answer f ∙ rw e

pub copied : (k : ℕ) (src old last : List ℕ) (v z : Walk) (m r : Result ℕ Refusal) → Bytes src → MeasuresKind k src m → v ≡ ready_walk (measure_answer m) (length old)
    → WalkOf (layout_of k) src (read_kind k src 0) (here v old) (here z last) → measure_answer r ≡ walk_answer z → Copies k src old r last
unfolding record_bytes
copied k src old last v z m r b size ready walks told = by (read_kind k src 0) refl
  where
    by : (y : Ans Parsed) → read_kind k src 0 ≡ y → Copies k src old r last
    by (found x) e =
        let (ls, p, one) = walks.walked e in
        let bytes : lay (layout_of k) x.parts src 0 ≡ record_bytes k src = read_bytes k src x b e ∙ rw e in
        let measure : Measures (layout_of k) x.parts src m = record { answer = size.answer ∙ ap size_of (sym bytes); shaped = p.plans.shaped } in
        let done = marshalled 24 (layout_of k) x.parts ls src old last v z m r measure ready p told in
        copies k src old last r b (done.answer ∙ ap (λ a. written 0 a old) bytes) (done.buffer ∙ ap (λ a. filled 0 a old) bytes)
    by (refused f) e =
        let q = walks.none e in
        copies k src old last r b (told ∙ ap (λ h. walk_answer h.walk) q ∙ refusing_answer f ∙ rw e) (ap (λ h. h.out) q ∙ rw e)
