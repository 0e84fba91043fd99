-- Lines, one behind the other, in the form in which the code asks for them. Assumes nothing.
use Prim.Native.Nat.{ℕ, zero, suc, ◌+◌, ◌≤◌, ◌<◌}
use native.Mathlib.Omega.{arith}
use mathlib.Core.Path.{◌≡◌, refl, sym, ap, ◌∙◌}
use mathlib.Core.List.{List, [], ◌∷◌, ◌++◌}
use lib.ListN.{length, take, drop}
use lib.Dec.{eqb}
use borrow.Author.Tests.{le-leb, lt-leb}
use Rattle.std.specs.Prelude.{Err, Ok, Result}
use Rattle.faults.specs.declared.Refusal.{Refusal}
use Rattle.wire.specs.declared.span.Span.{Span}
use Rattle.wire.specs.Answers.{start_of, len_of, measure_answer}
use Rattle.wire.specs.Lines.{Line, line, a_number, the_bytes, span_line}
use Rattle.wire.specs.Records.{found}
use Rattle.wire.specs.Layout.{length_to}
use Rattle.wire.specs.Writing.{cut, spelt}
use Rattle.wire.specs.Fields.{part_of}
use Rattle.wire.proofs.Cuts.{cut_length}
use Rattle.wire.proofs.Steps.{found_same, next_found, when_found}
use Rattle.wire.proofs.Written.{spelt_found, cut_found}
use Rattle.text.specs.Puts.{Fits}
use Rattle.text.specs.declared.line.Word.{Word}
use Rattle.text.specs.Text.{say_word, line_text}
use Rattle.text.proofs.Putting.{fits_same}
use Rattle.steps.specs.declared.walk.Walk.{Walk}
use Rattle.steps.specs.Near.{Near}
use Rattle.steps.specs.Steps.{Step, Plain, Buffer, spell_step, step_lines}
use Rattle.steps.specs.Walks.{Here, here, refusing, lining, after, line_at, for_lines, put_line, put_lines, to_place, on_to, lines_if, lines_once, line_step}
use Rattle.steps.proofs.Spelled.{cut_is}

pub put_lines_append : (ls ms : List Line) (h : Here) → put_lines (ls ++ ms) h ≡ put_lines ms (put_lines ls h)
unfolding put_lines
put_lines_append [] ms h = refl
put_lines_append (l ∷ ls) ms h = put_lines_append ls ms (put_line l h)

module _ (l : Line) (w : Walk) (old : List ℕ) where
  pub lined : (k : ℕ) (z : Walk) (last : List ℕ) → w.mode ≡ 3 → w.value ≤ 0x1000000 → Fits w.value (line_text l) old k last → z ≡ lining w.at (w.value + k) → here z last ≡ put_line l (here w old)
  unfolding put_line
  lined k z last e near p q = rw (e, le-leb w.value 0x1000000 near, q, p.size, p.holds)

  pub line_far : w.mode ≡ 3 → 0x1000000 < w.value → here w old ≡ put_line l (here w old)
  unfolding put_line
  line_far e h = rw (e, lt-leb w.value 0x1000000 h)

  pub no_lines : (w.mode ≡ 3 → ⊥) → here w old ≡ put_line l (here w old)
  unfolding put_line
  no_lines h = by w.mode h
    where
      by : (m : ℕ) → (m ≡ 3 → ⊥) → here w old ≡ for_lines m (here w old) (line_at l (here w old))
      by zero h = refl
      by (suc zero) h = refl
      by (suc (suc zero)) h = refl
      by (suc (suc (suc zero))) h = absurd (h refl)
      by (suc (suc (suc (suc m)))) h = refl

-- ---- a field that has bytes, judged on the way

module _ (s : Step) (far : ℕ) (src : List ℕ) (w : Walk) (old : List ℕ) (once : line_step s src w old ≡ lines_once far s src w old) where
  pub lines_far : far < w.at → here w old ≡ line_step s src w old
  lines_far h = rw (once, lt-leb w.at far h)

  module _ (m n : Result ℕ Refusal) (e : m ≡ n) (told : (measure_answer m ≡ after w.at (spell_step s src w.at)) × Near m w.at) (h : w.at ≤ far) where
    lines_by : {g : Here} → g ≡ lines_if (measure_answer n) (step_lines s src w.at) (here w old) → g ≡ line_step s src w old
    lines_by p = rw (once, le-leb w.at far h, ← told.0, e) p

    pub lines_good : (z r : Walk) (last : List ℕ) (stop : ℕ) → n ≡ Ok stop → here r last ≡ put_lines (step_lines s src w.at) (here w old) → z ≡ to_place stop r → here z last ≡ line_step s src w old
    lines_good z r last stop is p q = lines_by (ap (λ x. here x last) q ∙ ap (λ g. on_to stop g) p ∙ ap (λ x. lines_if (measure_answer x) (step_lines s src w.at) (here w old)) (sym is))

    pub lines_bad : (z : Walk) (f : Refusal) → n ≡ Err f → z ≡ refusing f → here z old ≡ line_step s src w old
    lines_bad z f is q = lines_by (ap (λ x. here x old) q ∙ ap (λ x. lines_if (measure_answer x) (step_lines s src w.at) (here w old)) (sym is))

-- ---- a buffer and a digest that are legal have their bytes in the source

module _ (src : List ℕ) (at : ℕ) {m : Result ℕ Refusal} {stop : ℕ} (e : m ≡ Ok stop) where
  spelled : (s : Step) → measure_answer m ≡ after at (spell_step s src at) → (xs : List ℕ) × (spell_step s src at ≡ found xs)
  spelled s told = let (xs, p, q) = next_found (spell_step s src at) _ (sym told ∙ ap measure_answer e) in (xs, p)

  pub plain_inside : (n : ℕ) (t : Span) → (measure_answer m ≡ after at (spell_step (Plain n t) src at)) × Near m at → (len_of t ≤ 0x10001) × (start_of t + len_of t ≤ length src)
  unfolding spell_step
  plain_inside n t told =
      let (xs, p, r) = next_found (spell_step (Plain n t) src at) _ (sym told.0 ∙ ap measure_answer e) in
      let (b, q) = when_found (eqb (len_of t) n) _ _ p in
      let near : stop ≤ at + 0x10001 = rw e at told.1 in
      (omega (arith, found_same r, (cut_found src (start_of t) (len_of t) at q).0), (cut_is src (start_of t) (len_of t) at q).1)

  pub buffer_inside : (n : ℕ) (t : Span) → (measure_answer m ≡ after at (spell_step (Buffer n t) src at)) × Near m at → (len_of t ≤ 0x10001) × (start_of t + len_of t ≤ length src)
  unfolding spell_step
  buffer_inside n t told =
      let (xs, p) = spelled (Buffer n t) told.0 in
      let (ys, q, r) = next_found (cut src (start_of t) (len_of t) at) _ p in
      let (ds, f, g) = next_found (spelt 2 (length_to n) (len_of t) at) _ r in
      let (fits, allowed, same) = spelt_found 2 (length_to n) (len_of t) at f in
      (omega (arith, fits), (cut_is src (start_of t) (len_of t) at q).1)

pub part_length : (src : List ℕ) (start len : ℕ) → start + len ≤ length src → length (part_of (cut src start len 0)) ≡ len
unfolding cut
part_length src start len h = rw (le-leb (start + len) (length src) h) (cut_length src start len 0 h)

-- the bytes of a span, and how many
pub span_says : (src : List ℕ) (place : ℕ) (t : Span) {xs : List ℕ} → start_of t + len_of t ≤ length src → xs ≡ part_of (cut src (start_of t) (len_of t) 0) → line place (length xs) (the_bytes xs) ≡ span_line place (start_of t) (len_of t) src
unfolding cut
span_says src place t {xs} h p =
    let same : xs ≡ take (len_of t) (drop (start_of t) src) = p ∙ rw (le-leb (start_of t + len_of t) (length src) h) in
    let size : length xs ≡ len_of t = ap length same ∙ cut_length src (start_of t) (len_of t) 0 h in
    rw size (ap (λ x. line place (len_of t) (the_bytes x)) same)

-- ---- the lines of a digest and of a buffer

module _ (n : ℕ) (t : Span) (src : List ℕ) (w : Walk) (old : List ℕ) where
  plain_once : line_step (Plain n t) src w old ≡ lines_once 0x1000000 (Plain n t) src w old
  unfolding line_step
  plain_once = refl

  buffer_once : line_step (Buffer n t) src w old ≡ lines_once 0x1000000 (Buffer n t) src w old
  unfolding line_step
  buffer_once = refl

  pub plain_lines_far : 0x1000000 < w.at → here w old ≡ line_step (Plain n t) src w old
  plain_lines_far h = lines_far (Plain n t) 0x1000000 src w old plain_once h

  pub buffer_lines_far : 0x1000000 < w.at → here w old ≡ line_step (Buffer n t) src w old
  buffer_lines_far h = lines_far (Buffer n t) 0x1000000 src w old buffer_once h

  module _ (m : Result ℕ Refusal) (z : Walk) where
    pub plain_lined : (stop : ℕ) (v : Walk) (last : List ℕ) → m ≡ Ok stop → (measure_answer m ≡ after w.at (spell_step (Plain n t) src w.at)) × Near m w.at → w.at ≤ 0x1000000
        → here v last ≡ put_line (span_line w.at (start_of t) (len_of t) src) (here w old) → z ≡ to_place stop v → here z last ≡ line_step (Plain n t) src w old
    unfolding put_lines
    plain_lined stop v last e told h p q = lines_good (Plain n t) 0x1000000 src w old plain_once m m refl told h z v last stop e p q

    pub plain_not_lined : (f : Refusal) → m ≡ Err f → (measure_answer m ≡ after w.at (spell_step (Plain n t) src w.at)) × Near m w.at → w.at ≤ 0x1000000 → z ≡ refusing f → here z old ≡ line_step (Plain n t) src w old
    plain_not_lined f e told h q = lines_bad (Plain n t) 0x1000000 src w old plain_once m m refl told h z f e q

    pub buffer_lined : (stop k : ℕ) (v u : Walk) (mid last : List ℕ) → m ≡ Ok stop → (measure_answer m ≡ after w.at (spell_step (Buffer n t) src w.at)) × Near m w.at → w.at ≤ 0x1000000 → k ≡ len_of t
        → here v mid ≡ put_line (line w.at 2 (a_number k)) (here w old) → here u last ≡ put_line (span_line (w.at + 2) (start_of t) (len_of t) src) (here v mid) → z ≡ to_place stop u → here z last ≡ line_step (Buffer n t) src w old
    unfolding put_lines
    buffer_lined stop k v u mid last e told h size p q r =
        lines_good (Buffer n t) 0x1000000 src w old buffer_once m m refl told h z u last stop e
        (q ∙ ap (λ g. put_line (span_line (w.at + 2) (start_of t) (len_of t) src) g) (p ∙ ap (λ x. put_line (line w.at 2 (a_number x)) (here w old)) size)) r

    pub buffer_not_lined : (f : Refusal) → m ≡ Err f → (measure_answer m ≡ after w.at (spell_step (Buffer n t) src w.at)) × Near m w.at → w.at ≤ 0x1000000 → z ≡ refusing f → here z old ≡ line_step (Buffer n t) src w old
    buffer_not_lined f e told h q = lines_bad (Buffer n t) 0x1000000 src w old buffer_once m m refl told h z f e q

-- ---- a line

pub number_lined : (place m k : ℕ) (word said : Word) (n : ℕ) (w : Walk) (old : List ℕ) (r : ℕ) (z : Walk) (last : List ℕ) → w.mode ≡ 3 → w.value ≤ 0x1000000 → word ≡ said → m ≡ k
    → Fits w.value (line_text (line place m (say_word said n))) old r last → z ≡ lining w.at (w.value + r) → here z last ≡ put_line (line place k (say_word word n)) (here w old)
number_lined place m k word said n w old r z last e near is size p q =
    rw is (lined (line place k (say_word said n)) w old r z last e near (fits_same (ap (λ x. line_text (line place x (say_word said n))) size) p) q)

-- and that of bytes
module _ (place : ℕ) (t : Span) (src xs : List ℕ) (inside : (len_of t ≤ 0x10001) × (start_of t + len_of t ≤ length src)) (is : xs ≡ part_of (cut src (start_of t) (len_of t) 0)) where
  pub bytes_few : length xs ≤ 0x10001
  bytes_few = omega (arith, ap length is, part_length src (start_of t) (len_of t) inside.1)

  pub bytes_lined : (w : Walk) (old : List ℕ) (r : ℕ) (z : Walk) (last : List ℕ) → w.mode ≡ 3 → w.value ≤ 0x1000000 → Fits w.value (line_text (line place (length xs) (the_bytes xs))) old r last → z ≡ lining w.at (w.value + r)
      → here z last ≡ put_line (span_line place (start_of t) (len_of t) src) (here w old)
  bytes_lined w old r z last e near p q = lined (span_line place (start_of t) (len_of t) src) w old r z last e near (fits_same (ap line_text (span_says src place t inside.1 is)) p) q
