-- What a walk over steps does, for each thing it may be for: over any list of steps. Assumes nothing.
use Prim.Native.Nat.{ℕ, zero, suc, ◌+◌, ◌-◌, ◌≤◌}
use native.Mathlib.Omega.{arith}
use mathlib.Core.Path.{◌≡◌, refl, sym, ap, ◌∙◌, subst}
use mathlib.Core.Bool.{true, false}
use mathlib.Core.List.{List, [], ◌∷◌, ◌++◌}
use lib.ListN.{length, take, drop, length-append}
use lib.Dec.{leb, eqb}
use borrow.Author.Tests.{le-leb, eqb-true}
use Rattle.std.specs.Prelude.{None, Some}
use Rattle.faults.specs.declared.Refusal.{Refusal}
use Rattle.wire.specs.declared.span.Span.{Span}
use Rattle.wire.specs.declared.width.Width.{Width}
use Rattle.wire.specs.Answers.{width_of, start_of, len_of}
use Rattle.wire.specs.Bytes.{digits}
use Rattle.wire.specs.Layout.{length_to}
use Rattle.wire.specs.Records.{Part, Ans, found, refused, next}
use Rattle.wire.specs.Reading.{list, read}
use Rattle.wire.specs.Writing.{cut, spelt, whole, onto}
use Rattle.wire.specs.Filling.{written, filled}
use Rattle.wire.specs.Fields.{pick_field}
use Rattle.wire.specs.Places.{start_at}
use Rattle.wire.proofs.Digits.{length_digits}
use Rattle.wire.proofs.Steps.{found_refused, found_same, next_found, when_found}
use Rattle.wire.proofs.Written.{spelt_found, cut_found, moved_found}
use Rattle.text.specs.Puts.{Puts}
use Rattle.text.proofs.Putting.{filled_puts, puts_length, puts_then, puts_none}
use Rattle.format.specs.declared.list.ListOf.{ListOf}
use Rattle.format.specs.Kinds.{item_layout, most_items}
use Rattle.steps.specs.Steps.{Step, Number, Plain, Buffer, Items, Due, spell, spell_step, spans_of, lists_of, laid}
use Rattle.steps.specs.Walks.{Here, here, judging, putting, seeking, list_seeking, refusing, finding, after, judged, judge_step, count_of, put_step, seek_span, seek_step, seek_answer, seek_start, step_walk, run, most, reach}
use Rattle.steps.proofs.Reach.{list_near}
use Rattle.steps.proofs.Spelled.{Inside, Next, next_step}

-- ---- a walk that is done stays

pub stays_no : (ss : List Step) (src : List ℕ) (f : Refusal) (out : List ℕ) → run ss src (here (refusing f) out) ≡ here (refusing f) out
unfolding run step_walk
stays_no [] src f out = refl
stays_no (s ∷ ss) src f out = stays_no ss src f out

stays_at : (ss : List Step) (src : List ℕ) (t : Span) (out : List ℕ) → run ss src (here (finding t) out) ≡ here (finding t) out
unfolding run step_walk
stays_at [] src t out = refl
stays_at (s ∷ ss) src t out = stays_at ss src t out

-- ---- judging

-- no list is longer than the greatest
whole_most : (i : ListOf) (xs : List ℕ) {ys : List ℕ} → whole (most_items i) (item_layout i) xs ≡ found ys → length ys ≤ 0x10001
unfolding whole
whole_most i xs p =
    let (e, f, g) = next_found (list (most_items i) (λ s a. read (item_layout i) s a) xs 0) _ p in
    let (t, h) = when_found (eqb e (length xs)) _ _ g in
    omega (arith, list_near i xs (sym f), eqb-true e (length xs) t, ap length (found_same h))

width_near : (w : Width) → width_of w ≤ 8
width_near Width.One = omega arith
width_near Width.Two = omega arith
width_near Width.Four = omega arith
width_near Width.Eight = omega arith

-- a step spells no more than it may
step_most : (s : Step) (src : List ℕ) (at : ℕ) {bs : List ℕ} → spell_step s src at ≡ found bs → length bs ≤ most s
unfolding spell_step
step_most (Number w r n) src at p = omega (arith, ap length (spelt_found (width_of w) r n at p).2, length_digits (width_of w) n, width_near w)
step_most (Plain n s) src at p =
    let (t, e) = when_found (eqb (len_of s) n) _ _ p in
    omega (arith, eqb-true (len_of s) n t, (cut_found src (start_of s) (len_of s) at e).0)
step_most (Buffer m s) src at p =
    let (xs, e, q) = next_found (cut src (start_of s) (len_of s) at) _ p in
    let (ds, f, g) = next_found (spelt 2 (length_to m) (len_of s) at) _ q in
    let (small, a, same) = spelt_found 2 (length_to m) (len_of s) at f in
    omega (arith, small, ap length (found_same g), length-append ds xs, ap length same, length_digits 2 (len_of s), (cut_found src (start_of s) (len_of s) at e).0)
step_most (Items i s) src at p =
    let (xs, e, q) = next_found (cut src (start_of s) (len_of s) at) _ p in
    whole_most i xs (moved_found at (whole (most_items i) (item_layout i) xs) q)
step_most (Due v None b) src at p = absurd (found_refused p)
step_most (Due v (Some t) true) src at p = omega (arith, ap length (found_same p))
step_most (Due v (Some t) false) src at p = absurd (found_refused p)

-- what judging makes of one step that is not too far
judge_near : (s : Step) (src : List ℕ) (at : ℕ) → at ≤ 0x1000000 → judge_step s src (judging at) ≡ judged (after at (spell_step s src at))
unfolding judge_step spell_step
judge_near (Number w r n) src at h = rw (le-leb at 0x1000000 h)
judge_near (Plain n s) src at h = rw (le-leb at 0x1000000 h)
judge_near (Buffer m s) src at h = rw (le-leb at 0x1000000 h)
judge_near (Items i s) src at h = rw (le-leb at 0x1000000 h)
judge_near (Due v None b) src at h = refl
judge_near (Due v (Some t) true) src at h = let none : at ≡ at + 0 = omega arith in ap judging none
judge_near (Due v (Some t) false) src at h = refl

pub run_judges : (ss : List Step) (src : List ℕ) (at : ℕ) (out : List ℕ) → at + reach ss ≤ 0x1000000 → run ss src (here (judging at) out) ≡ here (judged (after at (spell ss src at))) out
unfolding run step_walk spell
run_judges [] src at out h = let none : at ≡ at + 0 = omega arith in ap (λ n. here (judging n) out) none
run_judges (s ∷ ss) src at out h = rw (judge_near s src at (omega arith)) (by (spell_step s src at) refl (λ xs g. run_judges ss src (at + length xs) out g))
  where
    behind : (xs : List ℕ) (b : Ans (List ℕ)) → judged (after (at + length xs) b) ≡ judged (after at (next b (λ ys. found (xs ++ ys))))
    behind xs (found ys) = let e : at + length xs + length ys ≡ at + length (xs ++ ys) = omega (arith, length-append xs ys) in ap judging e
    behind xs (refused f) = refl

    by : (a : Ans (List ℕ)) → spell_step s src at ≡ a
        → ((xs : List ℕ) → at + length xs + reach ss ≤ 0x1000000 → run ss src (here (judging (at + length xs)) out) ≡ here (judged (after (at + length xs) (spell ss src (at + length xs)))) out)
        → run ss src (here (judged (after at a)) out) ≡ here (judged (after at (onto at a (λ e. spell ss src e)))) out
    by (found xs) e more = more xs (omega (arith, step_most s src at e)) ∙ ap (λ w. here w out) (behind xs (spell ss src (at + length xs)))
    by (refused f) e more = stays_no ss src f out

-- ---- putting

-- at the place `at` of what was `old` the bytes bs were put
pub record PutTo (at : ℕ) (bs old : List ℕ) (h : Here) : Type 0 where
  pub place : ℕ
  pub put : h.walk ≡ putting place
  pub puts : Puts at bs old place h.out

put_one_lem : (a : Ans (List ℕ)) (bs : List ℕ) (at : ℕ) (old : List ℕ) → a ≡ found bs → at + length bs ≤ length old → Puts at bs old (at + count_of (written at a old)) (filled at a old)
put_one_lem a bs at old e h =
    let t : leb (length bs) (length old - at) ≡ true = le-leb (length bs) (length old - at) (omega arith) in
    let n : count_of (written at a old) ≡ length bs = rw (e, t) in
    filled_puts at bs old n (omega arith) (ap (λ x. filled at x old) e)

cut_inside : (src : List ℕ) (s : Span) (at : ℕ) → start_of s + len_of s ≤ length src → cut src (start_of s) (len_of s) at ≡ found (take (len_of s) (drop (start_of s) src))
unfolding cut
cut_inside src s at h = rw (le-leb (start_of s + len_of s) (length src) h)

put_span_lem : (s : Span) (src : List ℕ) (at : ℕ) (old : List ℕ) → start_of s + len_of s ≤ length src → at + length (take (len_of s) (drop (start_of s) src)) ≤ length old
    → Puts at (take (len_of s) (drop (start_of s) src)) old (at + count_of (written at (cut src (start_of s) (len_of s) at) old)) (filled at (cut src (start_of s) (len_of s) at) old)
put_span_lem s src at old i h = put_one_lem (cut src (start_of s) (len_of s) at) (take (len_of s) (drop (start_of s) src)) at old (cut_inside src s at i) h

-- the step's bytes, and those of the steps behind it
put_then : {at : ℕ} {xs ys old : List ℕ} {h g : Here} (p : PutTo at xs old h) → p.place ≤ length old → PutTo p.place ys h.out g → PutTo at (xs ++ ys) old g
put_then p fits q = record { place = q.place; put = q.put; puts = puts_then fits p.puts q.puts }

step_puts : (s : Step) (src : List ℕ) (at : ℕ) (old : List ℕ) → Inside s src → at + length (laid s src) ≤ length old → PutTo at (laid s src) old (put_step s src (putting at) old)
unfolding put_step
step_puts (Number w r n) src at old i h = record { place = _; put = refl; puts = put_one_lem (found (digits (width_of w) n)) (digits (width_of w) n) at old refl h }
step_puts (Plain n s) src at old i h = record { place = _; put = refl; puts = put_span_lem s src at old i h }
step_puts (Buffer m s) src at old i h =
    let xs = take (len_of s) (drop (start_of s) src) in
    let size = length-append (digits 2 (len_of s)) xs in
    let p = put_one_lem (found (digits 2 (len_of s))) (digits 2 (len_of s)) at old refl (omega arith) in
    let b = at + count_of (written at (found (digits 2 (len_of s))) old) in
    let fits : b ≤ length old = omega (arith, p.behind) in
    record { place = _; put = refl; puts = puts_then fits p (put_span_lem s src b (filled at (found (digits 2 (len_of s))) old) i (omega (arith, p.behind, puts_length fits p))) }
step_puts (Items j s) src at old i h = record { place = _; put = refl; puts = put_span_lem s src at old i h }
step_puts (Due v c b) src at old i h = record { place = at; put = refl; puts = puts_none at old }

-- the steps ss put what they spell, wherever they begin
abbrev PutAll : List Step → (src : List ℕ) → Type 0
PutAll ss src = (at : ℕ) (old bs : List ℕ) → spell ss src at ≡ found bs → at + length bs ≤ length old → PutTo at bs old (run ss src (here (putting at) old))

put_on : (s : Step) (ss : List Step) (src : List ℕ) (at : ℕ) (old : List ℕ) {bs : List ℕ} {h : Here} → Next s ss src at bs → at + length bs ≤ length old → PutTo at (laid s src) old h → PutAll ss src
    → PutTo at bs old (run ss src h)
put_on s ss src at old {bs} {h} n room q all =
    let size = ap length n.split ∙ length-append (laid s src) n.left in
    let there = q.puts.behind in
    let fits : q.place ≤ length old = omega arith in
    let same : here (putting q.place) h.out ≡ h = ap (λ w. here w h.out) (sym q.put) in
    let rest = all q.place h.out n.left (ap (λ e. spell ss src e) there ∙ n.spelled) (omega (arith, puts_length fits q.puts)) in
    subst (λ xs. PutTo at xs old (run ss src h)) (sym n.split) (put_then q fits (subst (λ g. PutTo q.place n.left h.out (run ss src g)) same rest))

step_room : (s : Step) (ss : List Step) (src : List ℕ) (at : ℕ) (old : List ℕ) {bs : List ℕ} → Next s ss src at bs → at + length bs ≤ length old → at + length (laid s src) ≤ length old
step_room s ss src at old n h = omega (arith, ap length n.split, length-append (laid s src) n.left)

run_cons : (s : Step) (ss : List Step) (src : List ℕ) (at : ℕ) (old : List ℕ) → run ss src (put_step s src (putting at) old) ≡ run (s ∷ ss) src (here (putting at) old)
unfolding run step_walk
run_cons s ss src at old = refl

none_puts : (src : List ℕ) → PutAll [] src
unfolding run spell
none_puts src at old bs p h = record { place = at; put = refl; puts = rw (← found_same p) (puts_none at old) }

pub run_puts : (ss : List Step) (src : List ℕ) → PutAll ss src
run_puts [] src at old bs p h = none_puts src at old bs p h
run_puts (s ∷ ss) src at old bs p h =
    let n = next_step s ss src at p in
    subst (λ g. PutTo at bs old g) (run_cons s ss src at old)
    (put_on s ss src at old n h (step_puts s src at old n.inside (step_room s ss src at old n h)) (λ a o cs q g. run_puts ss src a o cs q g))

-- ---- seeking

-- the bytes that were sought, or why there are none, and where they start
abbrev pub Sought : Type 0
Sought = Ans (List ℕ) × ℕ

-- as the walk has them, and as the parts do
abbrev pub seen : Here → (asked : ℕ) → List ℕ → Sought
seen h asked src = (seek_answer h.walk asked src, seek_start h.walk src)

abbrev pub picked : List Part → (i asked : ℕ) → List ℕ → Sought
picked ps i asked src = (pick_field ps i asked src, start_at ps i src)

pub run_seeks : (ss : List Step) (src : List ℕ) (i asked : ℕ) (out : List ℕ) → seen (run ss src (here (seeking i) out)) asked src ≡ picked (spans_of ss) i asked src
unfolding run step_walk seek_step seek_span
run_seeks [] src i asked out = refl
run_seeks (Number w r n ∷ ss) src i asked out = run_seeks ss src i asked out
run_seeks (Plain n s ∷ ss) src zero asked out = ap (λ h. seen h asked src) (stays_at ss src s out)
run_seeks (Plain n s ∷ ss) src (suc i) asked out = run_seeks ss src i asked out
run_seeks (Buffer m s ∷ ss) src zero asked out = ap (λ h. seen h asked src) (stays_at ss src s out)
run_seeks (Buffer m s ∷ ss) src (suc i) asked out = run_seeks ss src i asked out
run_seeks (Items j s ∷ ss) src zero asked out = ap (λ h. seen h asked src) (stays_at ss src s out)
run_seeks (Items j s ∷ ss) src (suc i) asked out = run_seeks ss src i asked out
run_seeks (Due v c b ∷ ss) src i asked out = run_seeks ss src i asked out

pub run_list : (ss : List Step) (src : List ℕ) (asked : ℕ) (out : List ℕ) → seen (run ss src (here list_seeking out)) asked src ≡ picked (lists_of ss) 0 asked src
unfolding run step_walk
run_list [] src asked out = refl
run_list (Number w r n ∷ ss) src asked out = run_list ss src asked out
run_list (Plain n s ∷ ss) src asked out = run_list ss src asked out
run_list (Buffer m s ∷ ss) src asked out = run_list ss src asked out
run_list (Items j s ∷ ss) src asked out = ap (λ h. seen h asked src) (stays_at ss src s out)
run_list (Due v c b ∷ ss) src asked out = run_list ss src asked out
