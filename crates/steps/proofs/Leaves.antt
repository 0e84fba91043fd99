-- One step of a walk, in the form in which the code asks for it. Assumes nothing.
use Prim.Native.Nat.{ℕ, zero, suc, ◌+◌, ◌-◌, ◌≤◌, ◌<◌}
use native.Mathlib.Omega.{arith}
use mathlib.Core.Path.{◌≡◌, refl, sym, ap, ◌∙◌}
use mathlib.Core.Bool.{Bool, true, false, cond}
use mathlib.Core.List.{List, [], ◌∷◌}
use lib.ListN.{length}
use lib.Dec.{leb, eqb}
use borrow.Author.Tests.{eq-eqb, ne_eqb, le-leb, lt-leb, leb-true}
use Rattle.std.specs.Prelude.{None, Option, Some, Err, Ok, Result}
use Rattle.faults.specs.declared.Fault.{Fault}
use Rattle.faults.specs.declared.Refusal.{Refusal}
use Rattle.faults.specs.Faults.{paper, refusal, no_such_arm, mismatch, no_room}
use Rattle.wire.specs.declared.span.Span.{Span}
use Rattle.wire.specs.Answers.{start_of, len_of, measure_answer}
use Rattle.wire.specs.Bytes.{digits}
use Rattle.wire.specs.Records.{Ans, found, refused}
use Rattle.wire.specs.Writing.{cut}
use Rattle.wire.specs.Filling.{written, filled}
use Rattle.wire.proofs.Steps.{found_refused, found_same, when_found}
use Rattle.steps.specs.declared.walk.Walk.{Walk}
use Rattle.steps.specs.Steps.{Step, Plain, Buffer, Due, spell_step, due_size}
use Rattle.steps.specs.Near.{Near}
use Rattle.steps.specs.Walks.{Here, here, putting, seeking, refusing, finding, lining, after, judged, judge_due, judge_sized, judge_step, count_of, Moves, put_one, put_span, put_step, seek_span, seek_step, list_step, for_lines, to_place, line_step, step_by, step_walk, run, Goes, Dues, ready_walk, fault_of, answer_by, walk_answer}

-- ---- what a walk is for

pub found_at : (t : Span) (a n : ℕ) → a ≡ start_of t → n ≡ len_of t → record { mode = 5; at = a; value = n; had = 0 } ≡ finding t
found_at t a n p q = rw (p, q)

pub refusing_by : (f : Refusal) (n m : ℕ) → n ≡ (paper f.fault).number → m ≡ 5 + n → record { mode = m; at = f.place; value = f.value; had = f.had } ≡ refusing f
refusing_by f n m e p = let same : m ≡ suc (suc (suc (suc (suc (paper f.fault).number)))) = omega arith in ap (λ x. record { mode = x; at = f.place; value = f.value; had = f.had }) same

pub fault_by : (n k : ℕ) (r : Fault) → n ≡ k → r ≡ fault_of k → r ≡ fault_of n
fault_by n k r e p = p ∙ ap fault_of (sym e)

pub fault_last : (n : ℕ) → (n ≡ 1 → ⊥) → (n ≡ 2 → ⊥) → (n ≡ 3 → ⊥) → (n ≡ 4 → ⊥) → (n ≡ 5 → ⊥) → (n ≡ 6 → ⊥) → (n ≡ 7 → ⊥) → (n ≡ 8 → ⊥) → (n ≡ 9 → ⊥) → (n ≡ 10 → ⊥) → (n ≡ 11 → ⊥) → (n ≡ 12 → ⊥) → Fault.Oversize ≡ fault_of n
fault_last n h1 h2 h3 h4 h5 h6 h7 h8 h9 h10 h11 h12 = rw (ne_eqb n 1 h1, ne_eqb n 2 h2, ne_eqb n 3 h3, ne_eqb n 4 h4, ne_eqb n 5 h5, ne_eqb n 6 h6, ne_eqb n 7 h7, ne_eqb n 8 h8, ne_eqb n 9 h9, ne_eqb n 10 h10, ne_eqb n 11 h11, ne_eqb n 12 h12)

-- each fault has its number
pub numbered : (k : Fault) → fault_of (paper k).number ≡ k
numbered Fault.Short = refl
numbered Fault.UnknownCode = refl
numbered Fault.NoArm = refl
numbered Fault.TooLong = refl
numbered Fault.TooManyItems = refl
numbered Fault.BadValue = refl
numbered Fault.Mismatch = refl
numbered Fault.BadSpan = refl
numbered Fault.NoRoom = refl
numbered Fault.NoField = refl
numbered Fault.Trailing = refl
numbered Fault.BadKind = refl
numbered Fault.Oversize = refl

-- ---- writing

module _ (m : Result ℕ Refusal) (k : ℕ) where
  pub ready_fits : (n : ℕ) (r : Walk) → m ≡ Ok n → n ≤ k → r ≡ putting 0 → r ≡ ready_walk (measure_answer m) k
  unfolding ready_walk
  ready_fits n r e h p = rw (e, le-leb n k h) p

  pub ready_full : (n : ℕ) (f : Refusal) (r : Walk) → m ≡ Ok n → k < n → f ≡ no_room 0 n → r ≡ refusing f → r ≡ ready_walk (measure_answer m) k
  unfolding ready_walk
  ready_full n f r e h why p = rw (e, lt-leb n k h) (p ∙ ap refusing why)

  pub ready_none : (f : Refusal) (r : Walk) → m ≡ Err f → r ≡ refusing f → r ≡ ready_walk (measure_answer m) k
  unfolding ready_walk
  ready_none f r e p = rw e p

module _ (w : Walk) where
  pub answer_text_lem : w.mode ≡ 3 → found w.value ≡ walk_answer w
  unfolding walk_answer
  answer_text_lem e = ap (λ m. answer_by m w) (sym e)

  pub answer_far : w.mode < 3 → found w.at ≡ walk_answer w
  unfolding walk_answer
  answer_far h = by w.mode h
    where
      by : (m : ℕ) → m < 3 → found w.at ≡ answer_by m w
      by zero h = refl
      by (suc zero) h = refl
      by (suc (suc zero)) h = refl
      by (suc (suc (suc n))) h = absurd (omega arith)

  pub answer_list : w.mode ≡ 4 → found w.at ≡ walk_answer w
  unfolding walk_answer
  answer_list e = ap (λ m. answer_by m w) (sym e)

  pub answer_no : (n : ℕ) (k : Fault) → 3 ≤ w.mode → (w.mode ≡ 3 → ⊥) → (w.mode ≡ 4 → ⊥) → n ≡ w.mode - 5 → k ≡ fault_of n → refused (refusal k w.at w.value w.had) ≡ walk_answer w
  unfolding walk_answer
  answer_no n k h o q e p = by w.mode h o q e
    where
      by : (m : ℕ) → 3 ≤ m → (m ≡ 3 → ⊥) → (m ≡ 4 → ⊥) → n ≡ m - 5 → refused (refusal k w.at w.value w.had) ≡ answer_by m w
      by zero h o q e = absurd (omega arith)
      by (suc zero) h o q e = absurd (omega arith)
      by (suc (suc zero)) h o q e = absurd (omega arith)
      by (suc (suc (suc zero))) h o q e = absurd (o refl)
      by (suc (suc (suc (suc zero)))) h o q e = absurd (q refl)
      by (suc (suc (suc (suc (suc j))))) h o q e = let same : n ≡ j = omega arith in ap (λ x. refused (refusal x w.at w.value w.had)) (p ∙ ap fault_of same)

  -- the refusal that is answered has the three numbers that were kept
  pub answer_kept : {k : Fault} {place value had : ℕ} → place ≡ w.at → value ≡ w.value → had ≡ w.had → refused (refusal k w.at w.value w.had) ≡ walk_answer w
      → refused (refusal k place value had) ≡ walk_answer w
  answer_kept p v h told = rw (p, v, h) told

-- ---- seeking

pub seek_first : (i : ℕ) (t : Span) (r : Walk) → i ≡ 0 → r ≡ finding t → r ≡ seek_span t i
unfolding seek_span
seek_first i t r e p = rw e p

pub seek_later : (i : ℕ) (t : Span) (r : Walk) → (i ≡ 0 → ⊥) → r ≡ seeking (i - 1) → r ≡ seek_span t i
unfolding seek_span
seek_later zero t r h p = absurd (h refl)
seek_later (suc i) t r h p = let e : suc i - 1 ≡ i = omega arith in p ∙ ap seeking e

pub sought_here : (w r : Walk) (t : Span) → w.mode ≡ 2 → r ≡ seek_span t w.at → r ≡ cond (eqb w.mode 2) (seek_span t w.at) w
sought_here w r t e p = rw (eq-eqb w.mode 2 e) p

pub not_sought : (w : Walk) (t : Span) → (w.mode ≡ 2 → ⊥) → w ≡ cond (eqb w.mode 2) (seek_span t w.at) w
not_sought w t h = rw (ne_eqb w.mode 2 h)

-- ---- lines

pub to_place_lines : (e : ℕ) (w r : Walk) → w.mode ≡ 3 → r ≡ lining e w.value → r ≡ to_place e w
unfolding to_place
to_place_lines e w r m p = p ∙ ap (λ x. (for_lines x (here w []) (here (lining e w.value) [])).walk) (sym m)

pub to_place_else : (e : ℕ) (w : Walk) → (w.mode ≡ 3 → ⊥) → w ≡ to_place e w
unfolding to_place
to_place_else e w h = by w.mode h
  where
    by : (m : ℕ) → (m ≡ 3 → ⊥) → w ≡ (for_lines m (here w []) (here (lining e w.value) [])).walk
    by zero h = refl
    by (suc zero) h = refl
    by (suc (suc zero)) h = refl
    by (suc (suc (suc zero))) h = absurd (h refl)
    by (suc (suc (suc (suc m)))) h = refl

-- ---- putting

put_most : (a : Ans (List ℕ)) (at : ℕ) (old : List ℕ) {k : ℕ} → found k ≡ written at a old → k ≤ length old - at
put_most (found bs) at old p =
    let (t, e) = when_found (leb (length bs) (length old - at)) _ _ (sym p) in
    omega (arith, leb-true (length bs) (length old - at) t, found_same e)
put_most (refused f) at old p = absurd (found_refused (sym p))

module _ {m n : Result ℕ Refusal} (a : Ans (List ℕ)) (at : ℕ) (old last : List ℕ) (e : m ≡ n) (did : (measure_answer m ≡ written at a old) × (last ≡ filled at a old)) where
  pub put_room : {k : ℕ} → n ≡ Ok k → k ≤ length old - at
  put_room f = put_most a at old (ap measure_answer (sym (e ∙ f)) ∙ did.0)

  pub put_by : (r : ℕ) → r ≡ at + count_of (measure_answer n) → Moves a at old r last
  put_by r p = record { behind = p ∙ ap (λ x. at + count_of x) (ap measure_answer (sym e) ∙ did.0); holds = did.1 }

pub put_none : (m : Result ℕ Refusal) (f : Refusal) (a : Ans (List ℕ)) (at : ℕ) (old last : List ℕ) → m ≡ Err f → (measure_answer m ≡ written at a old) × (last ≡ filled at a old) → Moves a at old at last
put_none m f a at old last e did = let none : at ≡ at + 0 = omega arith in put_by a at old last e did at none

pub moved_one : (a : Ans (List ℕ)) (at : ℕ) (old : List ℕ) (z : Walk) (r : ℕ) (last : List ℕ) → z ≡ putting r → Moves a at old r last → here z last ≡ put_one a at old
moved_one a at old z r last e p = rw (e, p.behind, p.holds)

-- ---- one step, by what the walk is for

module _ (w : Walk) (s : Step) (src : List ℕ) where
  step_by_lem : (m : ℕ) (out : List ℕ) {h : Here} → w.mode ≡ m → h ≡ step_by m s src w out → Goes (s ∷ []) src (here w out) h
  unfolding run step_walk
  step_by_lem m out e p = record { same = p ∙ ap (λ x. step_by x s src w out) (sym e) }

  pub step_line : (r : Walk) (last out : List ℕ) → w.mode ≡ 3 → (w.mode ≡ 3 → here r last ≡ line_step s src w out) → Goes (s ∷ []) src (here w out) (here r last)
  step_line r last out e p = step_by_lem 3 out e (p e)

  pub step_list : (r : Walk) (out : List ℕ) → w.mode ≡ 4 → r ≡ list_step s w → Goes (s ∷ []) src (here w out) (here r out)
  step_list r out e p = step_by_lem 4 out e (ap (λ x. here x out) p)

-- a field that has bytes
module _ (w : Walk) (s : Step) (t : Span) (src out : List ℕ) where
  pub step_judged : (judge : (u : Walk) → judge_step s src u ≡ judge_sized s src u) (m : Result ℕ Refusal) (r : Walk) → w.mode ≡ 0 → w.at ≤ 0x1000000 → (measure_answer m ≡ after w.at (spell_step s src w.at)) × Near m w.at → r ≡ judged (measure_answer m)
      → Goes (s ∷ []) src (here w out) (here r out)
  step_judged judge m r e h told p = step_by_lem w s src 0 out e (ap (λ x. here x out) (rw (judge w, le-leb w.at 0x1000000 h) (p ∙ ap judged told.0)))

  pub step_far : (judge : (u : Walk) → judge_step s src u ≡ judge_sized s src u) → w.mode ≡ 0 → 0x1000000 < w.at → Goes (s ∷ []) src (here w out) (here w out)
  step_far judge e h = step_by_lem w s src 0 out e (ap (λ x. here x out) (rw (judge w, lt-leb w.at 0x1000000 h)))

  pub step_put : (puts : (u : Walk) → put_step s src u out ≡ put_span t src u.at out) (z : Walk) (r : ℕ) (last : List ℕ) → w.mode ≡ 1 → z ≡ putting r → Moves (cut src (start_of t) (len_of t) w.at) w.at out r last
      → Goes (s ∷ []) src (here w out) (here z last)
  step_put puts z r last e q p = step_by_lem w s src 1 out e (moved_one _ w.at out z r last q p ∙ sym (puts w))

  -- sought, or passed by a walk that is done
  pub step_sought : (seeks : (u : Walk) → seek_step s u ≡ seek_span t u.at) (r : Walk) → (w.mode ≡ 0 → ⊥) → (w.mode ≡ 1 → ⊥) → (w.mode ≡ 3 → ⊥) → (w.mode ≡ 4 → list_step s w ≡ w) → r ≡ cond (eqb w.mode 2) (seek_span t w.at) w
      → Goes (s ∷ []) src (here w out) (here r out)
  step_sought seeks r a b d l p = by w.mode refl
    where
      still : (w.mode ≡ 2 → ⊥) → here r out ≡ here w out
      still h = ap (λ x. here x out) (p ∙ ap (λ x. cond x (seek_span t w.at) w) (ne_eqb w.mode 2 h))

      by : (m : ℕ) → w.mode ≡ m → Goes (s ∷ []) src (here w out) (here r out)
      by zero e = absurd (a e)
      by (suc zero) e = absurd (b e)
      by (suc (suc zero)) e = step_by_lem w s src 2 out e (ap (λ x. here x out) (p ∙ ap (λ x. cond (eqb x 2) (seek_span t w.at) w) e ∙ sym (seeks w)))
      by (suc (suc (suc zero))) e = absurd (d e)
      by (suc (suc (suc (suc zero)))) e = step_by_lem w s src 4 out e (still (λ q. omega arith) ∙ ap (λ x. here x out) (sym (l e)))
      by (suc (suc (suc (suc (suc m))))) e = step_by_lem w s src (suc (suc (suc (suc (suc m))))) out e (still (λ q. omega arith))

-- a buffer is put as its length and its bytes
pub put_buffer : (w : Walk) (m : ℕ) (t : Span) (n : ℕ) (src old : List ℕ) (b : ℕ) (mid : List ℕ) (z : Walk) (r : ℕ) (last : List ℕ) → w.mode ≡ 1 → n ≡ len_of t → Moves (found (digits 2 n)) w.at old b mid
    → Moves (cut src (start_of t) (len_of t) b) b mid r last → z ≡ putting r → Goes (Buffer m t ∷ []) src (here w old) (here z last)
unfolding put_step
put_buffer w m t n src old b mid z r last e size p q is =
    step_by_lem w (Buffer m t) src 1 old e
    (moved_one (cut src (start_of t) (len_of t) b) b mid z r last is q
    ∙ ap (λ x. put_span t src x mid) (p.behind ∙ ap (λ x. w.at + count_of (written w.at (found (digits 2 x)) old)) size)
    ∙ ap (λ x. put_span t src (w.at + count_of (written w.at (found (digits 2 (len_of t))) old)) x) (p.holds ∙ ap (λ x. filled w.at (found (digits 2 x)) old) size))

-- ---- where an arm is due

-- a walk that is refused by f is refused by what f is
pub refused_so : {f g : Refusal} {r : Walk} → f ≡ g → r ≡ refusing f → r ≡ refusing g
refused_so why is = is ∙ ap refusing why

module _ (v : ℕ) (c : Option ℕ) (b : Bool) (w : Walk) where
  due_by : (r : Walk) → w.mode ≡ 0 → r ≡ judge_due v c b w → Dues v c b w r
  unfolding judge_step
  due_by r e p = record { goes = λ src out. step_by_lem w (Due v c b) src 0 out e (ap (λ x. here x out) p) }

  pub due_held : {t : ℕ} → w.mode ≡ 0 → c ≡ Some t → b ≡ true → Dues v c b w w
  due_held e p q = due_by w e (rw (p, q))

  pub due_other : {t : ℕ} {f : Refusal} {r : Walk} → w.mode ≡ 0 → c ≡ Some t → b ≡ false → f ≡ mismatch w.at v → r ≡ refusing f → Dues v c b w r
  due_other {r = r} e p q why is = due_by r e (rw (p, q) (is ∙ ap refusing why))

  pub due_missing : {r : Walk} → w.mode ≡ 0 → c ≡ None → r ≡ refusing (no_such_arm w.at v) → Dues v c b w r
  due_missing {r} e p is = due_by r e (rw p is)

  pub due_passed : (w.mode ≡ 0 → ⊥) → Dues v c b w w
  unfolding put_step seek_step line_step
  due_passed h = record { goes = λ src out. by w.mode refl src out }
    where
      by : (m : ℕ) → w.mode ≡ m → (src out : List ℕ) → Goes (Due v c b ∷ []) src (here w out) (here w out)
      by zero e src out = absurd (h e)
      by (suc zero) e src out = step_by_lem w (Due v c b) src 1 out e refl
      by (suc (suc zero)) e src out = step_by_lem w (Due v c b) src 2 out e refl
      by (suc (suc (suc zero))) e src out = step_by_lem w (Due v c b) src 3 out e refl
      by (suc (suc (suc (suc zero)))) e src out = step_by_lem w (Due v c b) src 4 out e refl
      by (suc (suc (suc (suc (suc m))))) e src out = step_by_lem w (Due v c b) src (suc (suc (suc (suc (suc m))))) out e refl

-- ---- judging

pub judged_as : (m n : Result ℕ Refusal) (r : Walk) → m ≡ n → r ≡ judged (measure_answer n) → r ≡ judged (measure_answer m)
judged_as m n r e p = p ∙ ap (λ x. judged (measure_answer x)) (sym e)

-- the arm that is due is a digest's, or one of no size
pub due_size_of : (c : Option ℕ) (t : ℕ) → c ≡ Some t → t - 256 ≡ due_size c
due_size_of c t e = ap due_size (sym e)

pub due_none : (c : Option ℕ) (t : ℕ) → c ≡ Some t → t < 256 → 0 ≡ due_size c
due_none c t e h = let none : 0 ≡ t - 256 = omega arith in none ∙ ap due_size (sym e)

-- ---- digests and buffers

module _ (w : Walk) (t : Span) (src out : List ℕ) where
  pub plain_judged : (n k : ℕ) (m : Result ℕ Refusal) (r : Walk) → w.mode ≡ 0 → k ≡ n → w.at ≤ 0x1000000 → (measure_answer m ≡ after w.at (spell_step (Plain k t) src w.at)) × Near m w.at → r ≡ judged (measure_answer m)
      → Goes (Plain n t ∷ []) src (here w out) (here r out)
  unfolding judge_step
  plain_judged n k m r e size h told p = rw (← size) (step_judged w (Plain k t) t src out (λ u. refl) m r e h told p)

  pub plain_far : (n : ℕ) → w.mode ≡ 0 → 0x1000000 < w.at → Goes (Plain n t ∷ []) src (here w out) (here w out)
  unfolding judge_step
  plain_far n e h = step_far w (Plain n t) t src out (λ u. refl) e h

  pub plain_put : (n : ℕ) (z : Walk) (r : ℕ) (last : List ℕ) → w.mode ≡ 1 → z ≡ putting r → Moves (cut src (start_of t) (len_of t) w.at) w.at out r last → Goes (Plain n t ∷ []) src (here w out) (here z last)
  unfolding put_step
  plain_put n z r last e q p = step_put w (Plain n t) t src out (λ u. refl) z r last e q p

  pub plain_listed : (n k : ℕ) (r : Walk) (last : List ℕ) → w.mode ≡ 3 → k ≡ n → (w.mode ≡ 3 → here r last ≡ line_step (Plain k t) src w out) → Goes (Plain n t ∷ []) src (here w out) (here r last)
  plain_listed n k r last e size p = rw (← size) (step_line w (Plain k t) src r last out e p)

  pub plain_sought : (n : ℕ) (r : Walk) → (w.mode ≡ 1 → ⊥) → (w.mode ≡ 0 → ⊥) → (w.mode ≡ 3 → ⊥) → r ≡ cond (eqb w.mode 2) (seek_span t w.at) w → Goes (Plain n t ∷ []) src (here w out) (here r out)
  unfolding seek_step
  plain_sought n r b a d p = step_sought w (Plain n t) t src out (λ u. refl) r a b d (λ e. refl) p

  pub buffer_judged : (n : ℕ) (m : Result ℕ Refusal) (r : Walk) → w.mode ≡ 0 → w.at ≤ 0x1000000 → (measure_answer m ≡ after w.at (spell_step (Buffer n t) src w.at)) × Near m w.at → r ≡ judged (measure_answer m)
      → Goes (Buffer n t ∷ []) src (here w out) (here r out)
  unfolding judge_step
  buffer_judged n m r e h told p = step_judged w (Buffer n t) t src out (λ u. refl) m r e h told p

  pub buffer_far : (n : ℕ) → w.mode ≡ 0 → 0x1000000 < w.at → Goes (Buffer n t ∷ []) src (here w out) (here w out)
  unfolding judge_step
  buffer_far n e h = step_far w (Buffer n t) t src out (λ u. refl) e h

  pub buffer_listed : (n : ℕ) (r : Walk) (last : List ℕ) → w.mode ≡ 3 → (w.mode ≡ 3 → here r last ≡ line_step (Buffer n t) src w out) → Goes (Buffer n t ∷ []) src (here w out) (here r last)
  buffer_listed n r last e p = step_line w (Buffer n t) src r last out e p

  pub buffer_sought : (n : ℕ) (r : Walk) → (w.mode ≡ 0 → ⊥) → (w.mode ≡ 1 → ⊥) → (w.mode ≡ 3 → ⊥) → r ≡ cond (eqb w.mode 2) (seek_span t w.at) w → Goes (Buffer n t ∷ []) src (here w out) (here r out)
  unfolding seek_step
  buffer_sought n r a b d p = step_sought w (Buffer n t) t src out (λ u. refl) r a b d (λ e. refl) p
