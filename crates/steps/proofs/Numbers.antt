-- A number by what the code knows of it is the number's step. Assumes nothing.
use Prim.Native.Nat.{ℕ, zero, suc, ◌+◌, ◌≤◌, ◌<◌, ◌^◌}
use native.Mathlib.Omega.{arith}
use mathlib.Core.Path.{◌≡◌, refl, sym, ap, ◌∙◌}
use mathlib.Core.Bool.{Bool, true, false, cond}
use mathlib.Core.List.{List}
use lib.Dec.{leb, eqb}
use borrow.Author.Tests.{lt-ltb, le-leb, lt-leb, ne_eqb}
use Rattle.faults.specs.declared.Refusal.{Refusal}
use Rattle.faults.specs.Faults.{bad_value}
use Rattle.wire.specs.declared.width.Width.{Width}
use Rattle.wire.specs.Answers.{width_of}
use Rattle.wire.specs.Bytes.{digits}
use Rattle.wire.specs.Layout.{Rule, free, allows, breach}
use Rattle.wire.specs.Lines.{line, say_number}
use Rattle.wire.specs.Records.{found}
use Rattle.wire.specs.Writing.{spelt}
use Rattle.wire.proofs.Digits.{length_digits}
use Rattle.codes.specs.Codes.{is_yes_no, is_magic}
use Rattle.text.specs.declared.line.Word.{Word}
use Rattle.text.specs.Text.{say_word}
use Rattle.steps.specs.declared.walk.Walk.{Walk}
use Rattle.steps.specs.Steps.{Number, spell_step}
use Rattle.steps.specs.Walks.{Here, here, judging, refusing, far, after, judged, judge_step, put_one, put_step, seek_step, line_at, for_lines, put_line, put_lines, to_place, on_to, line_step, step_by, step_walk, run, number_by, number_walk, Numbers}

module _ (good : Bool) (k : Word) (w : Width) (n : ℕ) (f : Refusal) (rule : Rule) (u : Walk) (src out : List ℕ) where
  judges : good ≡ allows rule n → f ≡ breach rule u.at n → n < 256 ^ width_of w → cond good (judging (u.at + width_of w)) (refusing f) ≡ judged (after u.at (spell_step (Number w rule n) src u.at))
  unfolding spell_step spelt
  judges allowed why fits = by good allowed
    where
      by : (b : Bool) → b ≡ allows rule n → cond b (judging (u.at + width_of w)) (refusing f) ≡ judged (after u.at (spell_step (Number w rule n) src u.at))
      by true e = rw (← e, lt-ltb n (256 ^ width_of w) fits, length_digits (width_of w) n)
      by false e = rw (← e, why)

  -- one step of a walk over it
  pub number_steps : good ≡ allows rule n → f ≡ breach rule u.at n → say_word k n ≡ say_number rule n → n < 256 ^ width_of w → number_walk good k w n f u out ≡ step_walk (Number w rule n) src (here u out)
  unfolding number_walk step_walk judge_step put_step seek_step line_step put_lines
  number_steps allowed why word fits = by u.mode
    where
      by : (m : ℕ) → number_by m good k w n f u out ≡ step_by m (Number w rule n) src u out
      by zero = ap (λ x. here (cond (leb u.at far) x u) out) (judges allowed why fits)
      by (suc zero) = refl
      by (suc (suc zero)) = refl
      by (suc (suc (suc zero))) = ap (λ x. cond (leb u.at far) (on_to (u.at + width_of w) (put_line (line u.at (width_of w) x) (here u out))) (here u out)) word
      by (suc (suc (suc (suc zero)))) = refl
      by (suc (suc (suc (suc (suc m))))) = refl

-- the code's own number m is the record's n
pub numbers : (w : Width) (rule : Rule) (k : Word) (n m : ℕ) (good : Bool) (f : Refusal) (u : Walk) (out : List ℕ) (h : Here) → (m ≡ n) × (n < 256 ^ width_of w) → good ≡ allows rule n → f ≡ breach rule u.at m → say_word k m ≡ say_number rule m
    → h ≡ number_walk good k w m f u out → Numbers w rule n (here u out) h
unfolding run
numbers w rule k n m good f u out h told allowed why word p =
    let same = told.0 in
    record {
      goes = λ src. record { same = p ∙ number_steps good k w m f rule u src out (allowed ∙ ap (λ x. allows rule x) (sym same)) why word (rw same told.1) ∙ ap (λ x. step_walk (Number w rule x) src (here u out)) same };
      fits = told.1;
    }

-- where nothing but putting is done
pub put_numbers : (w : Width) (rule : Rule) (n m : ℕ) (u : Walk) (out : List ℕ) (h : Here) → u.mode ≡ 1 → (m ≡ n) × (n < 256 ^ width_of w) → h ≡ put_one (found (digits (width_of w) m)) u.at out → Numbers w rule n (here u out) h
unfolding run step_walk put_step
put_numbers w rule n m u out h e told p =
    record {
      goes = λ src. record { same = p ∙ ap (λ x. put_one (found (digits (width_of w) x)) u.at out) told.0 ∙ ap (λ x. step_by x (Number w rule n) src u out) (sym e) };
      fits = told.1;
    }

-- a number that is judged
module _ (u : Walk) (good : Bool) (k : ℕ) (f : Refusal) where
  pub judged_good : (r : Walk) (m : ℕ) → u.at ≤ 0x1000000 → good ≡ true → m ≡ k → r ≡ judging (u.at + m) → r ≡ cond (leb u.at 0x1000000) (cond good (judging (u.at + k)) (refusing f)) u
  judged_good r m h e size p = rw (le-leb u.at 0x1000000 h, e, ← size) p

  pub judged_bad : (r : Walk) → u.at ≤ 0x1000000 → good ≡ false → r ≡ refusing f → r ≡ cond (leb u.at 0x1000000) (cond good (judging (u.at + k)) (refusing f)) u
  judged_bad r h e p = rw (le-leb u.at 0x1000000 h, e) p

  pub judged_far : 0x1000000 < u.at → u ≡ cond (leb u.at 0x1000000) (cond good (judging (u.at + k)) (refusing f)) u
  judged_far h = rw (lt-leb u.at 0x1000000 h)

module _ (good : Bool) (k : Word) (w : Width) (n : ℕ) (f : Refusal) (u : Walk) (out : List ℕ) where
  by_mode : (m : ℕ) {h : Here} → u.mode ≡ m → h ≡ number_by m good k w n f u out → h ≡ number_walk good k w n f u out
  unfolding number_walk
  by_mode m e p = p ∙ ap (λ x. number_by x good k w n f u out) (sym e)

  pub walk_put : (h : Here) → u.mode ≡ 1 → h ≡ put_one (found (digits (width_of w) n)) u.at out → h ≡ number_walk good k w n f u out
  walk_put h e p = by_mode 1 e p

  pub walk_judged : (r : Walk) → u.mode ≡ 0 → r ≡ cond (leb u.at 0x1000000) (cond good (judging (u.at + width_of w)) (refusing f)) u → here r out ≡ number_walk good k w n f u out
  walk_judged r e p = by_mode 0 e (ap (λ x. here x out) p)

  -- a line is put by a walk that is for lines alone
  pub walk_line : (v r : Walk) (m : ℕ) (mid : List ℕ) → (u.mode ≡ 0 → ⊥) → (u.mode ≡ 1 → ⊥) → u.at ≤ 0x1000000 → here v mid ≡ put_line (line u.at (width_of w) (say_word k n)) (here u out) → m ≡ width_of w → r ≡ to_place (u.at + m) v
      → here r mid ≡ number_walk good k w n f u out
  unfolding number_walk put_line to_place
  walk_line v r m mid a b near p size q = ap (λ x. here x mid) (q ∙ ap (λ x. to_place (u.at + x) v) size) ∙ by u.mode refl
    where
      there : Here → Here
      there h = on_to (u.at + width_of w) h

      idle : (m : ℕ) → u.mode ≡ m → for_lines m (here u out) (line_at (line u.at (width_of w) (say_word k n)) (here u out)) ≡ here u out → to_place (u.at + width_of w) u ≡ u
          → there (here v mid) ≡ here u out
      idle m e l t = ap there (p ∙ ap (λ x. for_lines x (here u out) (line_at (line u.at (width_of w) (say_word k n)) (here u out))) e ∙ l) ∙ ap (λ x. here x out) t

      by : (m : ℕ) → u.mode ≡ m → there (here v mid) ≡ number_by m good k w n f u out
      by zero e = absurd (a e)
      by (suc zero) e = absurd (b e)
      by (suc (suc zero)) e = idle 2 e refl (rw e)
      by (suc (suc (suc zero))) e = rw (le-leb u.at 0x1000000 near) (ap there p)
      by (suc (suc (suc (suc m)))) e = idle (suc (suc (suc (suc m)))) e refl (rw e)

  pub walk_far : (u.mode ≡ 0 → ⊥) → (u.mode ≡ 1 → ⊥) → 0x1000000 < u.at → here u out ≡ number_walk good k w n f u out
  unfolding number_walk
  walk_far a b h = by u.mode a b
    where
      by : (m : ℕ) → (m ≡ 0 → ⊥) → (m ≡ 1 → ⊥) → here u out ≡ number_by m good k w n f u out
      by zero a b = absurd (a refl)
      by (suc zero) a b = absurd (b refl)
      by (suc (suc zero)) a b = refl
      by (suc (suc (suc zero))) a b = rw (lt-leb u.at 0x1000000 h)
      by (suc (suc (suc (suc m)))) a b = refl

pub width_near : (w : Width) → width_of w ≤ 8
width_near Width.One = omega arith
width_near Width.Two = omega arith
width_near Width.Four = omega arith
width_near Width.Eight = omega arith

-- the place behind a number that is not too far
pub place_fits : (w : Width) (at m : ℕ) → m ≡ width_of w → at ≤ 0x1000000 → at + m < 18446744073709551616
place_fits w at m e h = omega (arith, width_near w)

-- a yes or a no is at most 1
pub yes_or_no : (n : ℕ) → leb n 1 ≡ is_yes_no n
yes_or_no zero = refl
yes_or_no (suc zero) = refl
yes_or_no (suc (suc n)) = rw (ne_eqb (suc (suc n)) 0 (λ e. omega arith), ne_eqb (suc (suc n)) 1 (λ e. omega arith)) (lt-leb (suc (suc n)) 1 (omega arith))

-- one whose field takes every number
pub free_numbers : (w : Width) (n m : ℕ) (u : Walk) (out : List ℕ) (h : Here) → (m ≡ n) × (n < 256 ^ width_of w) → h ≡ number_walk true Word.Number w m (bad_value u.at m) u out → Numbers w free n (here u out) h
free_numbers w n m u out h told p = numbers w free Word.Number n m true (bad_value u.at m) u out h told refl refl refl p

-- the code's number, aside
pub aside_numbers : (w : Width) (rule : Rule) (k : Word) (n m : ℕ) (good : Bool) (f : Refusal) (u : Walk) (out : List ℕ) (h : Here) → (u.mode ≡ 1 → ⊥) → (m ≡ n) × (n < 256 ^ width_of w) → good ≡ allows rule n → f ≡ breach rule u.at m
    → ((u.mode ≡ 1 → ⊥) → h ≡ number_walk good k w m f u out) → say_word k m ≡ say_number rule m → Numbers w rule n (here u out) h
aside_numbers w rule k n m good f u out h other told allowed why p word = numbers w rule k n m good f u out h told allowed why word (p other)

pub by_aside : (w : Width) (rule : Rule) (n : ℕ) (u z : Walk) (out last : List ℕ) → (u.mode ≡ 1 → ⊥) → ((u.mode ≡ 1 → ⊥) → Numbers w rule n (here u out) (here z last)) → Numbers w rule n (here u out) (here z last)
by_aside w rule n u z out last other p = p other

-- aside: a number that is listed, or passed
pub by_listed : (good : Bool) (k : Word) (w : Width) (n : ℕ) (f : Refusal) (u : Walk) (out : List ℕ) (h : Here) → (u.mode ≡ 0 → ⊥) → (u.mode ≡ 1 → ⊥)
    → ((b : Bool) (g : Refusal) → (u.mode ≡ 0 → ⊥) → (u.mode ≡ 1 → ⊥) → h ≡ number_walk b k w n g u out) → h ≡ number_walk good k w n f u out
by_listed good k w n f u out h a b p = p good f a b

pub free_judged : (w : Width) (n : ℕ) (u r : Walk) (out : List ℕ) (f : Refusal) → u.mode ≡ 0 → f ≡ bad_value u.at n → r ≡ cond (leb u.at 0x1000000) (cond true (judging (u.at + width_of w)) (refusing f)) u
    → here r out ≡ number_walk true Word.Number w n (bad_value u.at n) u out
free_judged w n u r out f e why p = walk_judged true Word.Number w n (bad_value u.at n) u out r e (p ∙ ap (λ x. cond (leb u.at 0x1000000) (cond true (judging (u.at + width_of w)) (refusing x)) u) why)

-- what the code tests of its own number is so of the record's
pub is_magic_lem : (n m : ℕ) → (m ≡ n) × (n < 256 ^ 4) → eqb m 0xFF544347 ≡ is_magic n
is_magic_lem n m told = ap (λ x. eqb x 0xFF544347) told.0

pub is_yes_no_lem : (n m : ℕ) → (m ≡ n) × (n < 256 ^ 1) → leb m 1 ≡ is_yes_no n
is_yes_no_lem n m told = ap (λ x. leb x 1) told.0 ∙ yes_or_no n
