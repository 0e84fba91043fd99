-- What a walk over a record does: each step, in wire order, to the walk and to the lent buffer. Assumes nothing.
use Rattle.std.specs.Prelude.{ℕ, zero, suc, ◌+◌, ◌*◌, ◌^◌, ◌≤◌, ◌<◌, Bool, true, false, cond, ◌≡◌, List, [], ◌∷◌, length, leb, eqb, None, Option, Some}
use Rattle.faults.specs.declared.Fault.{Fault}
use Rattle.faults.specs.declared.Refusal.{Refusal}
use Rattle.faults.specs.Faults.{paper, refusal, no_field, no_such_arm, mismatch}
use Rattle.wire.specs.declared.span.Span.{Span}
use Rattle.wire.specs.declared.width.Width.{Width}
use Rattle.wire.specs.Answers.{width_of, start_of, len_of}
use Rattle.wire.specs.Bytes.{digits}
use Rattle.wire.specs.Layout.{Rule, Layout}
use Rattle.wire.specs.Lines.{Line, line}
use Rattle.wire.specs.Records.{Part, Ans, found, refused, next}
use Rattle.wire.specs.Writing.{cut}
use Rattle.wire.specs.Filling.{written, filled, roomed}
use Rattle.wire.specs.Places.{start_if}
use Rattle.text.specs.declared.line.Word.{Word}
use Rattle.text.specs.Puts.{fitted}
use Rattle.text.specs.Text.{say_word, line_text}
use Rattle.steps.specs.Steps.{Step, Number, Plain, Buffer, Items, Due, spell_step, step_lines, Plans}
use Rattle.steps.specs.declared.walk.Walk.{Walk}

-- a walk, and what the lent buffer holds
pub record Here : Type 0 where
  pub walk : Walk
  pub out : List ℕ

abbrev pub here : Walk → List ℕ → Here
here w xs = record { walk = w; out = xs }

-- ---- what a walk is for, and how far it came: the modes

-- 0: the record is judged; `at` is the place of the next field
abbrev pub judging : (at : ℕ) → Walk
judging at = record { mode = 0; at = at; value = 0; had = 0 }

-- 1: it is put; `at` is the place in the buffer
abbrev pub putting : (at : ℕ) → Walk
putting at = record { mode = 1; at = at; value = 0; had = 0 }

-- 2: a byte field is sought, so many further on
abbrev pub seeking : ℕ → Walk
seeking i = record { mode = 2; at = i; value = 0; had = 0 }

-- 3: the lines of a listing are put; `at` is the place of the next field, `end` that in the text: so many bytes it has so far
abbrev pub lining : (at end : ℕ) → Walk
lining at end = record { mode = 3; at = at; value = end; had = 0 }

-- 4: the record's list is sought
abbrev pub list_seeking : Walk
list_seeking = record { mode = 4; at = 0; value = 0; had = 0 }

-- 5: what was sought is found, and stands there
abbrev pub finding : Span → Walk
finding t = record { mode = 5; at = start_of t; value = len_of t; had = 0 }

-- 5 and the number of a fault: refused
abbrev pub refusing : Refusal → Walk
refusing f = record { mode = suc (suc (suc (suc (suc (paper f.fault).number)))); at = f.place; value = f.value; had = f.had }

-- behind so many bytes, of a record or of a text, nothing is judged or listed; none is so long
abbrev pub far : ℕ
far = 0x1000000

-- ---- judging: the place behind the step, or the first refusal

-- the place behind what was found
abbrev pub after : (at : ℕ) → Ans (List ℕ) → Ans ℕ
after at a = next a (λ xs. found (at + length xs))

abbrev pub judged : Ans ℕ → Walk
judged (found e) = judging e
judged (refused f) = refusing f

-- where an arm is due, nothing is done if it is held
abbrev pub judge_due : (v : ℕ) → Option ℕ → (held : Bool) → Walk → Walk
judge_due v None b w = refusing (no_such_arm w.at v)
judge_due v (Some t) true w = w
judge_due v (Some t) false w = refusing (mismatch w.at v)

abbrev pub judge_sized : Step → (src : List ℕ) → Walk → Walk
judge_sized s src w = cond (leb w.at far) (judged (after w.at (spell_step s src w.at))) w

unfoldable pub judge_step : Step → (src : List ℕ) → Walk → Walk
judge_step (Number w r n) src u = judge_sized (Number w r n) src u
judge_step (Plain n s) src u = judge_sized (Plain n s) src u
judge_step (Buffer m s) src u = judge_sized (Buffer m s) src u
judge_step (Items i s) src u = judge_sized (Items i s) src u
judge_step (Due v c b) src u = judge_due v c b u

-- ---- putting: the bytes of the step, where there is room. It judges nothing

abbrev pub count_of : Ans ℕ → ℕ
count_of (found n) = n
count_of (refused f) = 0

-- a is put at the place `at` of old: r is the place behind it, and last what the buffer holds
pub record Moves (a : Ans (List ℕ)) (at : ℕ) (old : List ℕ) (r : ℕ) (last : List ℕ) : Type 0 where
  pub behind : r ≡ at + count_of (written at a old)
  pub holds : last ≡ filled at a old

abbrev pub put_one : Ans (List ℕ) → (at : ℕ) (old : List ℕ) → Here
put_one a at old = here (putting (at + count_of (written at a old))) (filled at a old)

abbrev pub put_span : Span → (src : List ℕ) (at : ℕ) (old : List ℕ) → Here
put_span s src at old = put_one (cut src (start_of s) (len_of s) at) at old

unfoldable pub put_step : Step → (src : List ℕ) → Walk → (old : List ℕ) → Here
put_step (Number w r n) src u old = put_one (found (digits (width_of w) n)) u.at old
put_step (Plain n s) src u old = put_span s src u.at old
put_step (Buffer m s) src u old =
    put_span s src (u.at + count_of (written u.at (found (digits 2 (len_of s))) old)) (filled u.at (found (digits 2 (len_of s))) old)
put_step (Items i s) src u old = put_span s src u.at old
put_step (Due v c b) src u old = here u old

-- ---- seeking the byte field with an index, or the record's list

unfoldable pub seek_span : Span → ℕ → Walk
seek_span t zero = finding t
seek_span t (suc i) = seeking i

unfoldable pub seek_step : Step → Walk → Walk
seek_step (Number w r n) u = u
seek_step (Plain n s) u = seek_span s u.at
seek_step (Buffer m s) u = seek_span s u.at
seek_step (Items i s) u = seek_span s u.at
seek_step (Due v c b) u = u

abbrev pub list_step : Step → Walk → Walk
list_step (Number w r n) u = u
list_step (Plain n s) u = u
list_step (Buffer m s) u = u
list_step (Items i s) u = finding s
list_step (Due v c b) u = u

-- what a walk found; `asked` is the index that the caller gave
abbrev pub found_by : (mode : ℕ) → Walk → (asked : ℕ) → List ℕ → Ans (List ℕ)
found_by zero w asked src = refused (no_field asked)
found_by (suc zero) w asked src = refused (no_field asked)
found_by (suc (suc zero)) w asked src = refused (no_field asked)
found_by (suc (suc (suc zero))) w asked src = refused (no_field asked)
found_by (suc (suc (suc (suc zero)))) w asked src = refused (no_field asked)
found_by (suc (suc (suc (suc (suc zero))))) w asked src = cut src w.at w.value 0
found_by (suc (suc (suc (suc (suc (suc n)))))) w asked src = refused (no_field asked)

abbrev pub seek_answer : Walk → (asked : ℕ) → List ℕ → Ans (List ℕ)
seek_answer w asked src = found_by w.mode w asked src

-- where the part starts that a walk found, 0 where none was
abbrev pub seek_start : Walk → List ℕ → ℕ
seek_start w src = start_if (seek_answer w 0 src) w.at

-- ---- lines, one behind the other: each is put where it fits, and counted in any case

-- the text goes on behind the line, there or not; behind so many bytes nothing is listed
abbrev pub line_at : Line → Here → Here
line_at l h =
    cond (leb h.walk.value far)
    (here (lining h.walk.at (h.walk.value + length (line_text l))) (fitted h.walk.value (line_text l) h.out))
    h

-- what is done by a walk that is for lines; another stays as it is
abbrev pub for_lines : (mode : ℕ) → Here → Here → Here
for_lines zero h g = h
for_lines (suc zero) h g = h
for_lines (suc (suc zero)) h g = h
for_lines (suc (suc (suc zero))) h g = g
for_lines (suc (suc (suc (suc n)))) h g = h

unfoldable pub put_line : Line → Here → Here
put_line l h = for_lines h.walk.mode h (line_at l h)

unfoldable pub put_lines : List Line → Here → Here
put_lines [] h = h
put_lines (l ∷ ls) h = put_lines ls (put_line l h)

-- on to the place behind the field
unfoldable pub to_place : (e : ℕ) → Walk → Walk
to_place e w = (for_lines w.mode (here w []) (here (lining e w.value) [])).walk

abbrev pub on_to : (e : ℕ) → Here → Here
on_to e h = here (to_place e h.walk) h.out

-- of bytes and of lists no line is put unless they are legal
abbrev pub lines_if : Ans ℕ → List Line → Here → Here
lines_if (found e) ls h = on_to e (put_lines ls h)
lines_if (refused f) ls h = here (refusing f) h.out

abbrev pub lines_once : (most : ℕ) → Step → (src : List ℕ) → Walk → (old : List ℕ) → Here
lines_once m s src u old = cond (leb u.at m) (lines_if (after u.at (spell_step s src u.at)) (step_lines s src u.at) (here u old)) (here u old)

unfoldable pub line_step : Step → (src : List ℕ) → Walk → (old : List ℕ) → Here
line_step (Number w r n) src u old = cond (leb u.at far) (on_to (u.at + width_of w) (put_lines (step_lines (Number w r n) src u.at) (here u old))) (here u old)
line_step (Plain n s) src u old = lines_once far (Plain n s) src u old
line_step (Buffer m s) src u old = lines_once far (Buffer m s) src u old
line_step (Items i s) src u old = lines_once 0x10000 (Items i s) src u old
line_step (Due v c b) src u old = here u old

-- ---- one step, and steps one behind the other

abbrev pub step_by : (mode : ℕ) → Step → (src : List ℕ) → Walk → (out : List ℕ) → Here
step_by zero s src w out = here (judge_step s src w) out
step_by (suc zero) s src w out = put_step s src w out
step_by (suc (suc zero)) s src w out = here (seek_step s w) out
step_by (suc (suc (suc zero))) s src w out = line_step s src w out
step_by (suc (suc (suc (suc zero)))) s src w out = here (list_step s w) out
step_by (suc (suc (suc (suc (suc n))))) s src w out = here w out

unfoldable pub step_walk : Step → (src : List ℕ) → Here → Here
step_walk s src h = step_by h.walk.mode s src h.walk h.out

unfoldable pub run : List Step → (src : List ℕ) → Here → Here
run [] src h = h
run (s ∷ ss) src h = run ss src (step_walk s src h)

-- from a to b is the walk over the steps ss
pub record Goes (ss : List Step) (src : List ℕ) (a b : Here) : Type 0 where
  pub same : b ≡ run ss src a

-- ---- a number, by what the code knows of it: whether its rule allows it, its word, and the refusal of it

abbrev pub number_by : (mode : ℕ) → (good : Bool) → Word → Width → (n : ℕ) → Refusal → Walk → (out : List ℕ) → Here
number_by zero good k w n f u out = here (cond (leb u.at far) (cond good (judging (u.at + width_of w)) (refusing f)) u) out
number_by (suc zero) good k w n f u out = put_one (found (digits (width_of w) n)) u.at out
number_by (suc (suc zero)) good k w n f u out = here u out
number_by (suc (suc (suc zero))) good k w n f u out = cond (leb u.at far) (on_to (u.at + width_of w) (put_line (line u.at (width_of w) (say_word k n)) (here u out))) (here u out)
number_by (suc (suc (suc (suc m)))) good k w n f u out = here u out

unfoldable pub number_walk : (good : Bool) → Word → Width → (n : ℕ) → Refusal → Walk → (out : List ℕ) → Here
number_walk good k w n f u out = number_by u.mode good k w n f u out

-- ---- records

-- how many bytes a step has at most, and so steps
abbrev pub most : Step → ℕ
most (Number w r n) = 0x10001
most (Plain n s) = n
most (Buffer m s) = 0x10001
most (Items i s) = 0x10001
most (Due v c b) = 0

abbrev pub reach : List Step → ℕ
reach [] = 0
reach (s ∷ ss) = most s + reach ss

-- from a to b is the walk over a record with these parts: over at most k steps, none too long, which are those of the record
pub record Walks (k : ℕ) (l : Layout) (ps ls : List Part) (src : List ℕ) (a b : Here) : Type 0 where
  pub steps : List Step
  pub plans : Plans l ps ls steps
  pub few : length steps ≤ k
  pub short : reach steps ≤ 0x10001 * k
  pub goes : Goes steps src a b

-- the walk over a number that its width holds; what the source is does not matter
pub record Numbers (w : Width) (rule : Rule) (n : ℕ) (a b : Here) : Type 0 where
  pub goes : (src : List ℕ) → Goes (Number w rule n ∷ []) src a b
  pub fits : n < 256 ^ width_of w

-- and past the place where an arm is due
pub record Dues (v : ℕ) (c : Option ℕ) (held : Bool) (a b : Walk) : Type 0 where
  pub goes : (src out : List ℕ) → Goes (Due v c held ∷ []) src (here a out) (here b out)

-- ---- writing: measured first, and put only if the record is legal and there is room

-- the walk that an answer leads to: one that puts from the buffer's start on, or one that is refused
abbrev pub ready_by : Ans ℕ → Walk
ready_by (found n) = putting 0
ready_by (refused f) = refusing f

-- the walk that what was measured leads to, with so much room
unfoldable pub ready_walk : Ans ℕ → (room : ℕ) → Walk
ready_walk a k = ready_by (roomed k a)

-- the fault with a number
abbrev pub fault_of : ℕ → Fault
fault_of n =
    cond (eqb n 1) Fault.Short
    (cond (eqb n 2) Fault.UnknownCode
    (cond (eqb n 3) Fault.NoArm
    (cond (eqb n 4) Fault.TooLong
    (cond (eqb n 5) Fault.TooManyItems
    (cond (eqb n 6) Fault.BadValue
    (cond (eqb n 7) Fault.Mismatch
    (cond (eqb n 8) Fault.BadSpan
    (cond (eqb n 9) Fault.NoRoom
    (cond (eqb n 10) Fault.NoField
    (cond (eqb n 11) Fault.Trailing
    (cond (eqb n 12) Fault.BadKind
    Fault.Oversize)))))))))))

abbrev pub answer_by : (mode : ℕ) → Walk → Ans ℕ
answer_by zero w = found w.at
answer_by (suc zero) w = found w.at
answer_by (suc (suc zero)) w = found w.at
answer_by (suc (suc (suc zero))) w = found w.value
answer_by (suc (suc (suc (suc zero)))) w = found w.at
answer_by (suc (suc (suc (suc (suc n))))) w = refused (refusal (fault_of n) w.at w.value w.had)

-- how far a walk came, or why it was refused
unfoldable pub walk_answer : Walk → Ans ℕ
walk_answer w = answer_by w.mode w
