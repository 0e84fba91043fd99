-- The steps of a record, in wire order: what each spells, and which are those of a record. No code has a step. Assumes nothing.
use Rattle.std.specs.Prelude.{ℕ, ◌+◌, Bool, true, false, cond, ◌≡◌, List, [], ◌∷◌, ◌++◌, length, take, drop, eqb, None, Option, Some}
use Rattle.faults.specs.Faults.{no_such_arm, mismatch}
use Rattle.wire.specs.declared.span.Span.{Span}
use Rattle.wire.specs.declared.width.Width.{Width}
use Rattle.wire.specs.Answers.{width_of, start_of, len_of, span_part}
use Rattle.wire.specs.Bytes.{digits}
use Rattle.wire.specs.Layout.{Rule, length_to, Layout}
use Rattle.wire.specs.Lines.{a_number, say_number, Line, line, span_line, item_lines, list_lines, lines}
use Rattle.wire.specs.Records.{Part, Ans, found, refused, next}
use Rattle.wire.specs.Reading.{read}
use Rattle.wire.specs.Writing.{cut, spelt, whole, moved, ahead, onto, lay, odd}
use Rattle.wire.specs.Fields.{spans}
use Rattle.wire.specs.Unwritten.{Shaped}
use Rattle.format.specs.declared.list.ListOf.{ListOf}
use Rattle.format.specs.Kinds.{digest_size, item_layout, most_items}

pub data Step : Type 0 where
  -- a number of a width, under its field's rule
  Number : Width → Rule → ℕ → Step
  -- so many bytes as they stand
  Plain : ℕ → Span → Step
  -- a length of two bytes, at most the limit, and the bytes
  Buffer : (limit : ℕ) → Span → Step
  -- a list: its count and its items
  Items : ListOf → Span → Step
  -- an arm is due; whether the one that the selector chooses is held
  Due : (selector : ℕ) → (chosen : Option ℕ) → (held : Bool) → Step

-- ---- what steps spell

-- where an arm is due no byte stands
abbrev pub spell_due : (v : ℕ) → Option ℕ → (held : Bool) → (at : ℕ) → Ans (List ℕ)
spell_due v None b at = refused (no_such_arm at v)
spell_due v (Some t) true at = found []
spell_due v (Some t) false at = refused (mismatch at v)

-- the bytes of a step at the place `at`, or what is wrong with it
unfoldable pub spell_step : Step → (src : List ℕ) (at : ℕ) → Ans (List ℕ)
spell_step (Number w r n) src at = spelt (width_of w) r n at
spell_step (Plain n s) src at = cond (eqb (len_of s) n) (cut src (start_of s) (len_of s) at) (odd at)
spell_step (Buffer m s) src at =
    next (cut src (start_of s) (len_of s) at)
    (λ xs. ahead (spelt 2 (length_to m) (len_of s) at) (found xs))
spell_step (Items i s) src at = next (cut src (start_of s) (len_of s) at) (λ xs. moved at (whole (most_items i) (item_layout i) xs))
spell_step (Due v c b) src at = spell_due v c b at

unfoldable pub spell : List Step → (src : List ℕ) (at : ℕ) → Ans (List ℕ)
spell [] src at = found []
spell (s ∷ ss) src at = onto at (spell_step s src at) (λ e. spell ss src e)

-- the bytes of a step that is not refused
abbrev pub laid : Step → List ℕ → List ℕ
laid (Number w r n) src = digits (width_of w) n
laid (Plain n s) src = take (len_of s) (drop (start_of s) src)
laid (Buffer m s) src = digits 2 (len_of s) ++ take (len_of s) (drop (start_of s) src)
laid (Items i s) src = take (len_of s) (drop (start_of s) src)
laid (Due v c b) src = []

-- ---- what else steps have

-- the byte fields of steps
abbrev pub spans_of : List Step → List Part
spans_of [] = []
spans_of (Number w r n ∷ ss) = spans_of ss
spans_of (Plain n s ∷ ss) = span_part s ∷ spans_of ss
spans_of (Buffer m s ∷ ss) = span_part s ∷ spans_of ss
spans_of (Items i s ∷ ss) = span_part s ∷ spans_of ss
spans_of (Due v c b ∷ ss) = spans_of ss

-- the lists of steps
abbrev pub lists_of : List Step → List Part
lists_of [] = []
lists_of (Number w r n ∷ ss) = lists_of ss
lists_of (Plain n s ∷ ss) = lists_of ss
lists_of (Buffer m s ∷ ss) = lists_of ss
lists_of (Items i s ∷ ss) = span_part s ∷ lists_of ss
lists_of (Due v c b ∷ ss) = lists_of ss

-- the lines of a list of such items
abbrev pub items_lines : ListOf → (xs : List ℕ) (at : ℕ) → List Line
items_lines i xs at = list_lines (λ qs ys a. lines (item_layout i) qs ys a) (λ s a. read (item_layout i) s a) xs at

-- the lines of the n items of xs from the place e on; the list stands at the place `at`
abbrev pub left_lines : ListOf → (n : ℕ) (xs : List ℕ) (e at : ℕ) → List Line
left_lines i n xs e at = item_lines (λ qs ys a. lines (item_layout i) qs ys a) (λ s a. read (item_layout i) s a) n xs e at

-- the lines of a step, and of steps one behind the other
abbrev pub step_lines : Step → (src : List ℕ) (at : ℕ) → List Line
step_lines (Number w r n) src at = line at (width_of w) (say_number r n) ∷ []
step_lines (Plain n s) src at = span_line at (start_of s) (len_of s) src ∷ []
step_lines (Buffer m s) src at = line at 2 (a_number (len_of s)) ∷ span_line (at + 2) (start_of s) (len_of s) src ∷ []
step_lines (Items i s) src at = items_lines i (take (len_of s) (drop (start_of s) src)) at
step_lines (Due v c b) src at = []

unfoldable pub lines_of : List Step → (src : List ℕ) (at : ℕ) → List Line
lines_of [] src at = []
lines_of (s ∷ ss) src at = step_lines s src at ++ lines_of ss src (at + length (laid s src))

-- how long the digest is that is due
abbrev pub due_size : Option ℕ → ℕ
due_size None = 0
due_size (Some t) = digest_size t

-- ---- the steps of a record

-- The steps ss write what the layout l writes of the parts ps, have their byte fields and the lists ls, and, where something is written,
-- their lines. The parts have the layout's shape: no step stands for an answer that no record of the code has
pub record Plans (l : Layout) (ps ls : List Part) (ss : List Step) : Type 0 where
  pub lays : (src : List ℕ) (at : ℕ) → lay l ps src at ≡ spell ss src at
  pub shaped : Shaped l ps
  pub fields : spans_of ss ≡ spans ps
  pub lists : lists_of ss ≡ ls
  pub shows : (src : List ℕ) (at : ℕ) {bs : List ℕ} → lay l ps src at ≡ found bs → lines_of ss src at ≡ lines l ps src at
