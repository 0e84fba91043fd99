-- The steps of records, put together from those of their fields. Assumes nothing.
use Prim.Native.Nat.{ℕ, ◌+◌, ◌^◌, ◌<◌}
use native.Mathlib.Omega.{arith}
use mathlib.Core.Path.{◌≡◌, refl, sym, ap, ◌∙◌}
use mathlib.Core.Bool.{Bool, true, false, false≢true}
use mathlib.Core.List.{List, [], ◌∷◌, ◌++◌, append_assoc}
use lib.ListN.{length, take, drop, length-append}
use lib.Dec.{eqb}
use borrow.Author.Tests.{eq-eqb, eqb-true}
use Rattle.std.specs.Prelude.{None, Option, Some}
use Rattle.wire.specs.declared.span.Span.{Span}
use Rattle.wire.specs.declared.width.Width.{Width}
use Rattle.wire.specs.Answers.{width_of, start_of, len_of, span_part}
use Rattle.wire.specs.Bytes.{digits}
use Rattle.wire.specs.Layout.{Rule, length_to, Layout, stop, arm, number, plain, buffer, counted, ◌then◌}
use Rattle.wire.specs.Lines.{a_number, say_number, line, span_line, lines}
use Rattle.wire.specs.Records.{Part, num, tag, span, Ans, found, refused, next}
use Rattle.wire.specs.Writing.{cut, spelt, whole, moved, ahead, onto, lay}
use Rattle.wire.specs.Fields.{spans}
use Rattle.wire.specs.Unions.{union, is_arm}
use Rattle.wire.proofs.Digits.{length_digits}
use Rattle.wire.proofs.Shown.{number_goes, plain_goes, buffer_goes, counted_goes, lines_then}
use Rattle.wire.proofs.Steps.{found_refused, found_same, next_found, when_found}
use Rattle.wire.proofs.Then.{onto_none, onto_onto, lay_then, shaped_then, whole_same}
use Rattle.wire.proofs.Written.{spelt_found, cut_found, moved_found}
use Rattle.format.specs.declared.list.ListOf.{ListOf}
use Rattle.format.specs.Kinds.{digest_of, digest_size, item_layout, most_items}
use Rattle.steps.specs.Steps.{Step, Number, Plain, Buffer, Items, Due, spell, spell_step, laid, spans_of, lists_of, step_lines, lines_of, due_size, Plans}
use Rattle.steps.proofs.Spelled.{next_step}

-- ---- steps in a row

onto_same : (at : ℕ) (a : Ans (List ℕ)) (f g : ℕ → Ans (List ℕ)) → ((e : ℕ) → f e ≡ g e) → onto at a f ≡ onto at a g
onto_same at a f g h = ap (λ k. onto at a k) (λ i e. h e i)

spell_append : (ss ts : List Step) (src : List ℕ) (at : ℕ) → spell (ss ++ ts) src at ≡ onto at (spell ss src at) (λ e. spell ts src e)
unfolding spell
spell_append [] ts src at = sym (onto_none at (λ e. spell ts src e))
spell_append (s ∷ ss) ts src at =
    onto_same at (spell_step s src at) _ _ (λ e. spell_append ss ts src e)
    ∙ sym (onto_onto at (spell_step s src at) (λ e. spell ss src e) (λ e. spell ts src e))

spans_append : (ps qs : List Part) → spans (ps ++ qs) ≡ spans ps ++ spans qs
spans_append [] qs = refl
spans_append (num n ∷ ps) qs = spans_append ps qs
spans_append (tag t ∷ ps) qs = spans_append ps qs
spans_append (span a n ∷ ps) qs = ap (λ l. span a n ∷ l) (spans_append ps qs)

spans_of_append : (ss ts : List Step) → spans_of (ss ++ ts) ≡ spans_of ss ++ spans_of ts
spans_of_append [] ts = refl
spans_of_append (Number w r n ∷ ss) ts = spans_of_append ss ts
spans_of_append (Plain n s ∷ ss) ts = ap (λ l. span_part s ∷ l) (spans_of_append ss ts)
spans_of_append (Buffer m s ∷ ss) ts = ap (λ l. span_part s ∷ l) (spans_of_append ss ts)
spans_of_append (Items i s ∷ ss) ts = ap (λ l. span_part s ∷ l) (spans_of_append ss ts)
spans_of_append (Due v c b ∷ ss) ts = spans_of_append ss ts

lists_of_append : (ss ts : List Step) → lists_of (ss ++ ts) ≡ lists_of ss ++ lists_of ts
lists_of_append [] ts = refl
lists_of_append (Number w r n ∷ ss) ts = lists_of_append ss ts
lists_of_append (Plain n s ∷ ss) ts = lists_of_append ss ts
lists_of_append (Buffer m s ∷ ss) ts = lists_of_append ss ts
lists_of_append (Items i s ∷ ss) ts = ap (λ l. span_part s ∷ l) (lists_of_append ss ts)
lists_of_append (Due v c b ∷ ss) ts = lists_of_append ss ts

-- the lines of steps that were judged, behind each other
lines_of_append : (ss ts : List Step) (src : List ℕ) (at : ℕ) {xs : List ℕ} → spell ss src at ≡ found xs → lines_of (ss ++ ts) src at ≡ lines_of ss src at ++ lines_of ts src (at + length xs)
unfolding lines_of spell
lines_of_append [] ts src at {xs} p = let none : 0 ≡ length xs = ap length (found_same p) in ap (λ e. lines_of ts src e) (omega arith)
lines_of_append (s ∷ ss) ts src at {xs} p =
    let n = next_step s ss src at p in
    let place : at + length (laid s src) + length n.left ≡ at + length xs = omega (arith, ap length n.split, length-append (laid s src) n.left) in
    ap (λ x. step_lines s src at ++ x) (lines_of_append ss ts src (at + length (laid s src)) n.spelled ∙ ap (λ e. lines_of ss src (at + length (laid s src)) ++ lines_of ts src e) place)
    ∙ sym (append_assoc (step_lines s src at) (lines_of ss src (at + length (laid s src))) (lines_of ts src (at + length xs)))

-- ---- plans

pub plans_none : Plans stop [] [] []
unfolding lay spell lines_of lines
plans_none = record { lays = λ src at. refl; shaped = tt; fields = refl; lists = refl; shows = λ src at p. refl }

-- a record behind another
pub plans_then : {l m : Layout} {ps qs ls ms : List Part} {ss ts : List Step} → Plans l ps ls ss → Plans m qs ms ts → Plans (l then m) (ps ++ qs) (ls ++ ms) (ss ++ ts)
plans_then {l} {m} {ps} {qs} {ls} {ms} {ss} {ts} a b =
    record {
      lays = λ src at.
          lay_then l m ps qs src at a.shaped
          ∙ ap (λ x. onto at x (λ e. lay m qs src e)) (a.lays src at)
          ∙ onto_same at (spell ss src at) _ _ (λ e. b.lays src e)
          ∙ sym (spell_append ss ts src at);
      shaped = shaped_then l m ps qs a.shaped b.shaped;
      fields = spans_of_append ss ts ∙ ap (λ x. x ++ spans_of ts) a.fields ∙ ap (λ x. spans ps ++ x) b.fields ∙ sym (spans_append ps qs);
      lists = lists_of_append ss ts ∙ ap (λ x. x ++ lists_of ts) a.lists ∙ ap (λ x. ls ++ x) b.lists;
      shows = λ src at p.
          let (xs, e, q) = next_found (lay l ps src at) _ (sym (lay_then l m ps qs src at a.shaped) ∙ p) in
          let (ys, f, g) = next_found (lay m qs src (at + length xs)) _ q in
          lines_of_append ss ts src at (sym (a.lays src at) ∙ e)
          ∙ ap (λ x. x ++ lines_of ts src (at + length xs)) (a.shows src at e)
          ∙ ap (λ x. lines l ps src at ++ x) (b.shows src (at + length xs) f)
          ∙ sym (lines_then l m ps qs src at a.shaped e);
    }

-- ---- one field, and what follows it

number_lays : (w : Width) (r : Rule) (n : ℕ) (k : ℕ → Layout) {ps ls : List Part} {ss : List Step} → Plans (k n) ps ls ss
    → (src : List ℕ) (at : ℕ) → lay (number (width_of w) r k) (num n ∷ ps) src at ≡ spell (Number w r n ∷ ss) src at
unfolding lay spell spell_step
number_lays w r n k {ps} {ss = ss} rest src at = by (spelt (width_of w) r n at) refl
  where
    by : (a : Ans (List ℕ)) → spelt (width_of w) r n at ≡ a → ahead a (lay (k n) ps src (at + width_of w)) ≡ onto at a (λ e. spell ss src e)
    by (found ds) e = rw (ap length (spelt_found (width_of w) r n at e).2 ∙ length_digits (width_of w) n, rest.lays src (at + width_of w))
    by (refused f) e = refl

pub plans_number : {ps ls : List Part} {ss : List Step} (w : Width) (r : Rule) (n : ℕ) (k : ℕ → Layout) → n < 256 ^ width_of w → Plans (k n) ps ls ss
    → Plans (number (width_of w) r k) (num n ∷ ps) ls (Number w r n ∷ ss)
unfolding lines_of lines
plans_number {ps} {ss = ss} w r n k h a =
    record {
      lays = number_lays w r n k a;
      shaped = (h, λ t. a.shaped);
      fields = a.fields;
      lists = a.lists;
      shows = λ src at p.
          rw (length_digits (width_of w) n) (ap (λ x. line at (width_of w) (say_number r n) ∷ x) (a.shows src (at + width_of w) (number_goes ps src at (width_of w) n r k p).1.laid));
    }

-- bytes that are found are as many as the span has
cut_onto : (src : List ℕ) (start len at : ℕ) (g : List ℕ → Ans (List ℕ)) (b c : ℕ → Ans (List ℕ)) → ((e : ℕ) → b e ≡ c e)
    → ((xs ys : List ℕ) → g xs ≡ found ys → length xs ≡ len → length ys ≡ len)
    → next (cut src start len at) (λ xs. ahead (g xs) (b (at + len))) ≡ onto at (next (cut src start len at) g) c
cut_onto src start len at g b c same size = by (cut src start len at) refl
  where
    with_bytes : (a : Ans (List ℕ)) → ((ys : List ℕ) → a ≡ found ys → length ys ≡ len) → ahead a (b (at + len)) ≡ onto at a c
    with_bytes (found ys) h = rw (h ys refl, same (at + len))
    with_bytes (refused f) h = refl

    by : (a : Ans (List ℕ)) → cut src start len at ≡ a → next a (λ xs. ahead (g xs) (b (at + len))) ≡ onto at (next a g) c
    by (found xs) e = with_bytes (g xs) (λ ys p. size xs ys p (cut_found src start len at e).0)
    by (refused f) e = refl

pub plans_plain : {l : Layout} {ps ls : List Part} {ss : List Step} (s : Span) → Plans l ps ls ss → Plans (plain (len_of s) l) (span_part s ∷ ps) ls (Plain (len_of s) s ∷ ss)
unfolding lay spell spell_step lines_of lines
plans_plain {l} {ps} {ls} {ss} s a =
    record {
      lays = λ src at. rw (eq-eqb (len_of s) (len_of s) refl) (plain_lays src at);
      shaped = (refl, a.shaped);
      fields = ap (λ x. span_part s ∷ x) a.fields;
      lists = a.lists;
      shows = λ src at p.
          let (size, same, g) = plain_goes ps src at (len_of s) (start_of s) (len_of s) l p in
          ap (λ n. span_line at (start_of s) (len_of s) src ∷ lines_of ss src (at + n)) size ∙ ap (λ x. span_line at (start_of s) (len_of s) src ∷ x) (a.shows src (at + len_of s) g.laid);
    }
  where
    plain_lays : (src : List ℕ) (at : ℕ) → ahead (cut src (start_of s) (len_of s) at) (lay l ps src (at + len_of s)) ≡ onto at (cut src (start_of s) (len_of s) at) (λ e. spell ss src e)
    plain_lays src at = by (cut src (start_of s) (len_of s) at) refl
      where
        by : (b : Ans (List ℕ)) → cut src (start_of s) (len_of s) at ≡ b → ahead b (lay l ps src (at + len_of s)) ≡ onto at b (λ e. spell ss src e)
        by (found xs) e = rw ((cut_found src (start_of s) (len_of s) at e).0, a.lays src (at + len_of s))
        by (refused f) e = refl

pub plans_list : {l : Layout} {ps ls : List Part} {ss : List Step} (i : ListOf) (s : Span) → Plans l ps ls ss
    → Plans (counted (most_items i) (item_layout i) l) (span_part s ∷ ps) (span_part s ∷ ls) (Items i s ∷ ss)
unfolding lay spell spell_step lines_of lines
plans_list {l} {ps} {ls} {ss} i s a =
    record {
      lays = λ src at.
          cut_onto src (start_of s) (len_of s) at (λ xs. moved at (whole (most_items i) (item_layout i) xs)) (λ e. lay l ps src e) (λ e. spell ss src e) (λ e. a.lays src e)
          (λ xs ys p h. ap length (whole_same (most_items i) (item_layout i) xs (moved_found at (whole (most_items i) (item_layout i) xs) p)) ∙ h);
      shaped = a.shaped;
      fields = ap (λ x. span_part s ∷ x) a.fields;
      lists = ap (λ x. span_part s ∷ x) a.lists;
      shows = λ src at p.
          let (size, g) = counted_goes ps src at (most_items i) (start_of s) (len_of s) (item_layout i) l p in
          let first = step_lines (Items i s) src at in
          ap (λ n. first ++ lines_of ss src (at + n)) size ∙ ap (λ x. first ++ x) (a.shows src (at + len_of s) g.laid);
    }

-- a buffer's length and its bytes
sized_onto : (src : List ℕ) (start len : ℕ) (w m at : ℕ) (b c : ℕ → Ans (List ℕ)) → ((e : ℕ) → b e ≡ c e)
    → next (cut src start len at) (λ xs. ahead (spelt w (length_to m) len at) (ahead (found xs) (b (at + w + len))))
    ≡ onto at (next (cut src start len at) (λ xs. ahead (spelt w (length_to m) len at) (found xs))) c
sized_onto src start len w m at b c same = by (cut src start len at) refl
  where
    bracketed : (ds xs : List ℕ) (d : Ans (List ℕ)) → next (next d (λ ys. found (xs ++ ys))) (λ zs. found (ds ++ zs)) ≡ next d (λ zs. found ((ds ++ xs) ++ zs))
    bracketed ds xs (found zs) = ap found (sym (append_assoc ds xs zs))
    bracketed ds xs (refused f) = refl

    with_length : (a : Ans (List ℕ)) (xs : List ℕ) → length xs ≡ len → spelt w (length_to m) len at ≡ a → ahead a (ahead (found xs) (b (at + w + len))) ≡ onto at (ahead a (found xs)) c
    with_length (found ds) xs h e =
        let size : length ds ≡ w = ap length (spelt_found w (length_to m) len at e).2 ∙ length_digits w len in
        let place : at + w + len ≡ at + length (ds ++ xs) = omega (arith, length-append ds xs) in
        bracketed ds xs (b (at + w + len)) ∙ ap (λ d. next d (λ zs. found ((ds ++ xs) ++ zs))) (same (at + w + len) ∙ ap c place)
    with_length (refused f) xs h e = refl

    by : (a : Ans (List ℕ)) → cut src start len at ≡ a
        → next a (λ xs. ahead (spelt w (length_to m) len at) (ahead (found xs) (b (at + w + len)))) ≡ onto at (next a (λ xs. ahead (spelt w (length_to m) len at) (found xs))) c
    by (found xs) e = with_length (spelt w (length_to m) len at) xs (cut_found src start len at e).0 refl
    by (refused f) e = refl

pub plans_buffer : {l : Layout} {ps ls : List Part} {ss : List Step} (m : ℕ) (s : Span) → m < 65536 → Plans l ps ls ss → Plans (buffer 2 m l) (span_part s ∷ ps) ls (Buffer m s ∷ ss)
unfolding lay spell spell_step lines_of lines
plans_buffer {l} {ps} {ls} {ss} m s h a =
    record {
      lays = λ src at. sized_onto src (start_of s) (len_of s) 2 m at (λ e. lay l ps src e) (λ e. spell ss src e) (λ e. a.lays src e);
      shaped = ((λ g. omega arith), a.shaped);
      fields = ap (λ x. span_part s ∷ x) a.fields;
      lists = a.lists;
      shows = λ src at p.
          let (size, g) = buffer_goes ps src at 2 m (start_of s) (len_of s) l p in
          let there : at + length (digits 2 (len_of s) ++ take (len_of s) (drop (start_of s) src)) ≡ at + (2 + len_of s) =
          omega (arith, length-append (digits 2 (len_of s)) (take (len_of s) (drop (start_of s) src)), length_digits 2 (len_of s)) in
          let place : at + (2 + len_of s) ≡ at + 2 + len_of s = omega arith in
          ap (λ x. line at 2 (a_number (len_of s)) ∷ span_line (at + 2) (start_of s) (len_of s) src ∷ x)
          (ap (λ e. lines_of ss src e) there ∙ a.shows src (at + (2 + len_of s)) g.laid ∙ ap (λ e. lines l ps src e) place);
    }

-- ---- unions

-- steps that are those of the arm h, if it is the one that is chosen, and have its byte fields and lists anyway
pub record Arm (c : Option ℕ) (h : ℕ) (l : Layout) (ps ls : List Part) (ss : List Step) : Type 0 where
  pub if_chosen : is_arm c h ≡ true → Plans l ps ls ss
  pub fields : spans_of ss ≡ spans ps
  pub lists : lists_of ss ≡ ls

pub plans_arm : {c : Option ℕ} {h : ℕ} {l : Layout} {ps ls : List Part} {ss : List Step} → Plans l ps ls ss → Arm c h l ps ls ss
plans_arm a = record { if_chosen = λ t. a; fields = a.fields; lists = a.lists }

due_lays : (b : Bool) (v h t : ℕ) (body : ℕ → Layout) {ps ls : List Part} {ss : List Step} → eqb h t ≡ b → (b ≡ true → Plans (body h) ps ls ss)
    → (src : List ℕ) (at : ℕ) → lay (arm v t (body t)) (tag h ∷ ps) src at ≡ spell (Due v (Some t) b ∷ ss) src at
unfolding lay spell spell_step
due_lays true v h t body {ps} {ss = ss} e a src at = rw (e, ← eqb-true h t e) ((a refl).lays src at ∙ sym (onto_none at (λ e. spell ss src e)))
due_lays false v h t body e a src at = rw e

due_shows : (b : Bool) (v h t : ℕ) (body : ℕ → Layout) {ps ls : List Part} {ss : List Step} → eqb h t ≡ b → (b ≡ true → Plans (body h) ps ls ss)
    → (src : List ℕ) (at : ℕ) {bs : List ℕ} → lay (arm v t (body t)) (tag h ∷ ps) src at ≡ found bs → lines_of (Due v (Some t) b ∷ ss) src at ≡ lines (arm v t (body t)) (tag h ∷ ps) src at
unfolding lay lines lines_of
due_shows true v h t body {ps} {ss = ss} e a src at p =
    let same = eqb-true h t e in
    let place : at + 0 ≡ at = omega arith in
    ap (λ x. lines_of ss src x) place ∙ (a refl).shows src at (ap (λ u. lay (body u) ps src at) same ∙ (when_found (eqb h t) _ _ p).1) ∙ ap (λ u. lines (body u) ps src at) same
due_shows false v h t body e a src at p = absurd (false≢true (sym e ∙ (when_found (eqb h t) _ _ p).0))

pub plans_due : {ps ls : List Part} {ss : List Step} (v : ℕ) (c : Option ℕ) (h : ℕ) (body : ℕ → Layout) → Arm c h (body h) ps ls ss
    → Plans (union c body v) (tag h ∷ ps) ls (Due v c (is_arm c h) ∷ ss)
unfolding lay spell spell_step
plans_due v None h body a = record { lays = λ src at. refl; shaped = tt; fields = a.fields; lists = a.lists; shows = λ src at p. absurd (found_refused p) }
plans_due v (Some t) h body a =
    record {
      lays = due_lays (eqb h t) v h t body refl a.if_chosen;
      shaped = λ e. rw (← e) (a.if_chosen (eq-eqb h t e)).shaped;
      fields = a.fields;
      lists = a.lists;
      shows = due_shows (eqb h t) v h t body refl a.if_chosen;
    }

-- a digest is the arm by its length
pub digest_arm : (c : Option ℕ) (s : Span) → Arm c (digest_of (len_of s)) (plain (len_of s) stop) (span_part s ∷ []) [] (Plain (due_size c) s ∷ [])
digest_arm None s = record { if_chosen = λ t. absurd (false≢true t); fields = refl; lists = refl }
digest_arm (Some u) s =
    record {
      if_chosen = λ t. let e : digest_size u ≡ len_of s = omega (arith, eqb-true (digest_of (len_of s)) u t) in rw e (plans_plain s plans_none);
      fields = refl;
      lists = refl;
    }
