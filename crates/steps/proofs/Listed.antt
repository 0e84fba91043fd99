-- What a walk puts that is for lines, over any steps: the text of their lines. Assumes nothing.
use Prim.Native.Nat.{ℕ, zero, suc, ◌+◌, ◌*◌, ◌≤◌, ◌<◌}
use native.Mathlib.Nat.{suc-mul, mul-le-mul_right}
use native.Mathlib.Omega.{arith}
use mathlib.Core.Path.{◌≡◌, refl, sym, ap, ◌∙◌, subst}
use mathlib.Core.Bool.{true}
use mathlib.Core.List.{List, [], ◌∷◌, ◌++◌, append_assoc}
use lib.ListN.{length, take, drop, length-append, length-take}
use lib.Dec.{leb}
use borrow.Author.Tests.{le-leb, leb-true}
use Rattle.wire.specs.declared.span.Span.{Span}
use Rattle.wire.specs.Answers.{width_of, start_of, len_of}
use Rattle.wire.specs.Bytes.{be, digits}
use Rattle.wire.specs.Layout.{Rule, free, listed, fixed, length_to, count_to, Layout, stop, no_arm, arm, number, plain, buffer, one}
use Rattle.wire.specs.Lines.{Says, a_code, a_number, the_bytes, Line, line, say_number, lines, of_read}
use Rattle.wire.specs.Records.{Part, found, Parsed}
use Rattle.wire.specs.Reading.{piece, field, walk, read}
use Rattle.wire.specs.Writing.{cut, whole, lay}
use Rattle.wire.proofs.Digits.{length_digits}
use Rattle.wire.proofs.Cuts.{cut_length}
use Rattle.wire.proofs.Steps.{found_same, found_refused, next_found}
use Rattle.wire.proofs.Written.{moved_found}
use Rattle.codes.specs.Codes.{alg, curve}
use Rattle.format.specs.declared.list.ListOf.{ListOf}
use Rattle.format.specs.declared.list.ListOf.TheVariants.{AlgProperty, Handle, Cca, Cc, PcrSelection, TaggedTpmProperty, EccCurve, TaggedPolicy, ActData}
use Rattle.format.specs.Kinds.{tpmt_ha, tpms_pcr_selection, tpms_alg_property, tpms_tagged_property, tpms_tagged_policy, tpms_act_data, item_layout, most_items}
use Rattle.format.proofs.Bounds.{digest_holds}
use Rattle.text.specs.Puts.{Puts}
use Rattle.text.specs.declared.line.Word.{Word}
use Rattle.text.specs.Text.{line_text, lines_text}
use Rattle.text.proofs.Putting.{puts_length, puts_then, puts_none}
use Rattle.text.proofs.Decimals.{decimal_few}
use Rattle.text.proofs.Rows.{number_line_most, bytes_line_most}
use Rattle.steps.specs.declared.walk.Walk.{Walk}
use Rattle.steps.specs.Steps.{Step, Number, Plain, Buffer, Items, Due, spell, spell_step, laid, items_lines, left_lines, step_lines, lines_of, lists_of}
use Rattle.steps.specs.Walks.{Here, here, lining, put_line, put_lines, to_place, on_to, line_step, step_walk, run, Walks}
use Rattle.steps.proofs.Reach.{items_legal, count_few}
use Rattle.steps.proofs.Spelled.{next_step, step_is, cut_is}

-- ---- lines, put where they fit

-- the text of lines behind lines
text_append : (ls ms : List Line) → lines_text (ls ++ ms) ≡ lines_text ls ++ lines_text ms
text_append [] ms = refl
text_append (l ∷ ls) ms = ap (λ x. line_text l ++ x) (text_append ls ms) ∙ sym (append_assoc (line_text l) (lines_text ls) (lines_text ms))

-- the text was counted from the place v on, and the record's place is `at`; where all of it fits, it was put
record LinesTo (at v : ℕ) (text old : List ℕ) (h : Here) : Type 0 where
  pub counted : h.walk ≡ lining at (v + length text)
  pub puts : v + length text ≤ length old → Puts v text old (v + length text) h.out

put_line_lem : (l : Line) (at v : ℕ) (old : List ℕ) → v ≤ 0x1000000 → LinesTo at v (line_text l) old (put_line l (here (lining at v) old))
unfolding put_line
put_line_lem l at v old near =
    rw (le-leb v 0x1000000 near)
    (record { counted = refl; puts = λ room. rw (le-leb (v + length (line_text l)) (length old) room) (record { behind = refl; holds = refl }) })

no_lines_put : (at v : ℕ) (old : List ℕ) → LinesTo at v [] old (here (lining at v) old)
no_lines_put at v old = let here-still : v ≡ v + 0 = omega arith in record { counted = ap (λ n. lining at n) here-still; puts = λ room. subst (λ n. Puts v [] old n old) here-still (puts_none v old) }

-- a text, and another behind it
lines_then : {a b v : ℕ} {xs ys old : List ℕ} {h g : Here} → LinesTo a v xs old h → LinesTo b (v + length xs) ys h.out g → LinesTo b v (xs ++ ys) old g
lines_then {b = b} {v = v} {xs = xs} {ys = ys} {old = old} {g = g} p q =
    let place : v + length xs + length ys ≡ v + length (xs ++ ys) = omega (arith, length-append xs ys) in
    record {
      counted = q.counted ∙ ap (λ n. lining b n) place;
      puts = λ room.
          let fits : v + length xs ≤ length old = omega arith in
          let first = p.puts fits in
          subst (λ n. Puts v (xs ++ ys) old n g.out) place (puts_then fits first (q.puts (omega (arith, puts_length fits first))));
    }

-- the place that was come to, and the buffer there
come : {a v : ℕ} {xs old : List ℕ} {h : Here} → LinesTo a v xs old h → here (lining a (v + length xs)) h.out ≡ h
come {h = h} p = ap (λ w. here w h.out) (sym p.counted)

put_lines_lem : (ls : List Line) (at v : ℕ) (old : List ℕ) → v + length (lines_text ls) ≤ 0x1000000 → LinesTo at v (lines_text ls) old (put_lines ls (here (lining at v) old))
unfolding put_lines
put_lines_lem [] at v old near = no_lines_put at v old
put_lines_lem (l ∷ ls) at v old near =
    let size = length-append (line_text l) (lines_text ls) in
    let p = put_line_lem l at v old (omega arith) in
    let mid = (put_line l (here (lining at v) old)).out in
    lines_then p (subst (λ g. LinesTo at (v + length (line_text l)) (lines_text ls) mid (put_lines ls g)) (come p) (put_lines_lem ls at (v + length (line_text l)) mid (omega arith)))

-- ---- how long lines are at most, if no place and no size has more than four digits

abbrev need_of : Says → ℕ
need_of (a_code n) = 38
need_of (a_number n) = 38
need_of (the_bytes xs) = 18 + 2 * length xs

abbrev needs : List Line → ℕ
needs [] = 0
needs (l ∷ ls) = need_of l.says + needs ls

abbrev Short : List Line → Type 0
Short [] = Unit {0}
Short (l ∷ ls) = (l.place < 10000) × (l.size < 10000) × Short ls

needs_append : (ls ms : List Line) → needs (ls ++ ms) ≡ needs ls + needs ms
needs_append [] ms = omega arith
needs_append (l ∷ ls) ms = omega (arith, needs_append ls ms)

short_append : (ls ms : List Line) → Short ls → Short ms → Short (ls ++ ms)
short_append [] ms p q = q
short_append (l ∷ ls) ms (a, b, p) q = (a, b, short_append ls ms p q)

line_need : (place size : ℕ) (s : Says) → place < 10000 → size < 10000 → length (line_text (line place size s)) ≤ need_of s
line_need place size (a_code n) a b = omega (arith, number_line_most place size Word.Code n, decimal_few place a, decimal_few size b)
line_need place size (a_number n) a b = omega (arith, number_line_most place size Word.Number n, decimal_few place a, decimal_few size b)
line_need place size (the_bytes xs) a b = omega (arith, bytes_line_most place size xs, decimal_few place a, decimal_few size b)

text_need : (ls : List Line) → Short ls → length (lines_text ls) ≤ needs ls
text_need [] p = omega arith
text_need (l ∷ ls) (a, b, p) = omega (arith, length-append (line_text l) (lines_text ls), line_need l.place l.size l.says a b, text_need ls p)

-- ---- how long the lines of a legal step are

number_need : (r : Rule) (n : ℕ) → need_of (say_number r n) ≡ 38
number_need free n = refl
number_need (listed p) n = refl
number_need (fixed p) n = refl
number_need (length_to m) n = refl
number_need (count_to m) n = refl

-- what the lines of a record, read from `at` on as r, need from the place `place` on: c characters, besides two digits a byte; and no place
-- and no size of them has more than four digits, if the record's end has not
record LinesNeed (l : Layout) (c : ℕ) (xs : List ℕ) (at place : ℕ) (r : Parsed) : Type 0 where
  pub ahead : at ≤ r.stops
  pub few : needs (lines l r.parts xs place) + 2 * at ≤ c + 2 * r.stops
  pub near : place + r.stops < 10000 + at → Short (lines l r.parts xs place)

-- the same of every record of the layout
abbrev Needing : Layout → ℕ → Type 0
Needing l c = (xs : List ℕ) (at place : ℕ) (r : Parsed) → read l xs at ≡ found r → LinesNeed l c xs at place r

needing_more : {l : Layout} {c d : ℕ} → c ≤ d → Needing l c → Needing l d
needing_more h g xs at place r p = let q = g xs at place r p in record { ahead = q.ahead; few = omega (arith, q.few); near = q.near }

stop_needing : Needing stop 0
unfolding read lines
stop_needing xs at place r p = rw (← found_same p) (record { ahead = omega arith; few = omega arith; near = λ h. tt })

no_arm_needing : (c v : ℕ) → Needing (no_arm v) c
unfolding read
no_arm_needing c v xs at place r p = absurd (found_refused p)

arm_needing : (c v t : ℕ) (l : Layout) → Needing l c → Needing (arm v t l) c
unfolding read lines
arm_needing c v t l h xs at place r p =
    let (inner, q, s) = next_found (read l xs at) _ p in
    let g = h xs at place inner q in
    rw (← found_same s) (record { ahead = g.ahead; few = g.few; near = g.near })

number_needing : (w c : ℕ) (rule : Rule) {k : ℕ → Layout} → ((n : ℕ) → Needing (k n) c) → Needing (number w rule k) (38 + c)
unfolding read lines
number_needing w c rule {k} h xs at place r p =
    let (n, a, q) = next_found (field w rule xs at) _ p in
    let (inner, t, s) = next_found (read (k n) xs (at + w)) _ q in
    let g = h n xs (at + w) (place + w) inner t in
    rw (← found_same s)
    (record { ahead = omega (arith, g.ahead); few = omega (arith, number_need rule n, g.few); near = λ e. (omega (arith, g.ahead), omega (arith, g.ahead), g.near (omega arith)) })

plain_needing : (n c : ℕ) {l : Layout} → Needing l c → Needing (plain n l) (18 + c)
unfolding read lines
plain_needing n c {l} h xs at place r p =
    let (ys, a, q) = next_found (piece n xs at) _ p in
    let (inner, t, s) = next_found (read l xs (at + n)) _ q in
    let g = h xs (at + n) (place + n) inner t in
    rw (← found_same s)
    (record { ahead = omega (arith, g.ahead); few = omega (arith, length-take n (drop at xs), g.few); near = λ e. (omega (arith, g.ahead), omega (arith, g.ahead), g.near (omega arith)) })

buffer_needing : (w m c : ℕ) {l : Layout} → Needing l c → Needing (buffer w m l) (56 + c)
unfolding read lines
buffer_needing w m c {l} h xs at place r p =
    let (n, a, q) = next_found (field w (length_to m) xs at) _ p in
    let (ys, b, o) = next_found (piece n xs (at + w)) _ q in
    let (inner, t, s) = next_found (read l xs (at + w + n)) _ o in
    let g = h xs (at + w + n) (place + w + n) inner t in
    rw (← found_same s)
    (record {
      ahead = omega (arith, g.ahead);
      few = omega (arith, length-take n (drop (at + w) xs), g.few);
      near = λ e. (omega (arith, g.ahead), omega (arith, g.ahead), (omega (arith, g.ahead), omega (arith, g.ahead), g.near (omega arith)));
    })

one_needing : (w : ℕ) (rule : Rule) → Needing (one w rule) 38
one_needing w rule = number_needing w 0 rule (λ n. stop_needing)

ha_needing : Needing tpmt_ha 56
unfolding tpmt_ha
ha_needing =
    number_needing 2 18 alg
    (digest_holds (λ l. Needing l 18) (no_arm_needing 18) (arm_needing 18)
    (λ n h. plain_needing n 0 stop_needing) (needing_more (omega arith) stop_needing))

-- a line a list: what the lines of an item need, besides two digits a byte, and those of the most items
abbrev item_needs : ListOf → ℕ
item_needs AlgProperty = 76
item_needs Handle = 38
item_needs Cca = 38
item_needs Cc = 38
item_needs PcrSelection = 94
item_needs TaggedTpmProperty = 76
item_needs EccCurve = 38
item_needs TaggedPolicy = 94
item_needs ActData = 114

item_needing : (which : ListOf) → Needing (item_layout which) (item_needs which)
unfolding tpms_pcr_selection tpms_alg_property tpms_tagged_property tpms_tagged_policy tpms_act_data
item_needing AlgProperty = number_needing 2 38 alg (λ n. one_needing 4 free)
item_needing Handle = one_needing 4 free
item_needing Cca = one_needing 4 free
item_needing Cc = one_needing 4 free
item_needing PcrSelection = number_needing 2 56 alg (λ n. buffer_needing 1 4 0 stop_needing)
item_needing TaggedTpmProperty = number_needing 4 38 free (λ n. one_needing 4 free)
item_needing EccCurve = one_needing 2 curve
item_needing TaggedPolicy = number_needing 4 56 free (λ n. ha_needing)
item_needing ActData = number_needing 4 76 free (λ n. number_needing 4 38 free (λ n. one_needing 4 free))

all_need : (which : ListOf) → most_items which * item_needs which ≤ 9728
all_need AlgProperty = omega arith
all_need Handle = omega arith
all_need Cca = omega arith
all_need Cc = omega arith
all_need PcrSelection = omega arith
all_need TaggedTpmProperty = omega arith
all_need EccCurve = omega arith
all_need TaggedPolicy = omega arith
all_need ActData = omega arith

module _ (which : ListOf) (xs : List ℕ) (place : ℕ) where
  item_then : (n at : ℕ) {r : Parsed} → read (item_layout which) xs at ≡ found r → left_lines which (suc n) xs at place ≡ lines (item_layout which) r.parts xs (place + at) ++ left_lines which n xs r.stops place
  item_then n at q = ap (λ a. of_read a (λ r. lines (item_layout which) r.parts xs (place + at) ++ left_lines which n xs r.stops place)) q

  items_ahead : (n at : ℕ) {e : ℕ} → walk (λ s a. read (item_layout which) s a) n xs at ≡ found e → at ≤ e
  items_ahead zero at p = omega (arith, found_same p)
  items_ahead (suc n) at p =
      let (r, q, s) = next_found (read (item_layout which) xs at) _ p in
      omega (arith, (item_needing which xs at place r q).ahead, items_ahead n r.stops s)

  items_needs : (n at : ℕ) {e : ℕ} → walk (λ s a. read (item_layout which) s a) n xs at ≡ found e → needs (left_lines which n xs at place) + 2 * at ≤ n * item_needs which + 2 * e
  items_needs zero at p = omega (arith, found_same p)
  items_needs (suc n) at p =
      let (r, q, s) = next_found (read (item_layout which) xs at) _ p in
      let ls = lines (item_layout which) r.parts xs (place + at) in
      let ms = left_lines which n xs r.stops place in
      omega (arith, ap needs (item_then n at q), needs_append ls ms, items_needs n r.stops s, (item_needing which xs at (place + at) r q).few, suc-mul n (item_needs which))

  items_short : (n at : ℕ) {e : ℕ} → walk (λ s a. read (item_layout which) s a) n xs at ≡ found e → place + e < 10000 → Short (left_lines which n xs at place)
  items_short zero at p near = tt
  items_short (suc n) at p near =
      let (r, q, s) = next_found (read (item_layout which) xs at) _ p in
      let behind = items_ahead n r.stops s in
      rw (item_then n at q)
      (short_append (lines (item_layout which) r.parts xs (place + at)) (left_lines which n xs r.stops place)
      ((item_needing which xs at (place + at) r q).near (omega arith)) (items_short n r.stops s near))

  list_needs : {ys : List ℕ} → whole (most_items which) (item_layout which) xs ≡ found ys → needs (items_lines which xs place) ≤ 9766 + 2 * length xs
  list_needs w = omega (arith, items_needs (be (take 4 xs)) 4 (items_legal which xs w refl), mul-le-mul_right (item_needs which) (count_few which xs w), all_need which)

  list_short : {ys : List ℕ} → whole (most_items which) (item_layout which) xs ≡ found ys → place + length xs < 10000 → Short (items_lines which xs place)
  list_short w near = (omega arith, omega arith, items_short (be (take 4 xs)) 4 (items_legal which xs w refl) near)

-- 1 for a list, and 0 for any other step
abbrev is_list : Step → ℕ
is_list (Number w r n) = 0
is_list (Plain n s) = 0
is_list (Buffer m s) = 0
is_list (Items i s) = 1
is_list (Due v c b) = 0

list_legal : (i : ListOf) (s : Span) (src : List ℕ) (at : ℕ) {xs : List ℕ} → spell_step (Items i s) src at ≡ found xs → (ys : List ℕ) × (whole (most_items i) (item_layout i) (take (len_of s) (drop (start_of s) src)) ≡ found ys)
unfolding spell_step
list_legal i s src at {xs} p =
    let (ys, e, q) = next_found (cut src (start_of s) (len_of s) at) _ p in
    let same = (cut_is src (start_of s) (len_of s) at e).0 in
    (xs, rw same at (moved_found at (whole (most_items i) (item_layout i) ys) q))

step_need : (s : Step) (src : List ℕ) (at : ℕ) {xs : List ℕ} → spell_step s src at ≡ found xs → at + length xs < 10000 → length (lines_text (step_lines s src at)) ≤ 56 + (9710 * is_list s + 2 * length xs)
step_need (Number w r n) src at p near =
    let size = ap length (step_is (Number w r n) src at p).0 ∙ length_digits (width_of w) n in
    omega (arith, number_need r n, text_need (step_lines (Number w r n) src at) (omega arith, omega arith, tt))
step_need (Plain n s) src at p near =
    let size = ap length (step_is (Plain n s) src at p).0 in
    let whole = cut_length src (start_of s) (len_of s) 0 (step_is (Plain n s) src at p).1 in
    omega (arith, text_need (step_lines (Plain n s) src at) (omega arith, omega arith, tt))
step_need (Buffer m s) src at p near =
    let size = ap length (step_is (Buffer m s) src at p).0 ∙ length-append (digits 2 (len_of s)) (take (len_of s) (drop (start_of s) src)) in
    let whole = cut_length src (start_of s) (len_of s) 0 (step_is (Buffer m s) src at p).1 in
    let two = length_digits 2 (len_of s) in
    omega (arith, text_need (step_lines (Buffer m s) src at) (omega arith, omega arith, (omega arith, omega arith, tt)))
step_need (Items i s) src at p near =
    let size = ap length (step_is (Items i s) src at p).0 in
    let (ys, legal) = list_legal i s src at p in
    let xs = take (len_of s) (drop (start_of s) src) in
    omega (arith, list_needs i xs at legal, text_need (items_lines i xs at) (list_short i xs at legal (omega arith)))
step_need (Due v c b) src at p near = omega arith

-- ---- one legal step

due_lined : (at v : ℕ) (old : List ℕ) {n : ℕ} → n ≡ 0 → here (lining at v) old ≡ on_to (at + n) (put_lines [] (here (lining at v) old))
unfolding put_lines to_place
due_lined at v old {n} e = let none : at ≡ at + n = omega arith in ap (λ k. here (lining k v) old) none

-- its lines are put, and the walk goes on to the place behind it
step_lined : (s : Step) (src : List ℕ) (at v : ℕ) (old : List ℕ) {xs : List ℕ} → spell_step s src at ≡ found xs → at ≤ 0x10000
    → line_step s src (lining at v) old ≡ on_to (at + length xs) (put_lines (step_lines s src at) (here (lining at v) old))
unfolding line_step
step_lined (Number w r n) src at v old {xs} p near =
    let size : at + width_of w ≡ at + length xs = omega (arith, ap length (step_is (Number w r n) src at p).0, length_digits (width_of w) n) in
    rw (le-leb at 0x1000000 (omega arith)) (ap (λ e. on_to e (put_lines (step_lines (Number w r n) src at) (here (lining at v) old))) size)
step_lined (Plain n s) src at v old p near = rw (le-leb at 0x1000000 (omega arith), p)
step_lined (Buffer m s) src at v old p near = rw (le-leb at 0x1000000 (omega arith), p)
step_lined (Items i s) src at v old p near = rw (le-leb at 0x10000 near, p)
step_lined (Due u c b) src at v old p near = due_lined at v old (ap length (step_is (Due u c b) src at p).0)

on_to_lem : {a v : ℕ} {xs old : List ℕ} {h : Here} (e : ℕ) → LinesTo a v xs old h → LinesTo e v xs old (on_to e h)
unfolding to_place
on_to_lem e p = record { counted = ap (λ w. to_place e w) p.counted; puts = p.puts }

step_lines_lem : (s : Step) (src : List ℕ) (at v : ℕ) (old : List ℕ) {xs : List ℕ} → spell_step s src at ≡ found xs → at ≤ 0x10000 → v + length (lines_text (step_lines s src at)) ≤ 0x1000000
    → LinesTo (at + length xs) v (lines_text (step_lines s src at)) old (line_step s src (lining at v) old)
step_lines_lem s src at v old {xs} p near short =
    subst (λ g. LinesTo (at + length xs) v (lines_text (step_lines s src at)) old g) (sym (step_lined s src at v old p near)) (on_to_lem (at + length xs) (put_lines_lem (step_lines s src at) at v old short))

-- ---- steps one behind the other

step_bytes : (s : Step) (ss : List Step) (src : List ℕ) (at : ℕ) {bs : List ℕ} → spell (s ∷ ss) src at ≡ found bs → spell_step s src at ≡ found (laid s src)
unfolding spell
step_bytes s ss src at p = let (xs, e, q) = next_found (spell_step s src at) _ p in e ∙ ap found (step_is s src at e).0

run_cons : (s : Step) (ss : List Step) (src : List ℕ) (at v : ℕ) (old : List ℕ) → run ss src (line_step s src (lining at v) old) ≡ run (s ∷ ss) src (here (lining at v) old)
unfolding run step_walk
run_cons s ss src at v old = refl

lines_cons : (s : Step) (ss : List Step) (src : List ℕ) (at : ℕ) → lines_text (step_lines s src at) ++ lines_text (lines_of ss src (at + length (laid s src))) ≡ lines_text (lines_of (s ∷ ss) src at)
unfolding lines_of
lines_cons s ss src at = sym (text_append (step_lines s src at) (lines_of ss src (at + length (laid s src))))

none_lines : (src : List ℕ) (at v : ℕ) (old : List ℕ) {bs : List ℕ} → spell [] src at ≡ found bs → LinesTo (at + length bs) v (lines_text (lines_of [] src at)) old (run [] src (here (lining at v) old))
unfolding run spell lines_of
none_lines src at v old {bs} p = let none : at ≡ at + length bs = omega (arith, ap length (found_same p)) in subst (λ n. LinesTo n v [] old (here (lining at v) old)) none (no_lines_put at v old)

run_lines : (ss : List Step) (src : List ℕ) (at v : ℕ) (old bs : List ℕ) → spell ss src at ≡ found bs → at + length bs ≤ 0x10000 → v + length (lines_text (lines_of ss src at)) ≤ 0x1000000
    → LinesTo (at + length bs) v (lines_text (lines_of ss src at)) old (run ss src (here (lining at v) old))
run_lines [] src at v old bs p near short = none_lines src at v old p
run_lines (s ∷ ss) src at v old bs p near short =
    let n = next_step s ss src at p in
    let xs = laid s src in
    let h = line_step s src (lining at v) old in
    let text = lines_text (step_lines s src at) in
    let left = lines_text (lines_of ss src (at + length xs)) in
    let size = ap length n.split ∙ length-append xs n.left in
    let whole = ap length (sym (lines_cons s ss src at)) ∙ length-append text left in
    let first = step_lines_lem s src at v old (step_bytes s ss src at p) (omega arith) (omega arith) in
    let rest = run_lines ss src (at + length xs) (v + length text) h.out n.left n.spelled (omega arith) (omega arith) in
    let all = lines_then first (subst (λ g. LinesTo (at + length xs + length n.left) (v + length text) left h.out (run ss src g)) (come first) rest) in
    let stop : at + length xs + length n.left ≡ at + length bs = omega arith in
    rw (← lines_cons s ss src at, ← run_cons s ss src at v old, ← stop) all

-- and how long their lines are
lists_cons : (s : Step) (ss : List Step) → length (lists_of (s ∷ ss)) ≡ is_list s + length (lists_of ss)
lists_cons (Number w r n) ss = omega arith
lists_cons (Plain n s) ss = omega arith
lists_cons (Buffer m s) ss = omega arith
lists_cons (Items i s) ss = omega arith
lists_cons (Due v c b) ss = omega arith

lines_few : (ss : List Step) (src : List ℕ) (at : ℕ) {bs : List ℕ} → spell ss src at ≡ found bs → at + length bs < 10000 → length (lines_text (lines_of ss src at)) ≤ 56 * length ss + (9710 * length (lists_of ss) + 2 * length bs)
unfolding lines_of
lines_few [] src at p near = omega arith
lines_few (s ∷ ss) src at p near =
    let n = next_step s ss src at p in
    let ls = step_lines s src at in
    let ms = lines_of ss src (at + length (laid s src)) in
    let size = ap length n.split ∙ length-append (laid s src) n.left in
    let text = ap length (text_append ls ms) ∙ length-append (lines_text ls) (lines_text ms) in
    omega (arith, lists_cons s ss, step_need s src at (step_bytes s ss src at p) (omega arith), lines_few ss src (at + length (laid s src)) n.spelled (omega arith))

-- ---- a record

-- of at most 24 steps, one list and 4,096 bytes: how long its lines are is counted, and where they fit they are put
pub walk_lists : (k : ℕ) (l : Layout) (ps ls : List Part) (src old last : List ℕ) (u w : Walk) (v : ℕ) (bs : List ℕ) → u ≡ lining 0 v → Walks k l ps ls src (here u old) (here w last) → lay l ps src 0 ≡ found bs
    → leb k 24 ≡ true → length ls ≤ 1 → length bs ≤ 4096 → v ≤ 0x10000
    → (w.value ≡ v + length (lines_text (lines l ps src 0))) × (v + length (lines_text (lines l ps src 0)) ≤ length old → Puts v (lines_text (lines l ps src 0)) old (v + length (lines_text (lines l ps src 0))) last) × (length (lines_text (lines l ps src 0)) ≤ 11054 + 2 * length bs)
walk_lists k l ps ls src old last u w v bs begin p laid few one small near =
    let most = leb-true k 24 few in
    let there = p.goes.same ∙ ap (λ x. run p.steps src (here x old)) begin in
    let spelled = sym (p.plans.lays src 0) ∙ laid in
    let short = lines_few p.steps src 0 spelled (omega arith) in
    let shown = ap (λ ls. length (lines_text ls)) (p.plans.shows src 0 laid) in
    let lists = ap length p.plans.lists in
    let q = run_lines p.steps src 0 v old bs spelled (omega arith) (omega (arith, p.few)) in
    let r : LinesTo (0 + length bs) v (lines_text (lines l ps src 0)) old (here w last) = rw (← p.plans.shows src 0 laid, there) q in
    (ap (λ x. x.value) r.counted, r.puts, omega (arith, p.few))
