-- What a step that is not refused spells. Assumes nothing.
use Prim.Native.Nat.{ℕ, ◌+◌, ◌≤◌}
use mathlib.Core.Path.{◌≡◌, sym, ap, ◌∙◌}
use mathlib.Core.Bool.{true, false}
use mathlib.Core.List.{List, ◌∷◌, ◌++◌}
use lib.ListN.{length, take, drop}
use lib.Dec.{leb, eqb}
use borrow.Author.Tests.{leb-true}
use Rattle.std.specs.Prelude.{None, Some}
use Rattle.wire.specs.Answers.{width_of, start_of, len_of}
use Rattle.wire.specs.Bytes.{digits}
use Rattle.wire.specs.Layout.{length_to}
use Rattle.wire.specs.Records.{found}
use Rattle.wire.specs.Writing.{cut, spelt, whole}
use Rattle.wire.proofs.Steps.{found_refused, found_same, next_found, when_found}
use Rattle.wire.proofs.Then.{whole_same}
use Rattle.wire.proofs.Written.{spelt_found, moved_found}
use Rattle.format.specs.Kinds.{item_layout, most_items}
use Rattle.steps.specs.Steps.{Step, Number, Plain, Buffer, Items, Due, spell, spell_step, laid}

-- the span of a step lies in the source
abbrev pub Inside : Step → List ℕ → Type 0
Inside (Number w r n) src = Unit {0}
Inside (Plain n s) src = start_of s + len_of s ≤ length src
Inside (Buffer m s) src = start_of s + len_of s ≤ length src
Inside (Items i s) src = start_of s + len_of s ≤ length src
Inside (Due v c b) src = Unit {0}

pub cut_is : (src : List ℕ) (start len at : ℕ) {xs : List ℕ} → cut src start len at ≡ found xs → (xs ≡ take len (drop start src)) × (start + len ≤ length src)
unfolding cut
cut_is src start len at p =
    let (t, e) = when_found (leb (start + len) (length src)) _ _ p in
    (sym (found_same e), leb-true (start + len) (length src) t)

-- a step that is judged well is laid as it is spelled
pub step_is : (s : Step) (src : List ℕ) (at : ℕ) {xs : List ℕ} → spell_step s src at ≡ found xs → (xs ≡ laid s src) × Inside s src
unfolding spell_step
step_is (Number w r n) src at p = ((spelt_found (width_of w) r n at p).2, tt)
step_is (Plain n s) src at p = cut_is src (start_of s) (len_of s) at (when_found (eqb (len_of s) n) _ _ p).1
step_is (Buffer m s) src at p =
    let (xs, e, q) = next_found (cut src (start_of s) (len_of s) at) _ p in
    let (ds, f, g) = next_found (spelt 2 (length_to m) (len_of s) at) _ q in
    let (same, inside) = cut_is src (start_of s) (len_of s) at e in
    (sym (found_same g) ∙ ap (λ l. l ++ xs) (spelt_found 2 (length_to m) (len_of s) at f).2 ∙ ap (λ l. digits 2 (len_of s) ++ l) same, inside)
step_is (Items i s) src at p =
    let (xs, e, q) = next_found (cut src (start_of s) (len_of s) at) _ p in
    let (same, inside) = cut_is src (start_of s) (len_of s) at e in
    (whole_same (most_items i) (item_layout i) xs (moved_found at (whole (most_items i) (item_layout i) xs) q) ∙ same, inside)
step_is (Due v None b) src at p = absurd (found_refused p)
step_is (Due v (Some t) true) src at p = (sym (found_same p), tt)
step_is (Due v (Some t) false) src at p = absurd (found_refused p)

pub record Next (s : Step) (ss : List Step) (src : List ℕ) (at : ℕ) (rest : List ℕ) : Type 0 where
  pub inside : Inside s src
  pub left : List ℕ
  pub split : rest ≡ laid s src ++ left
  pub spelled : spell ss src (at + length (laid s src)) ≡ found left

pub next_step : (s : Step) (ss : List Step) (src : List ℕ) (at : ℕ) {rest : List ℕ} → spell (s ∷ ss) src at ≡ found rest → Next s ss src at rest
unfolding spell
next_step s ss src at p =
    let (xs, e, q) = next_found (spell_step s src at) _ p in
    let (ys, f, g) = next_found (spell ss src (at + length xs)) _ q in
    let (same, i) = step_is s src at e in
    record { inside = i; left = ys; split = sym (found_same g) ∙ ap (λ l. l ++ ys) same; spelled = ap (λ l. spell ss src (at + length l)) (sym same) ∙ f }
