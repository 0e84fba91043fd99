-- The lines of a record that is written: one field and what follows it, and one layout behind another. Assumes nothing.
use Prim.Native.Nat.{ℕ, ◌+◌}
use native.Mathlib.Omega.{arith}
use mathlib.Core.Path.{◌≡◌, sym, ap, ◌∙◌}
use mathlib.Core.Bool.{true}
use mathlib.Core.List.{List, ◌∷◌, ◌++◌, append_assoc}
use lib.ListN.{length, take, drop, length-append}
use lib.Dec.{eqb}
use borrow.Author.Tests.{eqb-true}
use Rattle.wire.specs.Layout.{Rule, length_to, allows, Layout, number, plain, buffer, counted, ◌then◌}
use Rattle.wire.specs.Records.{Part, num, span, Ans, found}
use Rattle.wire.specs.Reading.{read}
use Rattle.wire.specs.Writing.{cut, spelt, whole, moved, ahead, lay}
use Rattle.wire.specs.Lines.{line, a_number, span_line, list_lines, say_number, lines}
use Rattle.wire.specs.Unwritten.{Shaped}
use Rattle.wire.proofs.Digits.{length_digits}
use Rattle.wire.proofs.Steps.{found_refused, found_same, next_found, when_found}
use Rattle.wire.proofs.Then.{whole_same}
use Rattle.wire.proofs.Unwritten.{Carried, by_shape}
use Rattle.wire.proofs.Written.{spelt_found, cut_found, moved_found}

-- ---- what is written begins with its first field, and goes on with the rest

-- a, and what is written behind it
ahead_found : (a b : Ans (List ℕ)) {bs : List ℕ} → ahead a b ≡ found bs → (xs : List ℕ) × (ys : List ℕ) × (a ≡ found xs) × (b ≡ found ys) × (bs ≡ xs ++ ys)
ahead_found a b p =
    let (xs, e, q) = next_found a _ p in
    let (ys, f, g) = next_found b _ q in
    (xs, ys, e, f, sym (found_same g))

-- the rest is written from that place on, and what is written is so many bytes and those of the rest
pub record Goes (l : Layout) (ps : List Part) (src : List ℕ) (at n : ℕ) (bs : List ℕ) : Type 0 where
  pub behind : List ℕ
  pub laid : lay l ps src (at + n) ≡ found behind
  pub size : length bs ≡ n + length behind

module _ (ps : List Part) (src : List ℕ) (at : ℕ) {bs : List ℕ} where
  pub number_goes : (w n : ℕ) (r : Rule) (k : ℕ → Layout) → lay (number w r k) (num n ∷ ps) src at ≡ found bs → (allows r n ≡ true) × Goes (k n) ps src at w bs
  unfolding lay
  number_goes w n r k p =
      let (xs, ys, e, f, g) = ahead_found (spelt w r n at) (lay (k n) ps src (at + w)) p in
      let (fits, allowed, same) = spelt_found w r n at e in
      (allowed, record { behind = ys; laid = f; size = omega (arith, ap length g, length-append xs ys, ap length same, length_digits w n) })

  pub plain_goes : (n start len : ℕ) (l : Layout) → lay (plain n l) (span start len ∷ ps) src at ≡ found bs → (length (take len (drop start src)) ≡ len) × (len ≡ n) × Goes l ps src at len bs
  unfolding lay
  plain_goes n start len l p =
      let (t, q) = when_found (eqb len n) _ _ p in
      let same : len ≡ n = eqb-true len n t in
      let (xs, ys, e, f, g) = ahead_found (cut src start len at) (lay l ps src (at + n)) q in
      let (size, stands, shows) = cut_found src start len at e in
      (ap length shows ∙ size, same, record { behind = ys; laid = ap (λ m. lay l ps src (at + m)) same ∙ f; size = omega (arith, ap length g, length-append xs ys) })

  pub buffer_goes : (w m start len : ℕ) (l : Layout) → lay (buffer w m l) (span start len ∷ ps) src at ≡ found bs → (length (take len (drop start src)) ≡ len) × Goes l ps src at (w + len) bs
  unfolding lay
  buffer_goes w m start len l p =
      let (xs, e, q) = next_found (cut src start len at) _ p in
      let (size, stands, shows) = cut_found src start len at e in
      let (ds, zs, f, g, h) = ahead_found (spelt w (length_to m) len at) (ahead (found xs) (lay l ps src (at + w + len))) q in
      let (vs, ys, i, j, o) = ahead_found (found xs) (lay l ps src (at + w + len)) g in
      let (fits, allowed, same) = spelt_found w (length_to m) len at f in
      let place : at + (w + len) ≡ at + w + len = omega arith in (
        ap length shows ∙ size,
        record {
          behind = ys;
          laid = ap (λ k. lay l ps src k) place ∙ j;
          size = omega (arith, ap length h, length-append ds zs, ap length same, length_digits w len, ap length o, length-append vs ys, ap length (found_same i));
        },
      )

  pub counted_goes : (m start len : ℕ) (i l : Layout) → lay (counted m i l) (span start len ∷ ps) src at ≡ found bs → (length (take len (drop start src)) ≡ len) × Goes l ps src at len bs
  unfolding lay
  counted_goes m start len i l p =
      let (xs, e, q) = next_found (cut src start len at) _ p in
      let (size, stands, shows) = cut_found src start len at e in
      let (vs, ys, f, g, h) = ahead_found (moved at (whole m i xs)) (lay l ps src (at + len)) q in (
        ap length shows ∙ size,
        record {
          behind = ys;
          laid = g;
          size = omega (arith, ap length h, length-append vs ys, ap length (whole_same m i xs (moved_found at (whole m i xs) f)));
        },
      )

-- ---- one layout behind another

-- the lines of the parts ps as l, and behind them those of the rest as m
abbrev Joined : Layout → Layout → List Part → Type 0
Joined m l ps = (qs : List Part) (src : List ℕ) (at : ℕ) (bs : List ℕ) → lay l ps src at ≡ found bs
    → lines (l then m) (ps ++ qs) src at ≡ lines l ps src at ++ lines m qs src (at + length bs)

module _ (m : Layout) (qs : List Part) (src : List ℕ) where
  -- what stands behind the rest, counted from the field's own place
  rest_of : {l : Layout} {ps : List Part} {at n : ℕ} {bs : List ℕ} → Joined m l ps → (g : Goes l ps src at n bs)
      → lines (l then m) (ps ++ qs) src (at + n) ≡ lines l ps src (at + n) ++ lines m qs src (at + length bs)
  rest_of {l} {ps} {at} {n} {bs} joins g =
      let place : at + n + length g.behind ≡ at + length bs = omega (arith, g.size) in
      joins qs src (at + n) g.behind g.laid ∙ ap (λ e. lines l ps src (at + n) ++ lines m qs src e) place

joined : (m : Layout) → Carried (Joined m)
unfolding ◌then◌ lay lines
joined m =
    record {
      at_stop = λ qs src at bs p. let none : 0 ≡ length bs = ap length (found_same p) in ap (λ e. lines m qs src e) (omega arith);
      at_no_arm = λ v ps qs src at bs p. absurd (found_refused p);
      at_arm = λ v t l u ps rest qs src at bs p. let (same, q) = when_found (eqb u t) _ _ p in rest (eqb-true u t same) qs src at bs q;
      at_number = λ w r k n ps h rest qs src at bs p.
          let (allowed, g) = number_goes ps src at w n r k p in
          ap (λ x. line at w (say_number r n) ∷ x) (rest_of m qs src (rest allowed) g);
      at_plain = λ n l start ps rest qs src at bs p.
          let (size, same, g) = plain_goes ps src at n start n l p in
          ap (λ x. span_line at start n src ∷ x) (rest_of m qs src rest g);
      at_buffer = λ w b l start len ps h rest qs src at bs p.
          let (size, g) = buffer_goes ps src at w b start len l p in
          let place : at + (w + len) ≡ at + w + len = omega arith in
          ap (λ x. line at w (a_number len) ∷ span_line (at + w) start len src ∷ x)
          (ap (λ e. lines (l then m) (ps ++ qs) src e) (sym place) ∙ rest_of m qs src rest g ∙ ap (λ e. lines l ps src e ++ lines m qs src (at + length bs)) place);
      at_counted = λ b i l start len ps rest qs src at bs p.
          let (size, g) = counted_goes ps src at b start len i l p in
          let first = list_lines (λ rs xs a. lines i rs xs a) (λ s a. read i s a) (take len (drop start src)) at in
          ap (λ x. first ++ x) (rest_of m qs src rest g) ∙ sym (append_assoc first (lines l ps src (at + len)) (lines m qs src (at + length bs)));
    }

-- `l then m` is shown as l, and from there on as m
pub lines_then : (l m : Layout) (ps qs : List Part) (src : List ℕ) (at : ℕ) {bs : List ℕ} → Shaped l ps → lay l ps src at ≡ found bs
    → lines (l then m) (ps ++ qs) src at ≡ lines l ps src at ++ lines m qs src (at + length bs)
lines_then l m ps qs src at {bs} s p = by_shape (Joined m) (joined m) l ps s qs src at bs p
