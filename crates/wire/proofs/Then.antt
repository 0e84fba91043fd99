-- A layout behind another: it is read and written behind it. So a record in a record is read by its own reader, and written by its
-- own writer. Assumes nothing.
use Prim.Native.Nat.{ℕ, ◌+◌, ◌-◌, ◌^◌, ◌≤◌, ◌<◌}
use native.Mathlib.Nat.{add_assoc, add-zero}
use mathlib.Core.Path.{◌≡◌, refl, sym, ap, ◌∙◌}
use mathlib.Core.Bool.{Bool, true, false, cond}
use mathlib.Core.List.{List, [], ◌∷◌, ◌++◌, append_assoc}
use lib.ListN.{length, length-append}
use lib.Dec.{eqb}
use borrow.Author.Tests.{eq-eqb, eqb-true}
use Rattle.faults.specs.declared.Refusal.{Refusal}
use Rattle.faults.specs.Faults.{mismatch}
use Rattle.wire.specs.Bytes.{digits}
use Rattle.wire.specs.Grammar.{Token, Spells, ends, holds, says, shows, sizes, counts}
use Rattle.wire.specs.Layout.{Rule, allows, Layout, stop, no_arm, arm, number, plain, buffer, counted, ◌then◌, length_to}
use Rattle.wire.specs.Records.{Part, num, tag, span, Ans, found, refused, Parsed, parsed, next}
use Rattle.wire.specs.Reading.{also, piece, field, list, read}
use Rattle.wire.specs.Writing.{cut, spelt, whole, moved, ahead, onto, lay}
use Rattle.wire.specs.Unwritten.{Shaped}
use Rattle.wire.proofs.Digits.{length_digits}
use Rattle.wire.proofs.Steps.{found_same, next_found, when_found}
use Rattle.wire.proofs.Unwritten.{Carried, by_shape}
use Rattle.wire.proofs.Written.{spelt_found, cut_found, moved_found}

-- ---- layouts in a row

-- they are bracketed either way
pub then_assoc : (l m o : Layout) → (l then m) then o ≡ l then (m then o)
unfolding ◌then◌
then_assoc stop m o = refl
then_assoc (no_arm v) m o = refl
then_assoc (arm v t l) m o = ap (λ x. arm v t x) (then_assoc l m o)
then_assoc (number w r k) m o = ap (λ x. number w r x) (λ i n. then_assoc (k n) m o i)
then_assoc (plain n l) m o = ap (λ x. plain n x) (then_assoc l m o)
then_assoc (buffer w b l) m o = ap (λ x. buffer w b x) (then_assoc l m o)
then_assoc (counted b j l) m o = ap (λ x. counted b j x) (then_assoc l m o)

-- and nothing more behind a layout changes nothing
pub then_stop : (l : Layout) → l then stop ≡ l
unfolding ◌then◌
then_stop stop = refl
then_stop (no_arm v) = refl
then_stop (arm v t l) = ap (λ x. arm v t x) (then_stop l)
then_stop (number w r k) = ap (λ x. number w r x) (λ i n. then_stop (k n) i)
then_stop (plain n l) = ap (λ x. plain n x) (then_stop l)
then_stop (buffer w b l) = ap (λ x. buffer w b x) (then_stop l)
then_stop (counted b j l) = ap (λ x. counted b j x) (then_stop l)

-- ---- reading

-- the parts ps, and behind them those of a
abbrev pub behind : List Part → Ans Parsed → Ans Parsed
behind ps a = next a (λ r. parsed (ps ++ r.parts) r.stops)

-- two readers, one behind the other
abbrev pub both : Ans Parsed → (ℕ → Ans Parsed) → Ans Parsed
both a k = next a (λ r. behind r.parts (k r.stops))

-- steps in a row are bracketed either way
next_both : {A : Type 0} (a : Ans A) (f g : A → Ans Parsed) (k : ℕ → Ans Parsed) → ((x : A) → f x ≡ both (g x) k) → next a f ≡ both (next a g) k
next_both (found x) f g k h = h x
next_both (refused e) f g k h = refl

pub behind_also : (p : Part) (ps : List Part) (a : Ans Parsed) → also p (behind ps a) ≡ behind (p ∷ ps) a
behind_also p ps (found r) = refl
behind_also p ps (refused f) = refl

also_both : (p : Part) (a : Ans Parsed) (b : Ans Parsed) (k : ℕ → Ans Parsed) → b ≡ both a k → also p b ≡ both (also p a) k
also_both p (found r) b k h = rw h (behind_also p r.parts (k r.stops))
also_both p (refused f) b k h = rw h

pub behind_none : (a : Ans Parsed) → a ≡ behind [] a
behind_none (found r) = refl
behind_none (refused f) = refl

-- `l then m` is read as l, and from there on as m
pub read_then : (l m : Layout) (src : List ℕ) (at : ℕ) → read (l then m) src at ≡ both (read l src at) (λ e. read m src e)
unfolding read ◌then◌
read_then stop m src at = behind_none (read m src at)
read_then (no_arm v) m src at = refl
read_then (arm v t l) m src at = also_both (tag t) (read l src at) (read (l then m) src at) (λ e. read m src e) (read_then l m src at)
read_then (number w r k) m src at =
    next_both (field w r src at) _ _ (λ e. read m src e)
    (λ n. also_both (num n) (read (k n) src (at + w)) (read (k n then m) src (at + w)) (λ e. read m src e) (read_then (k n) m src (at + w)))
read_then (plain n l) m src at =
    next_both (piece n src at) _ _ (λ e. read m src e)
    (λ xs. also_both (span at n) (read l src (at + n)) (read (l then m) src (at + n)) (λ e. read m src e) (read_then l m src (at + n)))
read_then (buffer w b l) m src at =
    next_both (field w (length_to b) src at) _ _ (λ e. read m src e)
    (λ n. next_both (piece n src (at + w)) _ _ (λ e. read m src e)
    (λ xs. also_both (span (at + w) n) (read l src (at + w + n)) (read (l then m) src (at + w + n)) (λ e. read m src e) (read_then l m src (at + w + n))))
read_then (counted b i l) m src at =
    next_both (list b (λ s a. read i s a) src at) _ _ (λ e. read m src e)
    (λ e. also_both (span at (e - at)) (read l src e) (read (l then m) src e) (λ e. read m src e) (read_then l m src e))

-- so what a reader of l answered decides how `l then m` is read
module _ (l m : Layout) (src : List ℕ) (at : ℕ) where
  pub then_found : {ps : List Part} {e : ℕ} → parsed ps e ≡ read l src at → read (l then m) src at ≡ behind ps (read m src e)
  then_found p = rw (read_then l m src at, ← p)

  pub then_refused : {f : Refusal} → refused f ≡ read l src at → read (l then m) src at ≡ refused f
  then_refused p = rw (read_then l m src at, ← p)

-- and is spelled as l, with m behind it
pub spells_then : {l m : Layout} {ts us : List Token} {bs cs : List ℕ} → Spells l ts bs → Spells m us cs → Spells (l then m) (ts ++ us) (bs ++ cs)
unfolding ◌then◌
spells_then ends e = e
spells_then (holds d) e = holds (spells_then d e)
spells_then {cs = cs} (says {w} {k = k} {cs = bs} n h a p d) e = says n h a (ap (λ t. t ++ cs) p ∙ append_assoc (digits w n) bs cs) (spells_then d e)
spells_then {cs = cs} (shows {cs = bs} xs h b p d) e = shows xs h b (ap (λ t. t ++ cs) p ∙ append_assoc xs bs cs) (spells_then d e)
spells_then {cs = cs} (sizes {w} {cs = bs} xs h m b p d) e =
    sizes xs h m b (ap (λ t. t ++ cs) p ∙ append_assoc (digits w (length xs)) (xs ++ bs) cs ∙ ap (λ t. digits w (length xs) ++ t) (append_assoc xs bs cs)) (spells_then d e)
spells_then {cs = cs} (counts {xs = xs} {cs = bs} n h m c is p d) e = counts n h m c is (ap (λ t. t ++ cs) p ∙ append_assoc xs bs cs) (spells_then d e)

-- ---- writing

next_all : (a : Ans (List ℕ)) → next a (λ ys. found ys) ≡ a
next_all (found xs) = refl
next_all (refused f) = refl

-- what is written behind nothing is all
pub onto_none : (at : ℕ) (k : ℕ → Ans (List ℕ)) → onto at (found []) k ≡ k at
onto_none at k = ap (λ e. next (k e) (λ ys. found ys)) (add-zero at) ∙ next_all (k at)

join_behind : (xs ys : List ℕ) (c : Ans (List ℕ)) → next c (λ zs. found ((xs ++ ys) ++ zs)) ≡ next (next c (λ zs. found (ys ++ zs))) (λ zs. found (xs ++ zs))
join_behind xs ys (found zs) = ap found (append_assoc xs ys zs)
join_behind xs ys (refused f) = refl

bytes_onto : (at : ℕ) (xs : List ℕ) (b : Ans (List ℕ)) (k : ℕ → Ans (List ℕ))
    → next (onto (at + length xs) b k) (λ zs. found (xs ++ zs)) ≡ onto at (next b (λ ys. found (xs ++ ys))) k
bytes_onto at xs (found ys) k =
    sym (join_behind xs ys (k (at + length xs + length ys)))
    ∙ ap (λ e. next (k e) (λ zs. found ((xs ++ ys) ++ zs))) (add_assoc at (length xs) (length ys) ∙ ap (λ n. at + n) (sym (length-append xs ys)))
bytes_onto at xs (refused f) k = refl

-- three in a row are bracketed either way
pub onto_onto : (at : ℕ) (a : Ans (List ℕ)) (f g : ℕ → Ans (List ℕ)) → onto at (onto at a f) g ≡ onto at a (λ e. onto e (f e) g)
onto_onto at (found xs) f g = sym (bytes_onto at xs (f (at + length xs)) g)
onto_onto at (refused r) f g = refl

-- a step, and what follows it
next_onto : {A : Type 0} (at : ℕ) (a : Ans A) (f g : A → Ans (List ℕ)) (k : ℕ → Ans (List ℕ)) → ((x : A) → a ≡ found x → f x ≡ onto at (g x) k) → next a f ≡ onto at (next a g) k
next_onto at (found x) f g k h = h x refl
next_onto at (refused e) f g k h = refl

-- what a test lets through
when_onto : (at : ℕ) (t : Bool) (a c : Ans (List ℕ)) (f : Refusal) (k : ℕ → Ans (List ℕ)) → (t ≡ true → c ≡ onto at a k) → cond t c (refused f) ≡ onto at (cond t a (refused f)) k
when_onto at true a c f k h = h refl
when_onto at false a c f k h = refl

-- bytes, w of them, and what is written behind them
ahead_onto : (w at : ℕ) (a b c : Ans (List ℕ)) (k : ℕ → Ans (List ℕ)) → ((xs : List ℕ) → a ≡ found xs → (length xs ≡ w) × (c ≡ onto (at + w) b k)) → ahead a c ≡ onto at (ahead a b) k
ahead_onto w at (found xs) b c k h =
    let (size, rest) = h xs refl in
    rw (rest, ← size) (bytes_onto at xs b k)
ahead_onto w at (refused f) b c k h = refl

-- a list's own bytes are written
pub whole_same : (m : ℕ) (i : Layout) (xs : List ℕ) {ys : List ℕ} → whole m i xs ≡ found ys → ys ≡ xs
unfolding whole
whole_same m i xs p =
    let (e, listed, q) = next_found (list m (λ s a. read i s a) xs 0) _ p in
    let (t, same) = when_found (eqb e (length xs)) _ _ q in
    sym (found_same same)

-- the parts ps are laid as l, and those behind them as m
abbrev pub Joins : Layout → Layout → List Part → Type 0
Joins m l ps = (qs : List Part) (src : List ℕ) (at : ℕ) → lay (l then m) (ps ++ qs) src at ≡ onto at (lay l ps src at) (λ e. lay m qs src e)

stop_joins : (m : Layout) → Joins m stop []
unfolding lay ◌then◌
stop_joins m qs src at = sym (onto_none at (λ e. lay m qs src e))

no_arm_joins : (m : Layout) (v : ℕ) (ps : List Part) → Joins m (no_arm v) ps
unfolding lay ◌then◌
no_arm_joins m v ps qs src at = refl

arm_joins : (m : Layout) (v t : ℕ) (l : Layout) (u : ℕ) (ps : List Part) → (u ≡ t → Joins m l ps) → Joins m (arm v t l) (tag u ∷ ps)
unfolding lay ◌then◌
arm_joins m v t l u ps joins qs src at =
    when_onto at (eqb u t) (lay l ps src at) _ (mismatch at v) (λ e. lay m qs src e) (λ same. joins (eqb-true u t same) qs src at)

number_joins : (m : Layout) (w : ℕ) (r : Rule) (k : ℕ → Layout) (n : ℕ) (ps : List Part) → n < 256 ^ w → (allows r n ≡ true → Joins m (k n) ps) → Joins m (number w r k) (num n ∷ ps)
unfolding lay ◌then◌
number_joins m w r k n ps h joins qs src at =
    ahead_onto w at (spelt w r n at) (lay (k n) ps src (at + w)) _ (λ e. lay m qs src e)
    (λ xs p. let (fits, a, same) = spelt_found w r n at p in (ap length same ∙ length_digits w n, joins a qs src (at + w)))

plain_joins : (m : Layout) (n : ℕ) (l : Layout) (start : ℕ) (ps : List Part) → Joins m l ps → Joins m (plain n l) (span start n ∷ ps)
unfolding lay ◌then◌
plain_joins m n l start ps joins qs src at =
    rw (eq-eqb n n refl)
    (ahead_onto n at (cut src start n at) (lay l ps src (at + n)) _ (λ e. lay m qs src e)
    (λ xs p. ((cut_found src start n at p).0, joins qs src (at + n))))

buffer_joins : (m : Layout) (w b : ℕ) (l : Layout) (start len : ℕ) (ps : List Part) → (len ≤ b → len < 256 ^ w) → Joins m l ps → Joins m (buffer w b l) (span start len ∷ ps)
unfolding lay ◌then◌
buffer_joins m w b l start len ps h joins qs src at =
    let k : ℕ → Ans (List ℕ) = λ e. lay m qs src e in
    let rest : Ans (List ℕ) = lay l ps src (at + w + len) in
    next_onto at (cut src start len at) _ _ k
    (λ xs p. ahead_onto w at (spelt w (length_to b) len at) (ahead (found xs) rest) _ k
    (λ ds q. (
      ap length (spelt_found w (length_to b) len at q).2 ∙ length_digits w len,
      ahead_onto len (at + w) (found xs) rest _ k
          (λ ys same. (ap length (sym (found_same same)) ∙ (cut_found src start len at p).0, joins qs src (at + w + len))),
    )))

counted_joins : (m : Layout) (b : ℕ) (i l : Layout) (start len : ℕ) (ps : List Part) → Joins m l ps → Joins m (counted b i l) (span start len ∷ ps)
unfolding lay ◌then◌
counted_joins m b i l start len ps joins qs src at =
    next_onto at (cut src start len at) _ _ (λ e. lay m qs src e)
    (λ xs p. ahead_onto len at (moved at (whole b i xs)) (lay l ps src (at + len)) _ (λ e. lay m qs src e)
    (λ ys q. (ap length (whole_same b i xs (moved_found at (whole b i xs) q)) ∙ (cut_found src start len at p).0, joins qs src (at + len))))

joined : (m : Layout) → Carried (Joins m)
joined m =
    record {
      at_stop = stop_joins m;
      at_no_arm = no_arm_joins m;
      at_arm = arm_joins m;
      at_number = number_joins m;
      at_plain = plain_joins m;
      at_buffer = buffer_joins m;
      at_counted = counted_joins m;
    }

-- `l then m` is written as l, and from there on as m
pub lay_then : (l m : Layout) (ps qs : List Part) (src : List ℕ) (at : ℕ) → Shaped l ps → lay (l then m) (ps ++ qs) src at ≡ onto at (lay l ps src at) (λ e. lay m qs src e)
lay_then l m ps qs src at s = by_shape (Joins m) (joined m) l ps s qs src at

-- parts in the shape of l, and behind them parts in the shape of m, are in the shape of `l then m`
pub shaped_then : (l m : Layout) (ps qs : List Part) → Shaped l ps → Shaped m qs → Shaped (l then m) (ps ++ qs)
unfolding ◌then◌
shaped_then l m ps qs s t = by_shape (λ l ps. Shaped (l then m) (ps ++ qs)) carried l ps s
  where
    carried : Carried (λ l ps. Shaped (l then m) (ps ++ qs))
    carried =
        record {
          at_stop = t;
          at_no_arm = λ v ps. tt;
          at_arm = λ v a l u ps rest. rest;
          at_number = λ w r k n ps h rest. (h, rest);
          at_plain = λ n l start ps rest. (refl, rest);
          at_buffer = λ w b l start len ps h rest. (h, rest);
          at_counted = λ b i l start len ps rest. rest;
        }
