-- The writer refuses a record as the first field that may not be written. Assumes nothing.
use Prim.Native.Nat.{ℕ, ◌+◌, ◌-◌, ◌^◌, ◌≤◌, ◌<◌}
use native.Mathlib.Nat.{zero-add}
use native.Mathlib.Omega.{arith}
use mathlib.Core.Path.{◌≡◌, refl, sym, ap, ◌∙◌}
use mathlib.Core.Bool.{Bool, true, false}
use mathlib.Core.List.{List, [], ◌∷◌, ◌++◌}
use lib.ListN.{length, take, drop, length-append}
use lib.Dec.{leb, eqb}
use borrow.Author.Tests.{le-leb, lt-leb, lt-ltb, eq-eqb, ne_eqb, leb-true, leb-false, eqb-true, eqb-false}
use Rattle.faults.specs.declared.Refusal.{Refusal}
use Rattle.faults.specs.Faults.{bad_span, trailing}
use Rattle.wire.specs.Bytes.{Bytes, digits}
use Rattle.wire.specs.Layout.{Rule, Layout, stop, no_arm, arm, number, plain, buffer, counted, length_to, allows, breach}
use Rattle.wire.specs.Records.{Part, num, tag, span, Ans, found, refused, next, Parsed}
use Rattle.wire.specs.Reading.{list, read}
use Rattle.wire.specs.Grammar.{Token, Spells, ends, holds, says, shows, sizes, counts, placed}
use Rattle.wire.specs.Refusals.{Refuses}
use Rattle.wire.specs.Writing.{cut, spelt, whole, further, moved, lay}
use Rattle.wire.specs.Unwritten.{Spans, IsList, Shaped, Unwritten, arm_missing, arm_other, number_bad, plain_out, buffer_out, list_out, buffer_long, list_bad, list_trails, past_arm, past_number, past_plain, past_buffer, past_list}
use Rattle.wire.proofs.Digits.{length_digits}
use Rattle.wire.proofs.Stand.{stands_start, stands_back, stands_bytes}
use Rattle.wire.proofs.Steps.{found_refused, found_same, refused_same, when_found}
use Rattle.wire.proofs.Complete.{list_of, walk_complete}
use Rattle.wire.proofs.Sound.{Listed, list_sound, read_sound}
use Rattle.wire.proofs.Prefix.{starts_read}
use Rattle.wire.proofs.Refused.{refuses_read, read_refuses, when_refused}
use Rattle.wire.proofs.Written.{spelt_of, whole_of, cut_found, moved_found, spelt_found, whole_found}

-- ---- what may not be written is refused so

spelt_not : (w : ℕ) (r : Rule) (n at : ℕ) → allows r n ≡ false → spelt w r n at ≡ refused (breach r at n)
unfolding spelt
spelt_not w r n at a = rw a

cut_out : (src : List ℕ) (start len at : ℕ) → length src < start + len → cut src start len at ≡ refused (bad_span at len)
unfolding cut
cut_out src start len at h = rw (lt-leb (start + len) (length src) h)

cut_within : (src : List ℕ) (start len at : ℕ) → start + len ≤ length src → cut src start len at ≡ found (take len (drop start src))
unfolding cut
cut_within src start len at h = rw (le-leb (start + len) (length src) h)

cut_spans : {src xs : List ℕ} {start len : ℕ} (at : ℕ) → Spans src start len xs → cut src start len at ≡ found xs
cut_spans {src} {xs} {start} {len} at s = cut_within src start len at s.within ∙ ap found s.shows

-- a list, with bytes behind it perhaps, is walked over to its end
list_walked : {m : ℕ} {i : Layout} {hs : List ℕ} (zs : List ℕ) → IsList m i hs → list m (λ s a. read i s a) (hs ++ zs) 0 ≡ found (length hs)
list_walked {m} {i} {hs} zs x =
    let s = stands_start hs zs in
    let n = x.count in
    list_of m (λ s a. read i s a) n hs x.items x.fits x.most x.whole s (walk_complete x.spells (stands_back (digits 4 n) x.items (length_digits 4 n) s x.whole))
    ∙ ap found (zero-add (length hs))

whole_list : {m : ℕ} {i : Layout} {xs : List ℕ} → IsList m i xs → whole m i xs ≡ found xs
whole_list {m} {i} {xs} x = whole_of m xs x.fits x.most x.whole x.spells

-- if the second step always finds something, it is the first that refuses
first_refused : {A B : Type 0} (a : Ans A) (k : A → B) {f : Refusal} → next a (λ x. found (k x)) ≡ refused f → a ≡ refused f
first_refused (found x) k p = absurd (found_refused (sym p))
first_refused (refused g) k p = ap refused (refused_same p)

whole_bad : {m : ℕ} {i : Layout} {xs : List ℕ} {g : Refusal} → Refuses xs (counted m i stop) 0 g → whole m i xs ≡ refused g
unfolding whole read
whole_bad {m} {i} {xs} d = rw (first_refused (list m (λ s a. read i s a) xs 0) _ (refuses_read d))

whole_trails : {m : ℕ} {i : Layout} {hs : List ℕ} (zs : List ℕ) → IsList m i hs → 0 < length zs → whole m i (hs ++ zs) ≡ refused (trailing (length hs) (length zs))
unfolding whole
whole_trails {m} {i} {hs} zs x h =
    let other : eqb (length hs) (length (hs ++ zs)) ≡ false = ne_eqb (length hs) (length (hs ++ zs)) (λ e. omega (arith, length-append hs zs)) in
    let rest : length (hs ++ zs) - length hs ≡ length zs = omega (arith, length-append hs zs) in
    rw (list_walked zs x, other, rest)

-- if the first field that may not be written is named by f, the writer refuses so
pub unwritten_lay : {src : List ℕ} {l : Layout} {ps : List Part} {at : ℕ} {f : Refusal} → Unwritten src l ps at f → lay l ps src at ≡ refused f
unfolding lay
unwritten_lay (arm_missing e) = ap refused (sym e)
unwritten_lay (arm_other {t = t} {u} h e) = rw (ne_eqb u t h, e)
unwritten_lay {at = at} (number_bad {w} {n} {r = r} a e) = rw (spelt_not w r n at a, e)
unwritten_lay {src = src} {at} (plain_out {n} {start} h e) = rw (eq-eqb n n refl, cut_out src start n at h, e)
unwritten_lay {src = src} {at} (buffer_out {start = start} {len} h e) = rw (cut_out src start len at h, e)
unwritten_lay {src = src} {at} (list_out {start = start} {len} h e) = rw (cut_out src start len at h, e)
unwritten_lay {src = src} {at} (buffer_long {w} {m} {start} {len} i h e) =
    rw (cut_within src start len at i, spelt_not w (length_to m) len at (lt-leb len m h), e)
unwritten_lay {at = at} (list_bad s d e) = rw (cut_spans at s, whole_bad d, e)
unwritten_lay {at = at} (list_trails zs s x j h e) = rw (cut_spans at s, j, whole_trails zs x h, e)
unwritten_lay (past_arm {t = t} d) = rw (eq-eqb t t refl) (unwritten_lay d)
unwritten_lay {at = at} (past_number {w} {n} {r = r} h a d) = rw (spelt_of w r n at h a, unwritten_lay d)
unwritten_lay {src = src} {at} (past_plain {n} {start} i d) = rw (eq-eqb n n refl, cut_within src start n at i, unwritten_lay d)
unwritten_lay {src = src} {at} (past_buffer {w} {m} {start} {len} i le h d) =
    rw (cut_within src start len at i, spelt_of w (length_to m) len at h (le-leb len m le), unwritten_lay d)
unwritten_lay {at = at} (past_list s x d) = rw (cut_spans at s, whole_list x, unwritten_lay d)

-- so a record is refused in one way
pub unwritten_once : {l : Layout} {ps : List Part} {src : List ℕ} {at : ℕ} {f g : Refusal} → Unwritten src l ps at f → Unwritten src l ps at g → f ≡ g
unwritten_once d e = refused_same (sym (unwritten_lay d) ∙ unwritten_lay e)

-- ---- shapes

-- P holds where nothing more is due, and each field in its shape carries it on, from what follows to the field and what follows
pub record Carried (P : Layout → List Part → Type 0) : Type 0 where
  pub at_stop : P stop []
  pub at_no_arm : (v : ℕ) (ps : List Part) → P (no_arm v) ps
  pub at_arm : (v t : ℕ) (l : Layout) (u : ℕ) (ps : List Part) → (u ≡ t → P l ps) → P (arm v t l) (tag u ∷ ps)
  pub at_number : (w : ℕ) (r : Rule) (k : ℕ → Layout) (n : ℕ) (ps : List Part) → n < 256 ^ w → (allows r n ≡ true → P (k n) ps) → P (number w r k) (num n ∷ ps)
  pub at_plain : (n : ℕ) (l : Layout) (start : ℕ) (ps : List Part) → P l ps → P (plain n l) (span start n ∷ ps)
  pub at_buffer : (w m : ℕ) (l : Layout) (start len : ℕ) (ps : List Part) → (len ≤ m → len < 256 ^ w) → P l ps → P (buffer w m l) (span start len ∷ ps)
  pub at_counted : (m : ℕ) (i l : Layout) (start len : ℕ) (ps : List Part) → P l ps → P (counted m i l) (span start len ∷ ps)

-- so it holds of all parts in the shape of a layout
pub by_shape : (P : Layout → List Part → Type 0) → Carried P → (l : Layout) (ps : List Part) → Shaped l ps → P l ps
by_shape P c stop [] s = c.at_stop
by_shape P c stop (p ∷ ps) s = absurd s
by_shape P c (no_arm v) ps s = c.at_no_arm v ps
by_shape P c (arm v t l) [] s = absurd s
by_shape P c (arm v t l) (num n ∷ ps) s = absurd s
by_shape P c (arm v t l) (tag u ∷ ps) s = c.at_arm v t l u ps (λ e. by_shape P c l ps (s e))
by_shape P c (arm v t l) (span start len ∷ ps) s = absurd s
by_shape P c (number w r k) [] s = absurd s
by_shape P c (number w r k) (num n ∷ ps) s = c.at_number w r k n ps s.0 (λ a. by_shape P c (k n) ps (s.1 a))
by_shape P c (number w r k) (tag u ∷ ps) s = absurd s
by_shape P c (number w r k) (span start len ∷ ps) s = absurd s
by_shape P c (plain n l) [] s = absurd s
by_shape P c (plain n l) (num m ∷ ps) s = absurd s
by_shape P c (plain n l) (tag u ∷ ps) s = absurd s
by_shape P c (plain n l) (span start len ∷ ps) s = rw s.0 (c.at_plain n l start ps (by_shape P c l ps s.1))
by_shape P c (buffer w m l) [] s = absurd s
by_shape P c (buffer w m l) (num n ∷ ps) s = absurd s
by_shape P c (buffer w m l) (tag u ∷ ps) s = absurd s
by_shape P c (buffer w m l) (span start len ∷ ps) s = c.at_buffer w m l start len ps s.0 (by_shape P c l ps s.1)
by_shape P c (counted m i l) [] s = absurd s
by_shape P c (counted m i l) (num n ∷ ps) s = absurd s
by_shape P c (counted m i l) (tag u ∷ ps) s = absurd s
by_shape P c (counted m i l) (span start len ∷ ps) s = c.at_counted m i l start len ps (by_shape P c l ps s)

-- the parts of what is spelled are in the shape of its layout
pub placed_shaped : {l : Layout} {ts : List Token} {bs : List ℕ} (d : Spells l ts bs) (at : ℕ) → Shaped l (placed d at)
placed_shaped ends at = tt
placed_shaped (holds d) at = λ e. placed_shaped d at
placed_shaped (says {w} n h a e d) at = (h, λ a. placed_shaped d (at + w))
placed_shaped (shows {n} xs h b e d) at = (refl, placed_shaped d (at + n))
placed_shaped (sizes {w} xs h m b e d) at = (λ le. h, placed_shaped d (at + w + length xs))
placed_shaped (counts {xs = xs} n h m c is e d) at = placed_shaped d (at + length xs)

-- and so are those of a record that was read
pub shaped_of_read : (l : Layout) (src : List ℕ) (at : ℕ) (r : Parsed) → Bytes src → read l src at ≡ found r → Shaped l r.parts
shaped_of_read l src at r b p =
    let d = read_sound l src at r b p in
    let parts : r.parts ≡ placed d.spells at = ap (λ q. q.parts) (found_same (sym p ∙ starts_read d)) in
    rw parts (placed_shaped d.spells at)

-- ---- what is refused of a record in shape may not be written

spelt_refused : (w : ℕ) (r : Rule) (n at : ℕ) {f : Refusal} → (allows r n ≡ true → n < 256 ^ w) → spelt w r n at ≡ refused f → (allows r n ≡ false) × (f ≡ breach r at n)
unfolding spelt
spelt_refused w r n at {f} h p = go (allows r n) refl
  where
    go : (b : Bool) → allows r n ≡ b → (allows r n ≡ false) × (f ≡ breach r at n)
    go true a = absurd (found_refused (sym (rw (a, lt-ltb n (256 ^ w) (h a)) at p)))
    go false a = (a, sym (refused_same (rw a at p)))

cut_refused : (src : List ℕ) (start len at : ℕ) {f : Refusal} → cut src start len at ≡ refused f → (length src < start + len) × (f ≡ bad_span at len)
unfolding cut
cut_refused src start len at p =
    let (t, e) = when_refused (leb (start + len) (length src)) _ _ p in
    (leb-false (start + len) (length src) t, e)

cut_is : (src : List ℕ) (start len at : ℕ) {xs : List ℕ} → cut src start len at ≡ found xs → Spans src start len xs
unfolding cut
cut_is src start len at p =
    let (t, e) = when_found (leb (start + len) (length src)) _ _ p in
    record { within = leb-true (start + len) (length src) t; shows = found_same e }

-- the first step refuses, or it finds something and the second refuses
first_or_second : {A B C : Type 0} (a : Ans A) (k : A → Ans B) {f : Refusal} → next a k ≡ refused f → (a ≡ refused f → C) → ((x : A) → a ≡ found x → k x ≡ refused f → C) → C
first_or_second (found x) k p first second = second x refl p
first_or_second (refused g) k p first second = first (ap refused (refused_same p))

moved_refused : {A : Type 0} (at : ℕ) (a : Ans A) {f : Refusal} → moved at a ≡ refused f → (g : Refusal) × (a ≡ refused g) × (f ≡ further at g)
moved_refused at (found x) p = absurd (found_refused (sym p))
moved_refused at (refused g) p = (g, refl, sym (refused_same p))

-- of parts in the shape of l, whatever the writer refuses may not be written
abbrev pub Explained : Layout → List Part → Type 0
Explained l ps = (src : List ℕ) (at : ℕ) (f : Refusal) → Bytes src → lay l ps src at ≡ refused f → Unwritten src l ps at f

stop_explained : Explained stop []
unfolding lay
stop_explained src at f b p = absurd (found_refused (sym p))

no_arm_explained : (v : ℕ) (ps : List Part) → Explained (no_arm v) ps
unfolding lay
no_arm_explained v ps src at f b p = arm_missing (sym (refused_same p))

arm_explained : (v t : ℕ) (l : Layout) (u : ℕ) (ps : List Part) → (u ≡ t → Explained l ps) → Explained (arm v t l) (tag u ∷ ps)
unfolding lay
arm_explained v t l u ps told src at f b p = go (eqb u t) refl
  where
    go : (same : Bool) → eqb u t ≡ same → Unwritten src (arm v t l) (tag u ∷ ps) at f
    go true e = let same = eqb-true u t e in rw same (past_arm (told same src at f b (rw e at p)))
    go false e = arm_other (eqb-false u t e) (sym (refused_same (rw e at p)))

number_explained : (w : ℕ) (r : Rule) (k : ℕ → Layout) (n : ℕ) (ps : List Part) → n < 256 ^ w → (allows r n ≡ true → Explained (k n) ps) → Explained (number w r k) (num n ∷ ps)
unfolding lay
number_explained w r k n ps h told src at f b p =
    first_or_second (spelt w r n at) _ p
    (λ e. let (a, same) = spelt_refused w r n at (λ a. h) e in number_bad a same)
    (λ ds e q. let a = (spelt_found w r n at e).1 in past_number h a (told a src (at + w) f b (first_refused _ _ q)))

plain_explained : (n : ℕ) (l : Layout) (start : ℕ) (ps : List Part) → Explained l ps → Explained (plain n l) (span start n ∷ ps)
unfolding lay
plain_explained n l start ps told src at f b p =
    first_or_second (cut src start n at) _ (rw (eq-eqb n n refl) at p)
    (λ e. let (h, same) = cut_refused src start n at e in plain_out h same)
    (λ xs e q. past_plain (cut_is src start n at e).within (told src (at + n) f b (first_refused _ _ q)))

buffer_explained : (w m : ℕ) (l : Layout) (start len : ℕ) (ps : List Part) → (len ≤ m → len < 256 ^ w) → Explained l ps → Explained (buffer w m l) (span start len ∷ ps)
unfolding lay
buffer_explained w m l start len ps h told src at f b p =
    first_or_second (cut src start len at) _ p
    (λ e. let (out, same) = cut_refused src start len at e in buffer_out out same)
    (λ xs e q. let i = (cut_is src start len at e).within in
    first_or_second (spelt w (length_to m) len at) _ q
    (λ e. let (a, same) = spelt_refused w (length_to m) len at (λ a. h (leb-true len m a)) e in buffer_long i (leb-false len m a) same)
    (λ ds e q. let (fits, a, same) = spelt_found w (length_to m) len at e in past_buffer i (leb-true len m a) fits (told src (at + w + len) f b (first_refused _ _ (first_refused _ _ q)))))

-- a list that ends before its bytes do
list_left : {src xs : List ℕ} {m start len at e : ℕ} {i l : Layout} {ps : List Part} {f : Refusal} → Spans src start len xs → Listed m i xs 0 e → (e ≡ length xs → ⊥)
    → f ≡ trailing (at + e) (length xs - e) → Unwritten src (counted m i l) (span start len ∷ ps) at f
list_left {xs = xs} {at = at} {e} {f = f} s x o same =
    let hs : List ℕ = digits 4 x.count ++ x.items in
    let zs : List ℕ = x.stands.rest in
    let ended : e ≡ length hs = omega (arith, x.ends) in
    let left : length xs - e ≡ length zs = omega (arith, ap length x.stands.begins, length-append hs zs) in
    let some : 0 < length zs = omega (arith, ap length x.stands.begins, length-append hs zs) in
    let trails : f ≡ trailing (at + length hs) (length zs) = rw (left, ended) at same in
    list_trails zs s (record { count = x.count; fits = x.fits; most = x.most; items = x.items; whole = refl; spells = x.spells }) x.stands.begins some trails

list_explained : {src xs : List ℕ} {m start len at : ℕ} {i l : Layout} {ps : List Part} {f g : Refusal} → Spans src start len xs → Bytes xs → whole m i xs ≡ refused g → f ≡ further at g
    → Unwritten src (counted m i l) (span start len ∷ ps) at f
unfolding whole read
list_explained {xs = xs} {m} {at = at} {i} {g = g} s b p same =
    first_or_second (list m (λ s a. read i s a) xs 0) _ p
    (λ e. list_bad s (read_refuses (counted m i stop) xs 0 g b (rw e)) same)
    (λ e walked q. let (o, trails) = when_refused (eqb e (length xs)) _ _ q in
    list_left s (list_sound m i (read_sound i) xs 0 b walked) (eqb-false e (length xs) o) (same ∙ ap (λ g. further at g) trails))

whole_is : (m : ℕ) (i : Layout) (xs : List ℕ) {ys : List ℕ} → Bytes xs → whole m i xs ≡ found ys → IsList m i xs
whole_is m i xs b p =
    let (n, zs, h, le, split, items, same) = whole_found m i xs b p in
    record { count = n; fits = h; most = le; items = zs; whole = split; spells = items }

counted_explained : (m : ℕ) (i l : Layout) (start len : ℕ) (ps : List Part) → Explained l ps → Explained (counted m i l) (span start len ∷ ps)
unfolding lay
counted_explained m i l start len ps told src at f b p =
    first_or_second (cut src start len at) _ p
    (λ e. let (out, same) = cut_refused src start len at e in list_out out same)
    (λ xs e q. let s = cut_is src start len at e in
    let c = stands_bytes b (cut_found src start len at e).1 in
    first_or_second (moved at (whole m i xs)) _ q
    (λ e. let (g, bad, same) = moved_refused at (whole m i xs) e in list_explained s c bad same)
    (λ ys e q. past_list s (whole_is m i xs c (moved_found at (whole m i xs) e)) (told src (at + len) f b (first_refused _ _ q))))

explained : Carried Explained
explained =
    record {
      at_stop = stop_explained;
      at_no_arm = no_arm_explained;
      at_arm = arm_explained;
      at_number = number_explained;
      at_plain = plain_explained;
      at_buffer = buffer_explained;
      at_counted = counted_explained;
    }

-- every refusal of a record in shape is one of those
pub lay_unwritten : (l : Layout) (ps : List Part) (src : List ℕ) (at : ℕ) (f : Refusal) → Bytes src → Shaped l ps → lay l ps src at ≡ refused f → Unwritten src l ps at f
lay_unwritten l ps src at f b s p = by_shape Explained explained l ps s src at f b p
