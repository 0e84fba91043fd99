-- The reader refuses as the first field that is not as the layout has it. Assumes nothing.
use Prim.Native.Nat.{ℕ, zero, suc, ◌+◌, ◌-◌, ◌<◌}
use native.Mathlib.Omega.{arith}
use mathlib.Core.Path.{◌≡◌, refl, sym, ap, ◌∙◌}
use mathlib.Core.Logic.{◌⊎◌, inl, inr}
use mathlib.Core.Bool.{Bool, true, false, cond}
use mathlib.Core.List.{List}
use lib.ListN.{length, length-append}
use lib.Dec.{leb}
use borrow.Author.Tests.{le-leb, lt-leb, leb-false}
use Rattle.faults.specs.declared.Refusal.{Refusal}
use Rattle.faults.specs.Faults.{short}
use Rattle.wire.specs.Bytes.{Bytes, be, digits}
use Rattle.wire.specs.Layout.{Rule, Layout, stop, no_arm, arm, number, plain, buffer, counted, length_to, count_to, allows, breach}
use Rattle.wire.specs.Records.{Part, num, tag, span, Ans, found, refused, next, Parsed, left}
use Rattle.wire.specs.Reading.{also, piece, field, walk, list, read}
use Rattle.wire.specs.Grammar.{Stands, Starts}
use Rattle.wire.specs.Refusals.{Field, NoNumber, ends_early, not_allowed, Refuses, RefusesItems, no_arm_due, no_number, no_bytes, no_length, no_body, no_count, in_list, past_arm, past_number, past_bytes, past_buffer, past_list, in_item, past_item}
use Rattle.wire.proofs.Digits.{length_digits, be_lt, digits_be}
use Rattle.wire.proofs.Stand.{stands_bytes, stands_front, stands_back}
use Rattle.wire.proofs.Steps.{found_refused, refused_same, piece_of, piece_found, field_of, field_not, field_found}
use Rattle.wire.proofs.Complete.{read_complete, walk_complete}
use Rattle.wire.proofs.Sound.{Listed, read_sound, list_sound}

-- ---- what is to be refused is refused so

pub piece_short : (n : ℕ) (src : List ℕ) (at : ℕ) → left src at < n → piece n src at ≡ refused (short at n (left src at))
unfolding piece
piece_short n src at h = rw (lt-leb n (left src at) h)

pub field_there : {src : List ℕ} {w at n : ℕ} {r : Rule} → Field src w r at n → field w r src at ≡ found n
field_there {w = w} {n = n} {r = r} x = field_of w r n x.fits x.allowed x.stands

field_short : (w : ℕ) (r : Rule) (src : List ℕ) (at : ℕ) → left src at < w → field w r src at ≡ refused (short at w (left src at))
unfolding field
field_short w r src at h = rw (piece_short w src at h)

pub field_refuses : {src : List ℕ} {w at : ℕ} {r : Rule} {f : Refusal} → NoNumber src w r at f → field w r src at ≡ refused f
field_refuses {src} {w} {at} {r} (ends_early h e) = field_short w r src at h ∙ ap refused (sym e)
field_refuses {src} {w} {at} {r} (not_allowed n h a s e) = field_not w r n h a s ∙ ap refused (sym e)

mutual
  unfolding read list

  -- the reader refuses as the first field that is not as the layout has it
  pub refuses_read : {l : Layout} {at : ℕ} {src : List ℕ} {f : Refusal} → Refuses src l at f → read l src at ≡ refused f
  refuses_read (no_arm_due e) = ap refused (sym e)
  refuses_read (no_number x) = rw (field_refuses x)
  refuses_read {at = at} {src} (no_bytes {n} h e) = rw (piece_short n src at h, e)
  refuses_read (no_length x) = rw (field_refuses x)
  refuses_read {at = at} {src} (no_body {w} n x h e) = rw (field_there x, piece_short n src (at + w) h, e)
  refuses_read (no_count x) = rw (field_refuses x)
  refuses_read (in_list n x d) = rw (field_there x, refuses_walk d)
  refuses_read (past_arm d) = rw (refuses_read d)
  refuses_read (past_number n x d) = rw (field_there x, refuses_read d)
  refuses_read (past_bytes {n} xs h s d) = rw (piece_of n xs h s, refuses_read d)
  refuses_read (past_buffer xs x t d) = rw (field_there x, piece_of (length xs) xs refl t, refuses_read d)
  refuses_read (past_list n x t is d) = rw (field_there x, walk_complete is t, refuses_read d)

  refuses_walk : {i : Layout} {n at : ℕ} {src : List ℕ} {f : Refusal} → RefusesItems src i n at f → walk (λ s a. read i s a) n src at ≡ refused f
  refuses_walk (in_item d) = rw (refuses_read d)
  refuses_walk (past_item s d ds) = rw (read_complete d s, refuses_walk ds)

-- ---- what is refused is to be refused so

pub next_refused : {A B : Type 0} (a : Ans A) (k : A → Ans B) {f : Refusal} → next a k ≡ refused f → (a ≡ refused f) ⊎ ((x : A) × (a ≡ found x) × (k x ≡ refused f))
next_refused (found x) k p = inr (x, refl, p)
next_refused (refused g) k p = inl (ap refused (refused_same p))

pub also_refused : (p : Part) (a : Ans Parsed) {f : Refusal} → also p a ≡ refused f → a ≡ refused f
also_refused p (found r) e = absurd (found_refused (sym e))
also_refused p (refused g) e = e

pub when_refused : {A : Type 0} (b : Bool) (x : A) (g : Refusal) {f : Refusal} → cond b (found x) (refused g) ≡ refused f → (b ≡ false) × (f ≡ g)
when_refused true x g p = absurd (found_refused (sym p))
when_refused false x g p = (refl, sym (refused_same p))

pub piece_refused : (n : ℕ) (src : List ℕ) (at : ℕ) {f : Refusal} → piece n src at ≡ refused f → (left src at < n) × (f ≡ short at n (left src at))
unfolding piece
piece_refused n src at p =
    let (t, e) = when_refused (leb n (left src at)) _ _ p in
    (leb-false n (left src at) t, e)

field_refused : (w : ℕ) (r : Rule) (src : List ℕ) (at : ℕ) {f : Refusal} → Bytes src → field w r src at ≡ refused f → NoNumber src w r at f
unfolding field
field_refused w r src at {f} b p = go (next_refused (piece w src at) _ p)
  where
    go : (piece w src at ≡ refused f) ⊎ ((xs : List ℕ) × (piece w src at ≡ found xs) × (cond (allows r (be xs)) (found (be xs)) (refused (breach r at (be xs))) ≡ refused f)) → NoNumber src w r at f
    go (inl e) = let (h, same) = piece_refused w src at e in ends_early h same
    go (inr t) =
        let xs = t.0 in
        let (size, s) = piece_found w src at t.1 in
        let (a, same) = when_refused (allows r (be xs)) _ _ t.2 in
        let byte = stands_bytes b s in
        not_allowed (be xs) (be_lt w xs byte size) a (rw (digits_be w xs byte size) s) same

field_is : (w : ℕ) (r : Rule) (src : List ℕ) (at n : ℕ) → Bytes src → field w r src at ≡ found n → Field src w r at n
field_is w r src at n b p = let (h, a, s) = field_found w r src at b p in record { fits = h; allowed = a; stands = s }

-- of the layout l, whatever is refused is to be refused so
abbrev pub Told : Layout → Type 0
Told l = (src : List ℕ) (at : ℕ) (f : Refusal) → Bytes src → read l src at ≡ refused f → Refuses src l at f

number_told : (w : ℕ) (r : Rule) (k : ℕ → Layout) → ((n : ℕ) → Told (k n)) → Told (number w r k)
unfolding read
number_told w r k told src at f b p = go (next_refused (field w r src at) _ p)
  where
    go : (field w r src at ≡ refused f) ⊎ ((n : ℕ) × (field w r src at ≡ found n) × (also (num n) (read (k n) src (at + w)) ≡ refused f)) → Refuses src (number w r k) at f
    go (inl e) = no_number (field_refused w r src at b e)
    go (inr t) =
        let x = field_is w r src at t.0 b t.1 in
        past_number t.0 x (told t.0 src (at + w) f b (also_refused (num t.0) _ t.2))

plain_told : (n : ℕ) (l : Layout) → Told l → Told (plain n l)
unfolding read
plain_told n l told src at f b p = go (next_refused (piece n src at) _ p)
  where
    go : (piece n src at ≡ refused f) ⊎ ((xs : List ℕ) × (piece n src at ≡ found xs) × (also (span at n) (read l src (at + n)) ≡ refused f)) → Refuses src (plain n l) at f
    go (inl e) = let (h, same) = piece_refused n src at e in no_bytes h same
    go (inr t) =
        let (size, s) = piece_found n src at t.1 in
        past_bytes t.0 size s (told src (at + n) f b (also_refused (span at n) _ t.2))

past_body : {src xs : List ℕ} {w m at n : ℕ} {l : Layout} {f : Refusal} → length xs ≡ n → Field src w (length_to m) at n → Stands src (at + w) xs → Refuses src l (at + w + n) f
    → Refuses src (buffer w m l) at f
past_body {src} {xs} {w} {m} {at} {n} {l} {f} size x s d =
    let y : Field src w (length_to m) at (length xs) = rw size x in
    let e : Refuses src l (at + w + length xs) f = rw size d in
    past_buffer xs y s e

buffer_told : (w m : ℕ) (l : Layout) → Told l → Told (buffer w m l)
unfolding read
buffer_told w m l told src at f b p = go (next_refused (field w (length_to m) src at) _ p)
  where
    body : (n : ℕ) → Field src w (length_to m) at n → (piece n src (at + w) ≡ refused f) ⊎ ((xs : List ℕ) × (piece n src (at + w) ≡ found xs) × (also (span (at + w) n) (read l src (at + w + n)) ≡ refused f)) → Refuses src (buffer w m l) at f
    body n x (inl e) = let (h, same) = piece_refused n src (at + w) e in no_body n x h same
    body n x (inr t) =
        let (size, s) = piece_found n src (at + w) t.1 in
        past_body size x s (told src (at + w + n) f b (also_refused (span (at + w) n) _ t.2))

    go : (field w (length_to m) src at ≡ refused f)
        ⊎ ((n : ℕ) × (field w (length_to m) src at ≡ found n) × (next (piece n src (at + w)) (λ xs. also (span (at + w) n) (read l src (at + w + n))) ≡ refused f)) → Refuses src (buffer w m l) at f
    go (inl e) = no_length (field_refused w (length_to m) src at b e)
    go (inr t) = body t.0 (field_is w (length_to m) src at t.0 b t.1) (next_refused (piece t.0 src (at + w)) _ t.2)

past_one : {src : List ℕ} {n at e : ℕ} {i : Layout} {f : Refusal} → Starts i src at e → RefusesItems src i n e f → RefusesItems src i (suc n) at f
past_one {src} {n} {at} {e} {i} {f} d ds =
    let rest : RefusesItems src i n (at + length d.front) f = rw d.ends at ds in
    past_item d.stands d.spells rest

walk_told : (i : Layout) → Told i → (n : ℕ) (src : List ℕ) (at : ℕ) (f : Refusal) → Bytes src → walk (λ s a. read i s a) n src at ≡ refused f → RefusesItems src i n at f
walk_told i told zero src at f b p = absurd (found_refused (sym p))
walk_told i told (suc n) src at f b p = go (λ a. walk_told i told n src a f b) (next_refused (read i src at) _ p)
  where
    go : ((a : ℕ) → walk (λ s a. read i s a) n src a ≡ refused f → RefusesItems src i n a f)
        → (read i src at ≡ refused f) ⊎ ((r : Parsed) × (read i src at ≡ found r) × (walk (λ s a. read i s a) n src r.stops ≡ refused f)) → RefusesItems src i (suc n) at f
    go rest (inl e) = in_item (told src at f b e)
    go rest (inr t) =
        let d = read_sound i src at t.0 b t.1 in
        past_one d (rest t.0.stops t.2)

list_told : (m : ℕ) (i l : Layout) → Told i → (src : List ℕ) (at : ℕ) (f : Refusal) → Bytes src → list m (λ s a. read i s a) src at ≡ refused f → Refuses src (counted m i l) at f
unfolding list
list_told m i l told src at f b p = go (next_refused (field 4 (count_to m) src at) _ p)
  where
    go : (field 4 (count_to m) src at ≡ refused f)
        ⊎ ((n : ℕ) × (field 4 (count_to m) src at ≡ found n) × (walk (λ s a. read i s a) n src (at + 4) ≡ refused f)) → Refuses src (counted m i l) at f
    go (inl e) = no_count (field_refused 4 (count_to m) src at b e)
    go (inr t) =
        let x = field_is 4 (count_to m) src at t.0 b t.1 in
        in_list t.0 x (walk_told i told t.0 src (at + 4) f b t.2)

past_items : {src : List ℕ} {m at e : ℕ} {i l : Layout} {f : Refusal} → Listed m i src at e → Refuses src l e f → Refuses src (counted m i l) at f
past_items {src} {m} {at} {e} {i} {l} {f} x d =
    let ds : List ℕ = digits 4 x.count in
    let ends : e ≡ at + 4 + length x.items = omega (arith, x.ends, length-append ds x.items, length_digits 4 x.count) in
    let rest : Refuses src l (at + 4 + length x.items) f = rw ends at d in
    past_list x.count (record { fits = x.fits; allowed = le-leb x.count m x.most; stands = stands_front ds x.items x.stands refl })
    (stands_back ds x.items (length_digits 4 x.count) x.stands refl) x.spells rest

counted_told : (m : ℕ) (i l : Layout) → Told i → Told l → Told (counted m i l)
unfolding read
counted_told m i l item told src at f b p = go (next_refused (list m (λ s a. read i s a) src at) _ p)
  where
    go : (list m (λ s a. read i s a) src at ≡ refused f) ⊎ ((e : ℕ) × (list m (λ s a. read i s a) src at ≡ found e) × (also (span at (e - at)) (read l src e) ≡ refused f)) → Refuses src (counted m i l) at f
    go (inl e) = list_told m i l item src at f b e
    go (inr t) =
        let x = list_sound m i (read_sound i) src at b t.1 in
        past_items x (told src t.0 f b (also_refused (span at (t.0 - at)) _ t.2))

-- by induction on the layout: whatever is refused is to be refused so
pub read_refuses : (l : Layout) → Told l
unfolding read
read_refuses stop = λ src at f b p. absurd (found_refused (sym p))
read_refuses (no_arm v) = λ src at f b p. no_arm_due (sym (refused_same p))
read_refuses (arm v t l) = λ src at f b p. past_arm (read_refuses l src at f b (also_refused (tag t) (read l src at) p))
read_refuses (number w r k) = number_told w r k (λ n. read_refuses (k n))
read_refuses (plain n l) = plain_told n l (read_refuses l)
read_refuses (buffer w m l) = buffer_told w m l (read_refuses l)
read_refuses (counted m i l) = counted_told m i l (read_refuses i) (read_refuses l)
