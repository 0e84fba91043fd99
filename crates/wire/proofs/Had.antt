-- What a refusal had: a reader that comes to the end of its input says how many bytes it still had there, and any other refusal had none.
-- A writer comes to such an end in a list alone. And neither refuses a record for want of room: that is said of a buffer. Assumes nothing.
use Prim.Native.Nat.{ℕ, zero, suc, ◌+◌, ◌-◌, ◌^◌}
use native.Mathlib.Omega.{arith}
use mathlib.Core.Path.{◌≡◌, refl, sym, ap}
use mathlib.Core.Bool.{Bool, true, false, ◌&&◌, cond}
use mathlib.Core.List.{List, [], ◌∷◌, ◌++◌}
use lib.ListN.{length, take}
use lib.Dec.{leb, ltb, eqb}
use borrow.Author.Tests.{eqb-false}
use Rattle.faults.specs.declared.Fault.{Fault}
use Rattle.faults.specs.declared.Fault.TheVariants.{Short, NoRoom}
use Rattle.faults.specs.declared.Refusal.{Refusal}
use Rattle.faults.specs.Faults.{paper, short}
use Rattle.wire.specs.Bytes.{be}
use Rattle.wire.specs.Layout.{Rule, free, listed, fixed, length_to, count_to, allows, breach, Layout, stop, no_arm, arm, number, plain, buffer, counted}
use Rattle.wire.specs.Records.{Part, num, tag, span, Ans, found, refused, next, Parsed, left}
use Rattle.wire.specs.Reading.{also, Reader, piece, field, walk, list, read, nothing_behind, read_whole}
use Rattle.wire.specs.Refusals.{HadFew, Had}
use Rattle.wire.specs.Parts.{on_end, on_number, on_arm, on_span}
use Rattle.wire.specs.Writing.{odd, cut, spelt, whole, moved, ahead, lay}
use Rattle.wire.specs.Fields.{pick_field}
use Rattle.wire.specs.Items.{pick_item, item_of}
use Rattle.wire.proofs.Steps.{found_refused, refused_same}
use Rattle.wire.proofs.Refused.{also_refused, piece_refused}

-- ---- one refusal

-- it is not Short, and had no bytes
pub record Other (f : Refusal) : Type 0 where
  pub apart : f.fault ≡ Short → ⊥
  pub none : f.had ≡ 0

-- its number is n more than 2, and Short's is 1
pub other : {f : Refusal} (n : ℕ) → (paper f.fault).number ≡ suc (suc n) → f.had ≡ 0 → Other f
other {f} n far none = record { apart = λ p. let one = ap (λ t. (paper t).number) p in omega arith; none = none }

pub other_few : {f : Refusal} → Other f → HadFew f
other_few o = record { too_few = λ p. absurd (o.apart p); none = λ p. o.none }

pub other_had : {src : List ℕ} {f : Refusal} → Other f → Had src f
other_had o = record { all_left = λ p. absurd (o.apart p); few = other_few o }

-- it is not NoRoom, and P holds of it
record Said (P : Refusal → Type 0) (f : Refusal) : Type 0 where
  that : P f
  roomless : f.fault ≡ NoRoom → ⊥

-- what a reader of src says, and what a writer says
abbrev Read : List ℕ → Refusal → Type 0
Read src = Said (Had src)

abbrev Laid : Refusal → Type 0
Laid = Said HadFew

-- its number is n more than 2, and NoRoom's is 9
roomless_by : (t : Fault) (n : ℕ) → (paper t).number ≡ suc (suc n) → eqb n 7 ≡ false → t ≡ NoRoom → ⊥
roomless_by t n far apart p =
    let nine = ap (λ x. (paper x).number) p in
    eqb-false n 7 apart (omega arith)

said : {P : Refusal → Type 0} {f : Refusal} → (Other f → P f) → (n : ℕ) → (paper f.fault).number ≡ suc (suc n) → eqb n 7 ≡ false → f.had ≡ 0 → Said P f
said {f = f} h n far apart none = record { that = h (other n far none); roomless = roomless_by f.fault n far apart }

breach_said : {P : Refusal → Type 0} → ((f : Refusal) → Other f → P f) → (r : Rule) (at n : ℕ) → Said P (breach r at n)
breach_said h free at n = said (h _) 4 refl refl refl
breach_said h (listed q) at n = said (h _) 0 refl refl refl
breach_said h (fixed q) at n = said (h _) 4 refl refl refl
breach_said h (length_to m) at n = said (h _) 2 refl refl refl
breach_said h (count_to m) at n = said (h _) 3 refl refl refl

-- ---- answers whose refusals are all of a sort

-- Tells P a: if the answer a is a refusal, it is one that P holds of
abbrev pub Tells : {A : Type 0} → (Refusal → Type 0) → Ans A → Type 0
Tells P a = (f : Refusal) → a ≡ refused f → P f

module _ (P : Refusal → Type 0) where
  found_tells : {A : Type 0} (x : A) → Tells P (found x)
  found_tells x f p = absurd (found_refused (sym p))

  pub refused_tells : {A : Type 0} (g : Refusal) → P g → Tells {A = A} P (refused g)
  refused_tells g h f p = rw (sym (refused_same p)) h

  pub either_tells : {A : Type 0} (b : Bool) (a c : Ans A) → Tells P a → Tells P c → Tells P (cond b a c)
  either_tells true a c h g = h
  either_tells false a c h g = g

  when_tells : {A : Type 0} (b : Bool) (x : A) (g : Refusal) → P g → Tells P (cond b (found x) (refused g))
  when_tells b x g h = either_tells b (found x) (refused g) (found_tells x) (refused_tells g h)

  next_tells : {A B : Type 0} (a : Ans A) (k : A → Ans B) → Tells P a → ((x : A) → Tells P (k x)) → Tells P (next a k)
  next_tells (found x) k h hs f p = hs x f p
  next_tells (refused g) k h hs f p = h f (ap refused (refused_same p))

-- ---- readers

module _ (src : List ℕ) where
  also_tells : (p : Part) (a : Ans Parsed) → Tells (Read src) a → Tells (Read src) (also p a)
  also_tells p a h f e = h f (also_refused p a e)

  piece_tells : (n at : ℕ) → Tells (Read src) (piece n src at)
  piece_tells n at f p =
      let (few, same) = piece_refused n src at p in
      let had : Had src (short at n (left src at)) = record { all_left = λ p. refl; few = record { too_few = λ p. few; none = λ apart. absurd (apart refl) } } in
      let is : Read src (short at n (left src at)) = record { that = had; roomless = λ p. let nine = ap (λ t. (paper t).number) p in omega arith } in
      rw same is

  field_tells : (w : ℕ) (r : Rule) (at : ℕ) → Tells (Read src) (field w r src at)
  unfolding field
  field_tells w r at = next_tells (Read src) (piece w src at) _ (piece_tells w at) (λ xs. when_tells (Read src) (allows r (be xs)) _ _ (breach_said (λ f. other_had) r at (be xs)))

  module _ (item : Reader Parsed) (h : (at : ℕ) → Tells (Read src) (item src at)) where
    walk_tells : (n at : ℕ) → Tells (Read src) (walk item n src at)
    walk_tells zero at = found_tells (Read src) at
    walk_tells (suc n) at = next_tells (Read src) (item src at) _ (h at) (λ r. walk_tells n r.stops)

    list_tells : (m at : ℕ) → Tells (Read src) (list m item src at)
    unfolding list
    list_tells m at = next_tells (Read src) (field 4 (count_to m) src at) _ (field_tells 4 (count_to m) at) (λ n. walk_tells n (at + 4))

-- a reader of any layout, by induction on it: what it refuses is said as above
read_tells : (l : Layout) (src : List ℕ) (at : ℕ) → Tells (Read src) (read l src at)
unfolding read
read_tells stop src at = found_tells (Read src) _
read_tells (no_arm v) src at = refused_tells (Read src) _ (said other_had 1 refl refl refl)
read_tells (arm v t l) src at = also_tells src (tag t) _ (read_tells l src at)
read_tells (number w r k) src at =
    next_tells (Read src) (field w r src at) _ (field_tells src w r at)
    (λ n. also_tells src (num n) _ (read_tells (k n) src (at + w)))
read_tells (plain n l) src at =
    next_tells (Read src) (piece n src at) _ (piece_tells src n at)
    (λ xs. also_tells src (span at n) _ (read_tells l src (at + n)))
read_tells (buffer w m l) src at =
    next_tells (Read src) (field w (length_to m) src at) _ (field_tells src w (length_to m) at)
    (λ n. next_tells (Read src) (piece n src (at + w)) _ (piece_tells src n (at + w))
    (λ xs. also_tells src (span (at + w) n) _ (read_tells l src (at + w + n))))
read_tells (counted m i l) src at =
    next_tells (Read src) (list m (λ s a. read i s a) src at) _ (list_tells src (λ s a. read i s a) (read_tells i src) m at)
    (λ e. also_tells src (span at (e - at)) _ (read_tells l src e))

-- what is refused says what it had: Short all the bytes that are left at its place, fewer than it needs; any other none
pub refused_says_what_it_had : (l : Layout) (src : List ℕ) (at : ℕ) (f : Refusal) → read l src at ≡ refused f → Had src f
refused_says_what_it_had l src at f p = (read_tells l src at f p).that

-- and no reader refuses for want of room
pub refused_read_is_roomless : (l : Layout) (src : List ℕ) (at : ℕ) (f : Refusal) → read l src at ≡ refused f → f.fault ≡ NoRoom → ⊥
refused_read_is_roomless l src at f p = (read_tells l src at f p).roomless

-- the same where it is read whole: bytes that are left behind a record are no bytes that were missing
whole_tells : (l : Layout) (src : List ℕ) (at : ℕ) → Tells (Read src) (read_whole l src at)
unfolding read_whole nothing_behind
whole_tells l src at =
    next_tells (Read src) (read l src at) _ (read_tells l src at)
    (λ r. next_tells (Read src) (nothing_behind src r.stops) _ (when_tells (Read src) (leb (length src) r.stops) _ _ (said other_had 9 refl refl refl))
    (λ e. found_tells (Read src) r))

pub refused_whole_says_what_it_had : (l : Layout) (src : List ℕ) (at : ℕ) (f : Refusal) → read_whole l src at ≡ refused f → Had src f
refused_whole_says_what_it_had l src at f p = (whole_tells l src at f p).that

-- ---- writers, and whoever asks for an item

-- a list is walked as if its bytes xs were the whole input: what it had is what is left of them
list_whole_tells : (m : ℕ) (i : Layout) (xs : List ℕ) → Tells (Read xs) (whole m i xs)
unfolding whole
list_whole_tells m i xs =
    next_tells (Read xs) (list m (read i) xs 0) _ (list_tells xs (read i) (read_tells i xs) m 0)
    (λ e. when_tells (Read xs) (eqb e (length xs)) _ _ (said other_had 9 refl refl refl))

pub refused_list_says_what_it_had : (m : ℕ) (i : Layout) (xs : List ℕ) (f : Refusal) → whole m i xs ≡ refused f → Had xs f
refused_list_says_what_it_had m i xs f p = (list_whole_tells m i xs f p).that

-- so a writer says of a list, and whoever asks for an item of it
few_said : {xs : List ℕ} {f : Refusal} → Read xs f → Laid f
few_said s = record { that = s.that.few; roomless = s.roomless }

list_laid : (m : ℕ) (i : Layout) (xs : List ℕ) → Tells Laid (whole m i xs)
list_laid m i xs f p = few_said (list_whole_tells m i xs f p)

-- counted from further back it had what it had
moved_tells : {A : Type 0} (at : ℕ) (a : Ans A) → Tells Laid a → Tells Laid (moved at a)
moved_tells at (found x) h = found_tells Laid x
moved_tells at (refused g) h =
    let s = h g refl in
    refused_tells Laid _ (record { that = record { too_few = s.that.too_few; none = s.that.none }; roomless = s.roomless })

cut_tells : (src : List ℕ) (start len at : ℕ) → Tells Laid (cut src start len at)
unfolding cut
cut_tells src start len at = when_tells Laid (leb (start + len) (length src)) _ _ (said other_few 6 refl refl refl)

spelt_tells : (w : ℕ) (r : Rule) (n at : ℕ) → Tells Laid (spelt w r n at)
unfolding spelt
spelt_tells w r n at = when_tells Laid (allows r n && ltb n (256 ^ w)) _ _ (breach_said (λ f. other_few) r at n)

ahead_tells : (a k : Ans (List ℕ)) → Tells Laid a → Tells Laid k → Tells Laid (ahead a k)
ahead_tells a k h g = next_tells Laid a _ h (λ xs. next_tells Laid k _ g (λ ys. found_tells Laid (xs ++ ys)))

-- parts of another shape than the layout's, and else those that follow
module _ (at : ℕ) where
  odd_tells : {A : Type 0} → Tells {A = A} Laid (odd at)
  odd_tells = refused_tells Laid _ (said other_few 5 refl refl refl)

  end_tells : (ps : List Part) → Tells {A = List ℕ} Laid (on_end (odd at) ps (found []))
  end_tells [] = found_tells Laid []
  end_tells (p ∷ ps) = odd_tells

  number_tells : (ps : List Part) (k : ℕ → List Part → Ans (List ℕ)) → ((n : ℕ) (qs : List Part) → Tells Laid (k n qs)) → Tells Laid (on_number (odd at) ps k)
  number_tells [] k h = odd_tells
  number_tells (num n ∷ ps) k h = h n ps
  number_tells (tag t ∷ ps) k h = odd_tells
  number_tells (span start len ∷ ps) k h = odd_tells

  arm_tells : (ps : List Part) (k : ℕ → List Part → Ans (List ℕ)) → ((t : ℕ) (qs : List Part) → Tells Laid (k t qs)) → Tells Laid (on_arm (odd at) ps k)
  arm_tells [] k h = odd_tells
  arm_tells (num n ∷ ps) k h = odd_tells
  arm_tells (tag t ∷ ps) k h = h t ps
  arm_tells (span start len ∷ ps) k h = odd_tells

  span_tells : (ps : List Part) (k : ℕ → ℕ → List Part → Ans (List ℕ)) → ((start len : ℕ) (qs : List Part) → Tells Laid (k start len qs)) → Tells Laid (on_span (odd at) ps k)
  span_tells [] k h = odd_tells
  span_tells (num n ∷ ps) k h = odd_tells
  span_tells (tag t ∷ ps) k h = odd_tells
  span_tells (span start len ∷ ps) k h = h start len ps

-- a writer of any layout, by induction on it
lay_tells : (l : Layout) (ps : List Part) (src : List ℕ) (at : ℕ) → Tells Laid (lay l ps src at)
unfolding lay
lay_tells stop ps src at = end_tells at ps
lay_tells (no_arm v) ps src at = refused_tells Laid _ (said other_few 1 refl refl refl)
lay_tells (arm v t l) ps src at =
    arm_tells at ps _ (λ u qs. either_tells Laid (eqb u t) _ _ (lay_tells l qs src at) (refused_tells Laid _ (said other_few 5 refl refl refl)))
lay_tells (number w r k) ps src at =
    number_tells at ps _ (λ n qs. ahead_tells (spelt w r n at) _ (spelt_tells w r n at) (lay_tells (k n) qs src (at + w)))
lay_tells (plain n l) ps src at =
    span_tells at ps _
    (λ start len qs. either_tells Laid (eqb len n) _ _ (ahead_tells (cut src start len at) _ (cut_tells src start len at) (lay_tells l qs src (at + n))) (odd_tells at))
lay_tells (buffer w m l) ps src at =
    span_tells at ps _
    (λ start len qs. next_tells Laid (cut src start len at) _ (cut_tells src start len at)
    (λ xs. ahead_tells (spelt w (length_to m) len at) _ (spelt_tells w (length_to m) len at)
    (ahead_tells (found xs) _ (found_tells Laid xs) (lay_tells l qs src (at + w + len)))))
lay_tells (counted m i l) ps src at =
    span_tells at ps _
    (λ start len qs. next_tells Laid (cut src start len at) _ (cut_tells src start len at)
    (λ xs. ahead_tells (moved at (whole m i xs)) _ (moved_tells at (whole m i xs) (list_laid m i xs)) (lay_tells l qs src (at + len))))

-- a refused write had no bytes, unless it is Short, and then fewer than it needs
pub refused_write_had_few : (l : Layout) (ps : List Part) (src : List ℕ) (at : ℕ) (f : Refusal) → lay l ps src at ≡ refused f → HadFew f
refused_write_had_few l ps src at f p = (lay_tells l ps src at f p).that

-- and what may not be written may not for another reason than want of room
pub refused_write_is_roomless : (l : Layout) (ps : List Part) (src : List ℕ) (at : ℕ) (f : Refusal) → lay l ps src at ≡ refused f → f.fault ≡ NoRoom → ⊥
refused_write_is_roomless l ps src at f p = (lay_tells l ps src at f p).roomless

-- so had a refused item: it is refused as the list is, or there is none
pick_tells : (ps : List Part) (i asked : ℕ) (src : List ℕ) → Tells Laid (pick_field ps i asked src)
pick_tells [] i asked src = refused_tells Laid _ (said other_few 8 refl refl refl)
pick_tells (num n ∷ ps) i asked src = pick_tells ps i asked src
pick_tells (tag t ∷ ps) i asked src = pick_tells ps i asked src
pick_tells (span start len ∷ ps) zero asked src = cut_tells src start len 0
pick_tells (span start len ∷ ps) (suc i) asked src = pick_tells ps i asked src

items_tells : (item : Layout) (xs : List ℕ) (n i asked at : ℕ) → Tells Laid (pick_item (λ s a. read item s a) n i asked xs at)
items_tells item xs zero i asked at = refused_tells Laid _ (said other_few 8 refl refl refl)
items_tells item xs (suc n) zero asked at =
    next_tells Laid (read item xs at) _ (λ f p. few_said (read_tells item xs at f p)) (λ r. found_tells Laid _)
items_tells item xs (suc n) (suc i) asked at =
    next_tells Laid (read item xs at) _ (λ f p. few_said (read_tells item xs at f p)) (λ r. items_tells item xs n i asked r.stops)

item_tells : (m : ℕ) (item : Layout) (lists : List Part) (i : ℕ) (src : List ℕ) → Tells Laid (item_of m item lists i src)
unfolding item_of
item_tells m item lists i src =
    next_tells Laid (pick_field lists zero i src) _ (pick_tells lists zero i src)
    (λ xs. next_tells Laid (whole m item xs) _ (list_laid m item xs)
    (λ ys. items_tells item ys (be (take 4 ys)) i i 4))

pub refused_item_had_few : (m : ℕ) (item : Layout) (lists : List Part) (i : ℕ) (src : List ℕ) (f : Refusal) → item_of m item lists i src ≡ refused f → HadFew f
refused_item_had_few m item lists i src f p = (item_tells m item lists i src f p).that
