-- One field, read: what is found and what is refused, whatever stands behind it. A premise says what a reader of that field answered, in
-- the form of its contract, the answer first; a conclusion says how the reading of a layout with that field in front goes on.
-- Assumes nothing.
use Prim.Native.Nat.{ℕ, ◌+◌, ◌-◌, ◌≤◌, ◌<◌}
use mathlib.Core.Path.{◌≡◌, refl, sym}
use mathlib.Core.Bool.{cond}
use mathlib.Core.List.{List, [], ◌∷◌}
use lib.ListN.{take, drop}
use lib.Dec.{leb}
use borrow.Author.Tests.{le-leb, lt-leb, leb-true}
use Rattle.faults.specs.declared.Refusal.{Refusal}
use Rattle.faults.specs.Faults.{short, too_long, too_many_items}
use Rattle.wire.specs.Bytes.{be}
use Rattle.wire.specs.Layout.{Rule, free, length_to, count_to, allows, breach, Layout, stop, plain, buffer, counted, one}
use Rattle.wire.specs.Records.{num, span, Ans, found, refused, Parsed, parsed, next, left}
use Rattle.wire.specs.Reading.{also, Reader, piece, field, walk, list, read}
use Rattle.wire.proofs.Steps.{found_refused, parsed_same, when_found}
use Rattle.wire.proofs.Refused.{piece_short}

-- ---- what takes no bytes

pub read_stop : (src : List ℕ) (at : ℕ) → read stop src at ≡ parsed [] at
unfolding read
read_stop src at = refl

-- ---- bytes that are there, and bytes that are not

module _ (n : ℕ) (src : List ℕ) (at : ℕ) where
  piece_there : n ≤ left src at → piece n src at ≡ found (take n (drop at src))
  unfolding piece
  piece_there h = rw (le-leb n (left src at) h)

  piece_fits : {xs : List ℕ} → piece n src at ≡ found xs → n ≤ left src at
  unfolding piece
  piece_fits p = leb-true n (left src at) (when_found (leb n (left src at)) _ _ p).0

  pub one_there : {v : ℕ} → n ≤ left src at → v ≡ be (take n (drop at src)) → parsed (num v ∷ []) (at + n) ≡ read (one n free) src at
  unfolding read field
  one_there h e = rw (piece_there h, e)

  pub one_short : left src at < n → refused (short at n (left src at)) ≡ read (one n free) src at
  unfolding read field
  one_short h = rw (piece_short n src at h)

  -- by what the code says: so many bytes are needed, and so many are there
  pub one_refused : {f : Refusal} (m there : ℕ) → f ≡ short at m there → m ≡ n → there ≡ left src at → left src at < n → refused f ≡ read (one n free) src at
  one_refused m there told needed had few = rw (told, needed, had) (one_short few)

  pub plain_there : n ≤ left src at → parsed (span at n ∷ []) (at + n) ≡ read (plain n stop) src at
  unfolding read
  plain_there h = rw (piece_there h)

  pub plain_short : left src at < n → refused (short at n (left src at)) ≡ read (plain n stop) src at
  unfolding read
  plain_short h = rw (piece_short n src at h)

  pub plain_refused : {f : Refusal} (m there : ℕ) → f ≡ short at m there → m ≡ n → there ≡ left src at → left src at < n → refused f ≡ read (plain n stop) src at
  plain_refused m there told needed had few = rw (told, needed, had) (plain_short few)

-- ---- a number, judged by a rule

-- a number that was read is the one that its bytes spell, and it ends behind them
number_piece : (a : Ans (List ℕ)) {n e end : ℕ} → parsed (num n ∷ []) e ≡ next (next a (λ xs. found (be xs))) (λ n. parsed (num n ∷ []) end)
    → (xs : List ℕ) × (a ≡ found xs) × (be xs ≡ n) × (e ≡ end)
number_piece (found xs) {n} p = let (parts, ends) = parsed_same p in let same : be xs ≡ n = cc in (xs, refl, same, ends)
number_piece (refused f) p = absurd (found_refused (sym p))

number_no_piece : (a : Ans (List ℕ)) (k : List ℕ → Ans ℕ) (end : ℕ) {f : Refusal}
    → refused f ≡ next (next a (λ xs. found (be xs))) (λ n. parsed (num n ∷ []) end) → next a k ≡ refused f
number_no_piece (found xs) k end p = absurd (found_refused p)
number_no_piece (refused g) k end p = cc

module _ (w : ℕ) (r : Rule) (src : List ℕ) (at : ℕ) where
  judged : {n e : ℕ} → parsed (num n ∷ []) e ≡ read (one w free) src at → field w r src at ≡ cond (allows r n) (found n) (refused (breach r at n))
  unfolding read field
  judged p = let (xs, s, same, ends) = number_piece (piece w src at) p in rw (s, same)

  unjudged : {f : Refusal} → refused f ≡ read (one w free) src at → field w r src at ≡ refused f
  unfolding read field
  unjudged p = number_no_piece (piece w src at) _ (at + w) p

-- a number ends behind its bytes, and those are in the input
pub one_ends : (w : ℕ) (src : List ℕ) (at : ℕ) {n e : ℕ} → parsed (num n ∷ []) e ≡ read (one w free) src at → (e ≡ at + w) × (w ≤ left src at)
unfolding read field
one_ends w src at p = let (xs, s, same, ends) = number_piece (piece w src at) p in (ends, piece_fits w src at s)

-- ---- a buffer

module _ (w m : ℕ) (l : Layout) (src : List ℕ) (at : ℕ) where
  -- it is a length, and behind it that many plain bytes
  pub buffer_body : {n e : ℕ} → parsed (num n ∷ []) e ≡ read (one w free) src at → n ≤ m → read (buffer w m l) src at ≡ read (plain n l) src e
  unfolding read
  buffer_body {n} p h = rw (judged w (length_to m) src at p, le-leb n m h, (one_ends w src at p).0)

  -- a length beyond the limit, and none
  pub buffer_long : {n e : ℕ} → parsed (num n ∷ []) e ≡ read (one w free) src at → m < n → read (buffer w m l) src at ≡ refused (too_long at n)
  unfolding read
  buffer_long {n} p h = rw (judged w (length_to m) src at p, lt-leb n m h)

  pub buffer_short : {f : Refusal} → refused f ≡ read (one w free) src at → read (buffer w m l) src at ≡ refused f
  unfolding read
  buffer_short p = rw (unjudged w (length_to m) src at p)

-- ---- a list

module _ (m : ℕ) (i l : Layout) (src : List ℕ) (at : ℕ) where
  pub list_found : {e : ℕ} → found e ≡ list m (λ s a. read i s a) src at → read (counted m i l) src at ≡ also (span at (e - at)) (read l src e)
  unfolding read
  list_found q = rw (← q)

  pub list_refused : {f : Refusal} → refused f ≡ list m (λ s a. read i s a) src at → read (counted m i l) src at ≡ refused f
  unfolding read
  list_refused q = rw (← q)

-- a list is a count, and behind it that many items
module _ (m : ℕ) (item : Reader Parsed) (src : List ℕ) (at : ℕ) where
  pub list_items_lem : {n e : ℕ} → parsed (num n ∷ []) e ≡ read (one 4 free) src at → n ≤ m → list m item src at ≡ walk item n src e
  unfolding list
  list_items_lem {n} p h = rw (judged 4 (count_to m) src at p, le-leb n m h, (one_ends 4 src at p).0)

  pub list_long : {n e : ℕ} → parsed (num n ∷ []) e ≡ read (one 4 free) src at → m < n → list m item src at ≡ refused (too_many_items at n)
  unfolding list
  list_long {n} p h = rw (judged 4 (count_to m) src at p, lt-leb n m h)

  pub list_short : {f : Refusal} → refused f ≡ read (one 4 free) src at → list m item src at ≡ refused f
  unfolding list
  list_short p = rw (unjudged 4 (count_to m) src at p)
