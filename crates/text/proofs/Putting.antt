-- Bytes put one behind the other. Assumes nothing.
use Prim.Native.Nat.{ℕ, suc, ◌+◌, ◌-◌, ◌≤◌, ◌<◌}
use native.Mathlib.Omega.{arith}
use mathlib.Core.Path.{◌≡◌, refl, sym, ap, ◌∙◌, subst}
use mathlib.Core.Bool.{Bool, true, false}
use mathlib.Core.List.{List, [], ◌∷◌, ◌++◌, append_assoc, append-nil}
use lib.ListN.{length, take, drop, set, length-append, length-drop, take-append-drop, drop_of_length-le}
use lib.Seq.{take_all, take_at, drop_at, drop-drop, length-take-le, sets, sets-eq}
use lib.Dec.{leb}
use borrow.Author.Tests.{le-leb, leb-true, leb-false}
use Rattle.std.proofs.lemmas.List.{length-take}
use Rattle.wire.specs.Records.{found}
use Rattle.wire.specs.Filling.{filled}
use Rattle.text.specs.Puts.{Puts, Fits}

-- with room, what a writer leaves is the bytes and what was there around them
pub filled_puts : (at : ℕ) (bs old : List ℕ) {last : List ℕ} {n : ℕ} → n ≡ length bs → at + n ≤ length old → last ≡ filled at (found bs) old → Puts at bs old (at + n) last
filled_puts at bs old e h p =
    let t : leb (length bs) (length old - at) ≡ true = le-leb (length bs) (length old - at) (omega arith) in
    let place : length bs + at ≡ at + length bs = omega arith in
    let q : _ ≡ take at old ++ (bs ++ drop (length bs + at) old) = rw t at p in
    record { behind = ap (λ n. at + n) e; holds = q ∙ ap (λ n. take at old ++ (bs ++ drop n old)) place }

-- bytes that are stored one by one
stored : (bs : List ℕ) {at : ℕ} {old : List ℕ} → at + length bs ≤ length old → Puts at bs old (at + length bs) (sets old at bs)
stored bs {at} {old} h = record { behind = refl; holds = sets-eq bs old at h ∙ append_assoc (take at old) bs (drop (at + length bs) old) }

module _ {at : ℕ} {old : List ℕ} where
  pub stored_one : {a : ℕ} → at + 1 ≤ length old → Puts at (a ∷ []) old (at + 1) (set old at a)
  stored_one {a} h = stored (a ∷ []) h

  pub stored_two : {a b : ℕ} → at + 2 ≤ length old → Puts at (a ∷ b ∷ []) old (at + 2) (set (set old at a) (at + 1) b)
  stored_two {a} {b} h = let next : at + 1 ≡ suc at = omega arith in rw next (stored (a ∷ b ∷ []) h)

  pub stored_three : {a b c : ℕ} → at + 3 ≤ length old → Puts at (a ∷ b ∷ c ∷ []) old (at + 3) (set (set (set old at a) (at + 1) b) (at + 2) c)
  stored_three {a} {b} {c} h =
      let next : at + 1 ≡ suc at = omega arith in
      let last : at + 2 ≡ suc (suc at) = omega arith in
      rw (next, last) (stored (a ∷ b ∷ c ∷ []) h)

-- a buffer keeps its length
pub puts_length : {at : ℕ} {bs old : List ℕ} {r : ℕ} {last : List ℕ} → r ≤ length old → Puts at bs old r last → length last ≡ length old
puts_length {at} {bs} {old} h p =
    omega (arith, p.behind, ap length p.holds, length-append (take at old) (bs ++ drop (at + length bs) old), length-append bs (drop (at + length bs) old), length-drop (at + length bs) old, length-take-le at old (omega (arith, p.behind)))

-- what stands in front of the place behind them, and what stands from there on: past the end there is nothing
parted : {at m : ℕ} {xs old mid : List ℕ} → Puts at xs old m mid → (take m mid ≡ take at old ++ xs) × (drop m mid ≡ drop m old)
parted {at} {m} {xs} {old} {mid} p = by (leb m (length old)) refl
  where
    whole : mid ≡ (take at old ++ xs) ++ drop m old
    whole = p.holds ∙ rw (p.behind) (sym (append_assoc (take at old) xs (drop (at + length xs) old)))

    by : (b : Bool) → leb m (length old) ≡ b → (take m mid ≡ take at old ++ xs) × (drop m mid ≡ drop m old)
    by true e =
        let near : m ≤ length old = leb-true m (length old) e in
        let size : length (take at old ++ xs) ≡ m = omega (arith, p.behind, length-append (take at old) xs, length-take-le at old (omega (arith, p.behind))) in
        (rw whole (take_at (take at old ++ xs) (drop m old) m size), rw whole (drop_at (take at old ++ xs) (drop m old) m size))
    by false e =
        let far : length old < m = leb-false m (length old) e in
        let none : drop m old ≡ [] = drop_of_length-le old (omega arith) in
        let all : mid ≡ take at old ++ xs = whole ∙ rw (none, append-nil (take at old ++ xs)) in
        let short : length mid ≤ m = omega (arith, p.behind, ap length all, length-append (take at old) xs, length-take at old) in
        (take_all m mid short ∙ all, drop_of_length-le mid short ∙ sym none)

-- bytes behind bytes
pub puts_and : {at m r : ℕ} {xs ys old mid last : List ℕ} → Puts at xs old m mid → Puts m ys mid r last → Puts at (xs ++ ys) old r last
puts_and {at} {m} {r} {xs} {ys} {old} {mid} {last} p q =
    let (begun, rest) = parted p in
    let place : m + length ys ≡ at + length (xs ++ ys) = omega (arith, p.behind, length-append xs ys) in
    let behind : drop (m + length ys) mid ≡ drop (at + length (xs ++ ys)) old =
    sym (drop-drop (length ys) m mid) ∙ ap (λ l. drop (length ys) l) rest ∙ drop-drop (length ys) m old ∙ ap (λ n. drop n old) place in
    record {
      behind = q.behind ∙ place;
      holds = q.holds ∙ rw (begun, behind, append_assoc xs ys (drop (at + length (xs ++ ys)) old)) (append_assoc (take at old) xs (ys ++ drop (at + length (xs ++ ys)) old));
    }

-- the same, for those who have room at hand
pub puts_then : {at m r : ℕ} {xs ys old mid last : List ℕ} → m ≤ length old → Puts at xs old m mid → Puts m ys mid r last → Puts at (xs ++ ys) old r last
puts_then h p q = puts_and p q

-- nothing
pub puts_none : (at : ℕ) (old : List ℕ) → Puts at [] old at old
puts_none at old = let here : at ≡ at + 0 = omega arith in record { behind = here; holds = sym (take-append-drop at old) ∙ ap (λ n. take at old ++ drop n old) here }

-- ---- bytes that are put if they fit

-- where there is room
pub room_there : (b : Bool) (at k n : ℕ) → b ≡ leb (at + k) n → b ≡ true → at + k ≤ n
room_there b at k n test good = leb-true (at + k) n (sym test ∙ good)

pub fits_exactly : {b : Bool} {at : ℕ} {bs old : List ℕ} {n r : ℕ} {last : List ℕ} → n ≡ length bs → b ≡ leb (at + n) (length old) → b ≡ true → Puts at bs old r last → Fits at bs old n last
fits_exactly {at = at} {bs = bs} {old = old} size test good p =
    let some : leb (at + length bs) (length old) ≡ true = ap (λ n. leb (at + n) (length old)) (sym size) ∙ sym test ∙ good in
    record { size = size; holds = rw some p.holds }

-- where there is room for k bytes, and there are no more
pub fits_at_once : {b : Bool} {at : ℕ} {bs old : List ℕ} (k : ℕ) {r : ℕ} {last : List ℕ} → length bs ≤ k → b ≡ leb (at + k) (length old) → b ≡ true → Puts at bs old r last → Fits at bs old (r - at) last
fits_at_once {b} {at} {bs} {old} k few test good p =
    let room = room_there b at k (length old) test good in
    record { size = omega (arith, p.behind); holds = rw (le-leb (at + length bs) (length old) (omega arith)) p.holds }

-- where bytes fit they are put
pub fits_puts : {at : ℕ} {bs old : List ℕ} {r : ℕ} {last : List ℕ} → at + length bs ≤ length old → Fits at bs old r last → Puts at bs old (at + length bs) last
fits_puts {at} {bs} {old} room p = record { behind = refl; holds = p.holds ∙ rw (le-leb (at + length bs) (length old) room) }

-- bytes that were made beside
pub made : {bs old : List ℕ} {k : ℕ} {row : List ℕ} → Puts 0 bs old k row → take k row ≡ bs
made {bs} {old} {k} p = ap (λ l. take k l) p.holds ∙ take_at bs (drop (0 + length bs) old) k (omega (arith, p.behind))

pub fits_same : {at : ℕ} {xs ys old : List ℕ} {r : ℕ} {last : List ℕ} → xs ≡ ys → Fits at xs old r last → Fits at ys old r last
fits_same {at} {old = old} {r = r} {last = last} e p = subst (λ bs. Fits at bs old r last) e p
