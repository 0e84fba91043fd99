-- Every record of an edition is one of each later edition too, and all of it is the earlier one's. Assumes nothing.
use Prim.Native.Nat.{ℕ, ◌+◌}
use mathlib.Core.Path.{◌≡◌, refl}
use mathlib.Core.List.{List}
use lib.ListN.{length}
use Rattle.wire.specs.Layout.{Layout}
use Rattle.wire.specs.Grammar.{Token, Spells, Items, ends, holds, says, shows, sizes, counts, none, more, placed}
use Rattle.wire.specs.Editions.{Later, stop_same, arm_new, arm_same, number_later, plain_same, buffer_same, counted_same, EachItem, Ours}
use Rattle.wire.proofs.Rules.{keeps_codes}

items_earlier : {i i' : Layout} {n : ℕ} {bs : List ℕ} → ((ts : List Token) (xs : List ℕ) → Spells i ts xs → Spells i' ts xs) → Items i n bs → Items i' n bs
items_earlier one none = none
items_earlier one (more {ts = ts} {xs = xs} e d ds) = more e (one ts xs d) (items_earlier one ds)

-- every record of an edition is one of each later edition too
pub earlier : {l l' : Layout} {ts : List Token} {bs : List ℕ} → Later l l' → Spells l ts bs → Spells l' ts bs
earlier stop_same ends = ends
earlier (arm_new {v = v}) d = elim d [ ]
earlier (arm_same x) (holds d) = holds (earlier x d)
earlier (number_later rule x) (says n h a e d) = says n h (keeps_codes rule n a) e (earlier (x n a) d)
earlier (plain_same x) (shows xs h b e d) = shows xs h b e (earlier x d)
earlier (buffer_same x) (sizes xs h le b e d) = sizes xs h le b e (earlier x d)
earlier (counted_same y x) (counts n h le c is e d) = counts n h le c (items_earlier (λ ts xs d. earlier y d) is) e (earlier x d)

-- with the same parts
pub earlier_placed : {l l' : Layout} {ts : List Token} {bs : List ℕ} (x : Later l l') (d : Spells l ts bs) (at : ℕ) → placed (earlier x d) at ≡ placed d at
unfolding earlier
earlier_placed stop_same ends at = refl
earlier_placed (arm_new {v = v}) d at = elim d [ ]
earlier_placed (arm_same x) (holds d) at = rw (earlier_placed x d at)
earlier_placed (number_later {w} rule x) (says n h a e d) at = rw (earlier_placed (x n a) d (at + w))
earlier_placed (plain_same {n} x) (shows xs h b e d) at = rw (earlier_placed x d (at + n))
earlier_placed (buffer_same {w} x) (sizes xs h le b e d) at = rw (earlier_placed x d (at + w + length xs))
earlier_placed (counted_same y x) (counts {xs = xs} n h le c is e d) at = rw (earlier_placed x d (at + length xs))

items_earlier_ours : {i i' : Layout} {n : ℕ} {bs : List ℕ} (P : (ts : List Token) (xs : List ℕ) → Spells i' ts xs → Type 0) (one : (ts : List Token) (xs : List ℕ) → Spells i ts xs → Spells i' ts xs)
    → ((ts : List Token) (xs : List ℕ) (d : Spells i ts xs) → P ts xs (one ts xs d)) → (is : Items i n bs) → EachItem P (items_earlier one is)
unfolding items_earlier
items_earlier_ours P one all none = tt
items_earlier_ours P one all (more {ts = ts} {xs = xs} e d ds) = (all ts xs d, items_earlier_ours P one all ds)

-- and as such all of it is ours
pub earlier_ours : {l l' : Layout} {ts : List Token} {bs : List ℕ} (x : Later l l') (d : Spells l ts bs) → Ours x (earlier x d)
unfolding earlier
earlier_ours stop_same ends = tt
earlier_ours (arm_new {v = v}) d = elim d [ ]
earlier_ours (arm_same x) (holds d) = earlier_ours x d
earlier_ours (number_later rule x) (says n h a e d) = (a, earlier_ours (x n a) d)
earlier_ours (plain_same x) (shows xs h b e d) = earlier_ours x d
earlier_ours (buffer_same x) (sizes xs h le b e d) = earlier_ours x d
earlier_ours (counted_same y x) (counts n h le c is e d) = (items_earlier_ours (λ ts xs d. Ours y d) (λ ts xs d. earlier y d) (λ ts xs d. earlier_ours y d) is, earlier_ours x d)
