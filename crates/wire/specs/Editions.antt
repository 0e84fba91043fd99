-- Later editions of a layout: more codes, and arms for selectors without one here; nothing of ours is changed. Assumes nothing.
use Rattle.std.specs.Prelude.{ℕ, ◌≤◌, ◌<◌, ◌≡◌, ◌⊎◌, Bool, true, List}
use Rattle.faults.specs.declared.Fault.TheVariants.{UnknownCode, NoArm}
use Rattle.faults.specs.declared.Refusal.{Refusal}
use Rattle.wire.specs.Layout.{Rule, listed, allows, Layout, stop, no_arm, arm, number, plain, buffer, counted}
use Rattle.wire.specs.Grammar.{Token, Spells, Items, ends, holds, says, shows, sizes, counts, none, more}
use Rattle.wire.specs.Refusals.{Refuses}

-- a later edition's rule for a number of w bytes: the same, or a longer list of codes, which have a byte at least
pub data LaterRule (w : ℕ) : Rule → Rule → Type 0 where
  rule_same : {r : Rule} → LaterRule w r r
  rule_longer : {p q : ℕ → Bool} → 0 < w → ((n : ℕ) → p n ≡ true → q n ≡ true) → LaterRule w (listed p) (listed q)

-- Later l l': the layout l' lists more codes than l perhaps, and has arms perhaps where l has none; all else is equal.
-- What follows a code that l does not list is free.
pub data Later : Layout → Layout → Type 0 where
  stop_same : Later stop stop
  arm_new : {v : ℕ} {l' : Layout} → Later (no_arm v) l'
  arm_same : {v t : ℕ} {l l' : Layout} → Later l l' → Later (arm v t l) (arm v t l')
  number_later : {w : ℕ} {r r' : Rule} {k k' : ℕ → Layout}
      → LaterRule w r r' → ((n : ℕ) → allows r n ≡ true → Later (k n) (k' n))
      → Later (number w r k) (number w r' k')
  plain_same : {n : ℕ} {l l' : Layout} → Later l l' → Later (plain n l) (plain n l')
  buffer_same : {w m : ℕ} {l l' : Layout} → Later l l' → Later (buffer w m l) (buffer w m l')
  counted_same : {m : ℕ} {i i' l l' : Layout} → Later i i' → Later l l' → Later (counted m i l) (counted m i' l')

-- ---- a record of a later edition that is all ours

-- P holds of every item of a list, as it is spelled
abbrev pub EachItem : {i : Layout} {n : ℕ} {bs : List ℕ} → ((ts : List Token) (xs : List ℕ) → Spells i ts xs → Type 0) → Items i n bs → Type 0
EachItem P none = Unit {0}
EachItem P (more {ts = ts} {xs = xs} e d ds) = P ts xs d × EachItem P ds

-- Ours x d: every code of d, a record of the later edition, is one that our layout lists, and every arm that d holds is one that ours has
abbrev pub Ours : {l l' : Layout} {ts : List Token} {bs : List ℕ} → Later l l' → Spells l' ts bs → Type 0
Ours stop_same ends = Unit {0}
Ours arm_new d = ⊥
Ours (arm_same x) (holds d) = Ours x d
Ours (number_later {r = r} rule x) (says n h a e d) = (q : allows r n ≡ true) × Ours (x n q) d
Ours (plain_same x) (shows xs h b e d) = Ours x d
Ours (buffer_same x) (sizes xs h le b e d) = Ours x d
Ours (counted_same y x) (counts n h le c is e d) = EachItem (λ ts xs d. Ours y d) is × Ours x d

-- ---- and one that is not

-- the two faults of a record that is newer than the layout
abbrev pub Newer : Refusal → Type 0
Newer f = (f.fault ≡ UnknownCode) ⊎ (f.fault ≡ NoArm)

-- f is such a fault of a record that begins at `at` and ends at e: a code in front of its end, or an arm, which may be empty, at its end at the latest
pub data NewerIn (at e : ℕ) (f : Refusal) : Type 0 where
  new_code : f.fault ≡ UnknownCode → at ≤ f.place → f.place < e → NewerIn at e f
  new_arm : f.fault ≡ NoArm → at ≤ f.place → f.place ≤ e → NewerIn at e f

-- a record stands in src from `at` to e, and all of it is as the layout l has it up to a code that l does not list, or an arm that l does
-- not have; f names that one
pub record Foreign (l : Layout) (src : List ℕ) (at e : ℕ) (f : Refusal) : Type 0 where
  pub newer : NewerIn at e f
  pub first : Refuses src l at f
