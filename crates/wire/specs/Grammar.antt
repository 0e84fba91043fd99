-- Which bytes spell which record, with no reader in sight. Assumes nothing.
use Rattle.std.specs.Prelude.{ℕ, zero, suc, ◌+◌, ◌^◌, ◌≤◌, ◌<◌, ◌≡◌, true, List, [], ◌∷◌, ◌++◌, length, take, drop}
use Rattle.wire.specs.Bytes.{Bytes, digits}
use Rattle.wire.specs.Layout.{Rule, allows, Layout, stop, arm, number, plain, buffer, counted}
use Rattle.wire.specs.Records.{Part, num, tag, span}

-- what a field shows: a number, the arm that is held, or bytes
pub data Token : Type 0 where
  value : ℕ → Token
  held : ℕ → Token
  bytes : List ℕ → Token

-- Spells l ts bs: the bytes bs are a record of the layout l that shows ts. No bytes spell `no_arm`.
-- Items i n bs: the bytes bs are n records of the layout i, one behind the other.
-- (Where bytes are joined they have a name and an equation beside it, so that a proof can go by cases on how they were spelled.)
mutual
  pub data Spells : Layout → List Token → List ℕ → Type 0 where
    -- nothing more: no bytes
    ends : Spells stop [] []
    -- an arm: the bytes of its fields
    holds : {v t : ℕ} {l : Layout} {ts : List Token} {bs : List ℕ}
        → Spells l ts bs
        → Spells (arm v t l) (held t ∷ ts) bs
    -- a number that the rule allows: its w digits, then what follows it
    says : {w : ℕ} {r : Rule} {k : ℕ → Layout} {ts : List Token} {bs cs : List ℕ} (n : ℕ)
        → n < 256 ^ w → allows r n ≡ true
        → bs ≡ digits w n ++ cs → Spells (k n) ts cs
        → Spells (number w r k) (value n ∷ ts) bs
    -- plain bytes, n of them
    shows : {n : ℕ} {l : Layout} {ts : List Token} {bs cs : List ℕ} (xs : List ℕ)
        → length xs ≡ n → Bytes xs
        → bs ≡ xs ++ cs → Spells l ts cs
        → Spells (plain n l) (bytes xs ∷ ts) bs
    -- a buffer: the w digits of its length, and its bytes
    sizes : {w m : ℕ} {l : Layout} {ts : List Token} {bs cs : List ℕ} (xs : List ℕ)
        → length xs < 256 ^ w → length xs ≤ m → Bytes xs
        → bs ≡ digits w (length xs) ++ (xs ++ cs) → Spells l ts cs
        → Spells (buffer w m l) (bytes xs ∷ ts) bs
    -- a list: the four digits of its count, and its items; it shows its own bytes
    counts : {m : ℕ} {i l : Layout} {ts : List Token} {bs xs ys cs : List ℕ} (n : ℕ)
        → n < 256 ^ 4 → n ≤ m
        → xs ≡ digits 4 n ++ ys → Items i n ys
        → bs ≡ xs ++ cs → Spells l ts cs
        → Spells (counted m i l) (bytes xs ∷ ts) bs

  pub data Items : Layout → ℕ → List ℕ → Type 0 where
    none : {i : Layout} → Items i zero []
    more : {i : Layout} {n : ℕ} {ts : List Token} {bs xs ys : List ℕ}
        → bs ≡ xs ++ ys → Spells i ts xs → Items i n ys
        → Items i (suc n) bs

-- the bytes bs stand in src at the place `at`: from there on, src is bs and then a rest
pub record Stands (src : List ℕ) (at : ℕ) (bs : List ℕ) : Type 0 where
  pub rest : List ℕ
  pub begins : drop at src ≡ bs ++ rest

-- a spelled record of the layout l stands in src at the place `at`, and ends at e
pub record Starts (l : Layout) (src : List ℕ) (at e : ℕ) : Type 0 where
  pub tokens : List Token
  pub front : List ℕ
  pub spells : Spells l tokens front
  pub stands : Stands src at front
  pub ends : e ≡ at + length front

-- what a part shows of the source s
abbrev pub token : List ℕ → Part → Token
token s (num n) = value n
token s (tag t) = held t
token s (span start len) = bytes (take len (drop start s))

-- what the parts of a record show: its fields, and the bytes that its spans stand for
abbrev pub shown : List ℕ → List Part → List Token
shown s [] = []
shown s (p ∷ ps) = token s p ∷ shown s ps

-- the parts of a record that is spelled from the place `at` on
abbrev pub placed : {l : Layout} {ts : List Token} {bs : List ℕ} → Spells l ts bs → (at : ℕ) → List Part
placed ends at = []
placed (holds {t} d) at = tag t ∷ placed d at
placed (says {w} n h a e d) at = num n ∷ placed d (at + w)
placed (shows {n} xs h b e d) at = span at n ∷ placed d (at + n)
placed (sizes {w} xs h m b e d) at = span (at + w) (length xs) ∷ placed d (at + w + length xs)
placed (counts {xs} n h m c is e d) at = span at (length xs) ∷ placed d (at + length xs)
