-- Why bytes are refused, with no reader in sight: the first field, in wire order, that is not as the layout has it. Assumes nothing.
use Rattle.std.specs.Prelude.{ℕ, suc, ◌+◌, ◌^◌, ◌<◌, ◌≡◌, true, false, List, length}
use Rattle.faults.specs.declared.Fault.TheVariants.{Short}
use Rattle.faults.specs.declared.Refusal.{Refusal}
use Rattle.faults.specs.Faults.{short, no_such_arm, trailing}
use Rattle.wire.specs.Bytes.{digits}
use Rattle.wire.specs.Layout.{Rule, allows, breach, length_to, count_to, Layout, no_arm, arm, number, plain, buffer, counted}
use Rattle.wire.specs.Records.{left}
use Rattle.wire.specs.Grammar.{Token, Spells, Items, Stands, Starts}

-- the number n, which the rule allows, stands at the place `at` by w digits
pub record Field (src : List ℕ) (w : ℕ) (r : Rule) (at n : ℕ) : Type 0 where
  pub fits : n < 256 ^ w
  pub allowed : allows r n ≡ true
  pub stands : Stands src at (digits w n)

-- no such number stands there: fewer bytes are left than it needs, or the rule does not allow the number that stands there
pub data NoNumber (src : List ℕ) (w : ℕ) (r : Rule) (at : ℕ) (f : Refusal) : Type 0 where
  ends_early : left src at < w → f ≡ short at w (left src at) → NoNumber src w r at f
  not_allowed : (n : ℕ) → n < 256 ^ w → allows r n ≡ false → Stands src at (digits w n) → f ≡ breach r at n → NoNumber src w r at f

-- Refuses src l at f: from the place `at` on, src is as a record of l, field by field, up to the first that is not; f names that one.
-- RefusesItems src i n at f: the same of n items.
mutual
  pub data Refuses (src : List ℕ) : Layout → ℕ → Refusal → Type 0 where
    no_arm_due : {v at : ℕ} {f : Refusal} → f ≡ no_such_arm at v → Refuses src (no_arm v) at f
    no_number : {w : ℕ} {r : Rule} {k : ℕ → Layout} {at : ℕ} {f : Refusal}
        → NoNumber src w r at f
        → Refuses src (number w r k) at f
    no_bytes : {n at : ℕ} {l : Layout} {f : Refusal}
        → left src at < n → f ≡ short at n (left src at)
        → Refuses src (plain n l) at f
    no_length : {w m at : ℕ} {l : Layout} {f : Refusal}
        → NoNumber src w (length_to m) at f
        → Refuses src (buffer w m l) at f
    no_body : {w m at : ℕ} {l : Layout} {f : Refusal} (n : ℕ)
        → Field src w (length_to m) at n
        → left src (at + w) < n → f ≡ short (at + w) n (left src (at + w))
        → Refuses src (buffer w m l) at f
    no_count : {m at : ℕ} {i l : Layout} {f : Refusal}
        → NoNumber src 4 (count_to m) at f
        → Refuses src (counted m i l) at f
    in_list : {m at : ℕ} {i l : Layout} {f : Refusal} (n : ℕ)
        → Field src 4 (count_to m) at n → RefusesItems src i n (at + 4) f
        → Refuses src (counted m i l) at f
    past_arm : {v t at : ℕ} {l : Layout} {f : Refusal}
        → Refuses src l at f
        → Refuses src (arm v t l) at f
    past_number : {w : ℕ} {r : Rule} {k : ℕ → Layout} {at : ℕ} {f : Refusal} (n : ℕ)
        → Field src w r at n → Refuses src (k n) (at + w) f
        → Refuses src (number w r k) at f
    past_bytes : {n at : ℕ} {l : Layout} {f : Refusal} (xs : List ℕ)
        → length xs ≡ n → Stands src at xs → Refuses src l (at + n) f
        → Refuses src (plain n l) at f
    past_buffer : {w m at : ℕ} {l : Layout} {f : Refusal} (xs : List ℕ)
        → Field src w (length_to m) at (length xs) → Stands src (at + w) xs → Refuses src l (at + w + length xs) f
        → Refuses src (buffer w m l) at f
    past_list : {m at : ℕ} {i l : Layout} {ys : List ℕ} {f : Refusal} (n : ℕ)
        → Field src 4 (count_to m) at n → Stands src (at + 4) ys → Items i n ys → Refuses src l (at + 4 + length ys) f
        → Refuses src (counted m i l) at f

  pub data RefusesItems (src : List ℕ) : Layout → ℕ → ℕ → Refusal → Type 0 where
    in_item : {i : Layout} {n at : ℕ} {f : Refusal} → Refuses src i at f → RefusesItems src i (suc n) at f
    past_item : {i : Layout} {n at : ℕ} {ts : List Token} {xs : List ℕ} {f : Refusal}
        → Stands src at xs → Spells i ts xs → RefusesItems src i n (at + length xs) f
        → RefusesItems src i (suc n) at f

-- RefusesWhole src l at f: why what stands in src from `at` on is not a record of l and nothing more: its first fault, or the bytes that
-- are left where a legal record ends
pub data RefusesWhole (src : List ℕ) (l : Layout) (at : ℕ) (f : Refusal) : Type 0 where
  first_fault : Refuses src l at f → RefusesWhole src l at f
  left_over : (e : ℕ) → Starts l src at e → e < length src → f ≡ trailing e (left src e) → RefusesWhole src l at f

-- HadFew f: Short had fewer bytes than it needs, and any other refusal had none
pub record HadFew (f : Refusal) : Type 0 where
  pub too_few : f.fault ≡ Short → f.had < f.value
  pub none : (f.fault ≡ Short → ⊥) → f.had ≡ 0

-- Had src f: what the refusal f of src says of the bytes that were there. Short had all that are left at its place, and they are too few
pub record Had (src : List ℕ) (f : Refusal) : Type 0 where
  pub all_left : f.fault ≡ Short → f.had ≡ left src f.place
  pub few : HadFew f
