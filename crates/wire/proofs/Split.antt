-- A record of a layout behind another is a record of the first and then one of the second; and no bytes spell a missing arm. Assumes nothing.
use Prim.Native.Nat.{ℕ}
use mathlib.Core.Path.{◌≡◌, refl, sym, ap, ◌∙◌}
use mathlib.Core.List.{List, [], ◌∷◌, ◌++◌, append_assoc}
use lib.ListN.{length}
use Rattle.wire.specs.Bytes.{digits}
use Rattle.wire.specs.Layout.{Layout, stop, no_arm, arm, number, plain, buffer, counted, ◌then◌}
use Rattle.wire.specs.Reading.{read}
use Rattle.wire.specs.Grammar.{Token, value, held, bytes, Spells, ends, holds, says, shows, sizes, counts}
use Rattle.wire.proofs.Stand.{stands_behind}
use Rattle.wire.proofs.Steps.{found_refused}
use Rattle.wire.proofs.Complete.{read_complete}

-- no bytes spell an arm that is missing
pub no_arm_no_record : {v : ℕ} {ts : List Token} {bs : List ℕ} → Spells (no_arm v) ts bs → ⊥
unfolding read
no_arm_no_record {bs = bs} d = found_refused (read_complete d (stands_behind [] bs []))

-- a record of l, and one of m behind it
pub record Split (l m : Layout) (ts : List Token) (bs : List ℕ) : Type 0 where
  pub first : List Token
  pub second : List Token
  pub front : List ℕ
  pub back : List ℕ
  pub tokens : ts ≡ first ++ second
  pub bytes : bs ≡ front ++ back
  pub spells_first : Spells l first front
  pub spells_second : Spells m second back

-- a field in front of a split record
field_split : {l l' m : Layout} {ts : List Token} {bs cs : List ℕ} (t : Token) (xs : List ℕ) → bs ≡ xs ++ cs → (x : Split l m ts cs) → Spells l' (t ∷ x.first) (xs ++ x.front)
    → Split l' m (t ∷ ts) bs
field_split t xs e x d =
    record {
      first = t ∷ x.first;
      second = x.second;
      front = xs ++ x.front;
      back = x.back;
      tokens = ap (λ us. t ∷ us) x.tokens;
      bytes = e ∙ ap (λ cs. xs ++ cs) x.bytes ∙ sym (append_assoc xs x.front x.back);
      spells_first = d;
      spells_second = x.spells_second;
    }

-- what spells `l then m` is a record of l with one of m behind it
pub spells_split : (l m : Layout) {ts : List Token} {bs : List ℕ} → Spells (l then m) ts bs → Split l m ts bs
unfolding ◌then◌
spells_split stop m {ts} {bs} d = record { first = []; second = ts; front = []; back = bs; tokens = refl; bytes = refl; spells_first = ends; spells_second = d }
spells_split (no_arm v) m d = absurd (no_arm_no_record d)
spells_split (arm v t l) m (holds d) = let x = spells_split l m d in field_split (held t) [] refl x (holds x.spells_first)
spells_split (number w r k) m (says n h a e d) = let x = spells_split (k n) m d in field_split (value n) (digits w n) e x (says n h a refl x.spells_first)
spells_split (plain n l) m (shows xs h b e d) = let x = spells_split l m d in field_split (bytes xs) xs e x (shows xs h b refl x.spells_first)
spells_split (buffer w b l) m (sizes {cs = cs} xs h le y e d) =
    let x = spells_split l m d in
    field_split (bytes xs) (digits w (length xs) ++ xs) (e ∙ sym (append_assoc (digits w (length xs)) xs cs)) x
    (sizes xs h le y (append_assoc (digits w (length xs)) xs x.front) x.spells_first)
spells_split (counted b i l) m (counts {xs = xs} n h le c is e d) = let x = spells_split l m d in field_split (bytes xs) xs e x (counts n h le c is refl x.spells_first)
