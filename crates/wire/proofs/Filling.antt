-- What is put into a slice: the digits of a number, the last one first; bytes, the first one first; and the answer to it. Assumes nothing.
use Prim.Native.Nat.{ℕ, zero, suc, ◌+◌, ◌-◌, ◌≤◌, ◌<◌}
use native.Mathlib.Nat.{add-zero, add-suc}
use native.Mathlib.Numerals.{add-one}
use native.Mathlib.Omega.{arith}
use mathlib.Core.Path.{◌≡◌, refl, ap, ◌∙◌}
use mathlib.Core.Bool.{true, false}
use mathlib.Core.List.{List, [], ◌∷◌, ◌++◌, append_assoc}
use lib.ListN.{length, take, drop, get_or, set, length-set}
use lib.Seq.{take-suc, take-length, set_at, length-take-le, paste, paste-zero, paste-suc}
use lib.Dec.{leb}
use borrow.Author.Tests.{le-leb, lt-leb}
use Rattle.faults.specs.Faults.{no_room}
use Rattle.wire.specs.Records.{found, refused}
use Rattle.wire.specs.Filling.{written, filled}

-- ---- a number, by any way to spell numbers in digits

-- of the w digits of n those from the j-th on are put; the j digits of m are left
pub record Filling (spell : ℕ → ℕ → List ℕ) (old : List ℕ) (at w n : ℕ) (out : List ℕ) (m j : ℕ) : Type 0 where
  pub most : j ≤ w
  pub same : length out ≡ length old
  pub tail : List ℕ
  pub whole : spell w n ≡ spell j m ++ tail
  pub held : out ≡ take (at + j) old ++ (tail ++ drop (at + w) old)

module _ {spell : ℕ → ℕ → List ℕ} where
  module _ {m rest : ℕ} (x : ℕ) (last : (k : ℕ) → spell (suc k) m ≡ spell k rest ++ (x ∷ [])) where
    more : (old : List ℕ) (at w n : ℕ) (out : List ℕ) (k : ℕ) → at + w ≤ length old → Filling spell old at w n out m (suc k)
        → Filling spell old at w n (set out (at + k) x) rest k
    more old at w n out k h f =
        let behind = f.tail ++ drop (at + w) old in
        let fits : at + k < length old = omega (arith, f.most) in
        let front : take (at + suc k) old ++ behind ≡ take (at + k) old ++ (get_or old (at + k) 0 ∷ behind) =
        rw (add-suc at k, take-suc old (at + k) 0 fits) (append_assoc (take (at + k) old) (get_or old (at + k) 0 ∷ []) behind) in
        record {
          most = omega (arith, f.most);
          same = length-set out (at + k) x ∙ f.same;
          tail = x ∷ f.tail;
          whole = f.whole ∙ ap (λ l. l ++ f.tail) (last k) ∙ append_assoc (spell k rest) (x ∷ []) f.tail;
          held = ap (λ l. set l (at + k) x) (f.held ∙ front) ∙ set_at (take (at + k) old) (get_or old (at + k) 0) behind x (at + k) (length-take-le (at + k) old (omega arith));
        }

    -- x is the last digit of m, and rest is m without it
    pub filling_more : {old : List ℕ} {at w n : ℕ} {out : List ℕ} (j : ℕ) → at + w ≤ length old → 0 < j → Filling spell old at w n out m j
        → Filling spell old at w n (set out (at + (j - 1)) x) rest (j - 1)
    filling_more zero h p f = absurd (omega arith)
    filling_more {old} {at} {w} {n} {out} (suc k) h p f =
        let e : suc k - 1 ≡ k = omega arith in
        rw e (more old at w n out k h f)

  pub filling_all : {old : List ℕ} {at w n : ℕ} {out : List ℕ} {m : ℕ} (j : ℕ) → spell 0 m ≡ [] → j ≤ 0 → Filling spell old at w n out m j
      → out ≡ take at old ++ (spell w n ++ drop (at + w) old)
  filling_all {old} {at} {w} zero none h f = rw (f.whole, none) (rw add-zero at f.held)
  filling_all (suc j) none h f = absurd (omega arith)

-- ---- bytes

-- of the bytes xs the first i are put
pub record Copied (old : List ℕ) (at : ℕ) (xs out : List ℕ) (i : ℕ) : Type 0 where
  pub most : i ≤ length xs
  pub same : length out ≡ length old
  pub held : out ≡ paste old at xs i

pub copied_none : (old : List ℕ) (at : ℕ) (xs : List ℕ) → Copied old at xs old 0
copied_none old at xs = record { most = omega arith; same = refl; held = paste-zero old at xs }

pub copied_more : {old : List ℕ} {at : ℕ} {xs out : List ℕ} {i : ℕ} → i < length xs → length xs ≤ length old - at → Copied old at xs out i
    → Copied old at xs (set out (at + i) (get_or xs i 0)) (i + 1)
copied_more {old} {at} {xs} {out} {i} h room f =
    record {
      most = omega arith;
      same = length-set out (at + i) (get_or xs i 0) ∙ f.same;
      held = rw (add-one, f.held) (paste-suc old at xs i 0 (omega arith) h);
    }

pub copied_all : {old : List ℕ} {at : ℕ} {xs out : List ℕ} {i : ℕ} → length xs ≤ i → Copied old at xs out i
    → out ≡ take at old ++ (xs ++ drop (at + length xs) old)
copied_all {old} {at} {xs} {out} {i} h f =
    let all : i ≡ length xs = omega (arith, f.most) in
    f.held ∙ rw (all, take-length xs) (append_assoc (take at old) xs (drop (at + length xs) old))

-- ---- the answer

module _ (at : ℕ) (bs old : List ℕ) where
  -- bytes that fit are put
  pub fits_put : {n : ℕ} {last : List ℕ} → n ≡ length bs → n ≤ length old - at → last ≡ take at old ++ (bs ++ drop (at + n) old)
      → (found n ≡ written at (found bs) old) × (last ≡ filled at (found bs) old)
  fits_put {n} e h q =
      let t : leb (length bs) (length old - at) ≡ true = le-leb (length bs) (length old - at) (omega arith) in
      let place : at + n ≡ length bs + at = omega arith in
      (rw (t, e), rw (t, ← place) q)

  -- and bytes that do not are not
  pub fits_not : {n : ℕ} → n ≡ length bs → length old - at < n → (refused (no_room at n) ≡ written at (found bs) old) × (old ≡ filled at (found bs) old)
  fits_not {n} e h =
      let t : leb (length bs) (length old - at) ≡ false = lt-leb (length bs) (length old - at) (omega arith) in
      (rw (t, e), rw t)
