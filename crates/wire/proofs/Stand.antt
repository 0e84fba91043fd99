-- Bytes that stand in the input: their parts, and two that stand side by side. Assumes nothing.
use Prim.Native.Nat.{ℕ, zero, suc, ◌+◌, ◌≤◌, ◌<◌}
use native.Mathlib.Omega.{arith}
use mathlib.Core.Path.{◌≡◌, refl, sym, ap, ◌∙◌}
use mathlib.Core.List.{List, [], ◌∷◌, ◌++◌, append_assoc}
use lib.ListN.{length, get_or, take, drop, length-append, length-drop, take-append-drop}
use lib.Seq.{drop-append-le, take_at, drop_at, drop-drop, length-take-le}
use Rattle.wire.specs.Bytes.{Bytes}
use Rattle.wire.specs.Records.{left}
use Rattle.wire.specs.Grammar.{Stands}

-- ---- lists of bytes, in parts

pub bytes_drop : (n : ℕ) (s : List ℕ) → Bytes s → Bytes (drop n s)
bytes_drop zero s b = b
bytes_drop (suc n) [] b = b
bytes_drop (suc n) (x ∷ s) b = bytes_drop n s b.1

pub bytes_append : (xs ys : List ℕ) → Bytes xs → Bytes ys → Bytes (xs ++ ys)
bytes_append [] ys a b = b
bytes_append (x ∷ xs) ys a b = (a.0, bytes_append xs ys a.1 b)

pub bytes_front : (xs ys : List ℕ) → Bytes (xs ++ ys) → Bytes xs
bytes_front [] ys b = tt
bytes_front (x ∷ xs) ys b = (b.0, bytes_front xs ys b.1)

-- a list whose elements are below 256, one by one, as Rattle knows it of a slice
pub bytes_of : (s : List ℕ) → ((i : ℕ) → get_or s i 0 < 256) → Bytes s
bytes_of [] h = tt
bytes_of (x ∷ s) h = (h 0, bytes_of s (λ i. h (suc i)))

-- ---- bytes that stand in the input

-- they are the bytes that stand there
pub stands_same : {src xs : List ℕ} {at : ℕ} (n : ℕ) → length xs ≡ n → Stands src at xs → take n (drop at src) ≡ xs
stands_same {src} {xs} {at} n h s = ap (λ l. take n l) s.begins ∙ take_at xs s.rest n h

-- and no more than are left there
pub stands_left : {src xs : List ℕ} {at : ℕ} → Stands src at xs → length xs ≤ left src at
stands_left {src} {xs} {at} s = omega (arith, ap length s.begins, length-append xs s.rest, length-drop at src)

-- from a place in the input they end in the input
pub stands_end : {src xs : List ℕ} {at : ℕ} (n : ℕ) → length xs ≡ n → at ≤ length src → Stands src at xs → at + n ≤ length src
stands_end n e h s = omega (arith, stands_left s)

-- n bytes that are left from `at` on stand there
pub stands_of : (src : List ℕ) (at n : ℕ) (xs : List ℕ) → n ≤ left src at → take n (drop at src) ≡ xs → (length xs ≡ n) × Stands src at xs
stands_of src at n xs h e =
    let size : length xs ≡ n = rw (← e) (length-take-le n (drop at src) (omega (arith, length-drop at src))) in
    (size, record { rest = drop n (drop at src); begins = rw (← e) (sym (take-append-drop n (drop at src))) })

-- and with more bytes behind the input they stand there still
pub stands_longer : {src xs : List ℕ} {at : ℕ} (more : List ℕ) → Stands src at xs → Stands (src ++ more) at xs
stands_longer {src} {xs = []} {at} more s = record { rest = drop at (src ++ more); begins = refl }
stands_longer {src} {xs = x ∷ xs} {at} more s =
    let h : at ≤ length src = omega (arith, stands_left s) in
    record { rest = s.rest ++ more; begins = drop-append-le at src more h ∙ ap (λ l. l ++ more) s.begins ∙ append_assoc (x ∷ xs) s.rest more }

-- what stands in a list of bytes is bytes
pub stands_bytes : {src xs : List ℕ} {at : ℕ} → Bytes src → Stands src at xs → Bytes xs
stands_bytes {src} {xs} {at} b s = bytes_front xs s.rest (rw s.begins at (bytes_drop at src b))

-- nothing stands everywhere
pub stands_none : (src : List ℕ) (at : ℕ) → Stands src at []
stands_none src at = record { rest = drop at src; begins = refl }

-- what stands behind other bytes stands where those end
pub stands_behind : (before bs rest : List ℕ) → Stands (before ++ (bs ++ rest)) (length before) bs
stands_behind before bs rest = record { rest = rest; begins = drop_at before (bs ++ rest) (length before) refl }

-- what stands at the front stands there
pub stands_start : (bs rest : List ℕ) → Stands (bs ++ rest) 0 bs
stands_start bs rest = record { rest = rest; begins = refl }

-- the first part of what stands there
pub stands_front : {src bs : List ℕ} {at : ℕ} (xs cs : List ℕ) → Stands src at bs → bs ≡ xs ++ cs → Stands src at xs
stands_front xs cs s e = record { rest = cs ++ s.rest; begins = s.begins ∙ ap (λ l. l ++ s.rest) e ∙ append_assoc xs cs s.rest }

-- and the second
pub stands_back : {src bs : List ℕ} {at n : ℕ} (xs cs : List ℕ) → length xs ≡ n → Stands src at bs → bs ≡ xs ++ cs → Stands src (at + n) cs
stands_back {src} {bs} {at} {n} xs cs h s e =
    record {
      rest = s.rest;
      begins =
          sym (drop-drop n at src)
          ∙ ap (λ l. drop n l) (s.begins ∙ ap (λ l. l ++ s.rest) e ∙ append_assoc xs cs s.rest)
          ∙ drop_at xs (cs ++ s.rest) n h;
    }

-- two that stand side by side stand there together
pub stands_join : {src : List ℕ} {at n : ℕ} (xs ys : List ℕ) → length xs ≡ n → Stands src at xs → Stands src (at + n) ys → Stands src at (xs ++ ys)
stands_join {src} {at} {n} xs ys h s t =
    let behind : s.rest ≡ ys ++ t.rest = sym (drop_at xs s.rest n h) ∙ ap (λ l. drop n l) (sym s.begins) ∙ drop-drop n at src ∙ t.begins in
    record { rest = t.rest; begins = s.begins ∙ ap (λ l. xs ++ l) behind ∙ sym (append_assoc xs ys t.rest) }
