-- Every spelled record is read, wherever it stands: to its end, and with parts that show what it shows. Assumes nothing.
use Prim.Native.Nat.{ℕ, ◌+◌, ◌-◌, ◌^◌, ◌≤◌, ◌<◌}
use native.Mathlib.Omega.{arith}
use mathlib.Core.Path.{◌≡◌, refl, ap}
use mathlib.Core.List.{List, [], ◌++◌}
use lib.ListN.{length, length-append}
use borrow.Author.Tests.{le-leb}
use Rattle.wire.specs.Bytes.{Bytes, digits}
use Rattle.wire.specs.Layout.{Layout, length_to, count_to}
use Rattle.wire.specs.Records.{Part, found, Parsed, parsed}
use Rattle.wire.specs.Reading.{Reader, walk, list, read}
use Rattle.wire.specs.Grammar.{Token, Spells, Items, ends, holds, says, shows, sizes, counts, none, more, placed, shown, Stands}
use Rattle.wire.proofs.Digits.{length_digits, bytes_digits}
use Rattle.wire.proofs.Stand.{stands_same, stands_front, stands_back, bytes_append}
use Rattle.wire.proofs.Steps.{piece_of, field_of}

-- the same parts, and the same end
ending : (ps : List Part) {e f : ℕ} → e ≡ f → parsed ps e ≡ parsed ps f
ending ps h = ap (λ e. parsed ps e) h

-- a list whose items are walked over to their end
pub list_of : {src : List ℕ} {at : ℕ} (m : ℕ) (item : Reader Parsed) (n : ℕ) (xs ys : List ℕ) → n < 256 ^ 4 → n ≤ m → xs ≡ digits 4 n ++ ys → Stands src at xs
    → walk item n src (at + 4) ≡ found (at + 4 + length ys) → list m item src at ≡ found (at + length xs)
unfolding list
list_of m item n xs ys h le c s p =
    rw (field_of 4 (count_to m) n h (le-leb n m le) (stands_front (digits 4 n) ys s c), p)
    (ap found (omega (arith, ap length c, length-append (digits 4 n) ys, length_digits 4 n)))

mutual
  unfolding read

  -- the reader finds a spelled record's parts, each where it stands, and ends where the record ends
  pub read_complete : {l : Layout} {ts : List Token} {bs src : List ℕ} {at : ℕ} (d : Spells l ts bs) → Stands src at bs → read l src at ≡ parsed (placed d at) (at + length bs)
  read_complete ends s = ending [] (omega arith)
  read_complete (holds d) s = rw (read_complete d s)
  read_complete (says {w} {r} {cs = cs} n h a e d) s =
      rw (field_of w r n h a (stands_front (digits w n) cs s e), read_complete d (stands_back (digits w n) cs (length_digits w n) s e))
      (ending _ (omega (arith, ap length e, length-append (digits w n) cs, length_digits w n)))
  read_complete (shows {n} {cs = cs} xs h b e d) s =
      rw (piece_of n xs h (stands_front xs cs s e), read_complete d (stands_back xs cs h s e))
      (ending _ (omega (arith, ap length e, length-append xs cs)))
  read_complete (sizes {w} {m} {cs = cs} xs h le b e d) s =
      let ds : List ℕ = digits w (length xs) in
      let t = stands_back ds (xs ++ cs) (length_digits w (length xs)) s e in
      rw (
        field_of w (length_to m) (length xs) h (le-leb (length xs) m le) (stands_front ds (xs ++ cs) s e),
        piece_of (length xs) xs refl (stands_front xs cs t refl),
        read_complete d (stands_back xs cs refl t refl),
      )
      (ending _ (omega (arith, ap length e, length-append ds (xs ++ cs), length-append xs cs, length_digits w (length xs))))
  read_complete {at = at} (counts {m} {i} {xs = xs} {ys} {cs} n h le c is e d) s =
      let t = stands_front xs cs s e in
      let within : at + length xs - at ≡ length xs = omega arith in
      rw (
        list_of m (λ s a. read i s a) n xs ys h le c t (walk_complete is (stands_back (digits 4 n) ys (length_digits 4 n) t c)),
        within,
        read_complete d (stands_back xs cs refl s e),
      )
      (ending _ (omega (arith, ap length e, length-append xs cs)))

  -- and a spelled list's items, one after the other
  pub walk_complete : {i : Layout} {n : ℕ} {bs src : List ℕ} {at : ℕ} (d : Items i n bs) → Stands src at bs → walk (λ s a. read i s a) n src at ≡ found (at + length bs)
  walk_complete none s = ap found (omega arith)
  walk_complete (more {xs = xs} {ys} e d ds) s =
      rw (read_complete d (stands_front xs ys s e), walk_complete ds (stands_back xs ys refl s e))
      (ap found (omega (arith, ap length e, length-append xs ys)))

-- the parts that are found show what the record shows
pub placed_shows : {l : Layout} {ts : List Token} {bs src : List ℕ} {at : ℕ} (d : Spells l ts bs) → Stands src at bs → shown src (placed d at) ≡ ts
placed_shows ends s = refl
placed_shows (holds d) s = rw (placed_shows d s)
placed_shows (says {w} {cs = cs} n h a e d) s = rw (placed_shows d (stands_back (digits w n) cs (length_digits w n) s e))
placed_shows (shows {n} {cs = cs} xs h b e d) s = rw (placed_shows d (stands_back xs cs h s e), stands_same n h (stands_front xs cs s e))
placed_shows (sizes {w} {cs = cs} xs h m b e d) s =
    let t = stands_back (digits w (length xs)) (xs ++ cs) (length_digits w (length xs)) s e in
    rw (placed_shows d (stands_back xs cs refl t refl), stands_same (length xs) refl (stands_front xs cs t refl))
placed_shows (counts {xs = xs} {cs = cs} n h m c is e d) s = rw (placed_shows d (stands_back xs cs refl s e), stands_same (length xs) refl (stands_front xs cs s e))

-- what spells a record is bytes
mutual
  pub spells_bytes : {l : Layout} {ts : List Token} {bs : List ℕ} → Spells l ts bs → Bytes bs
  spells_bytes ends = tt
  spells_bytes (holds d) = spells_bytes d
  spells_bytes (says {w} {cs = cs} n h a e d) = rw e (bytes_append (digits w n) cs (bytes_digits w n) (spells_bytes d))
  spells_bytes (shows {cs = cs} xs h b e d) = rw e (bytes_append xs cs b (spells_bytes d))
  spells_bytes (sizes {w} {cs = cs} xs h m b e d) = rw e (bytes_append (digits w (length xs)) (xs ++ cs) (bytes_digits w (length xs)) (bytes_append xs cs b (spells_bytes d)))
  spells_bytes (counts {ys = ys} {cs = cs} n h m c is e d) = rw (e, c) (bytes_append (digits 4 n ++ ys) cs (bytes_append (digits 4 n) ys (bytes_digits 4 n) (items_bytes is)) (spells_bytes d))

  items_bytes : {i : Layout} {n : ℕ} {bs : List ℕ} → Items i n bs → Bytes bs
  items_bytes none = tt
  items_bytes (more {xs = xs} {ys} e d ds) = rw e (bytes_append xs ys (spells_bytes d) (items_bytes ds))
