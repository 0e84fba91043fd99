-- The items of a legal list, by index, are the records that its bytes are spelled of: the reader ends each where the next one starts.
-- Assumes nothing.
use Prim.Native.Nat.{ℕ, zero, suc, ◌+◌, ◌-◌, ◌≤◌, ◌<◌}
use native.Mathlib.Nat.{zero-add}
use native.Mathlib.Omega.{arith}
use mathlib.Core.Path.{◌≡◌, refl, sym, ap, ◌∙◌}
use mathlib.Core.List.{List, [], ◌∷◌, ◌++◌, append-nil}
use lib.ListN.{length, take}
use lib.Seq.{take_at}
use Rattle.faults.specs.Faults.{no_field}
use Rattle.wire.specs.Bytes.{be, digits}
use Rattle.wire.specs.Layout.{Layout}
use Rattle.wire.specs.Records.{Part, found, refused, parsed}
use Rattle.wire.specs.Reading.{read}
use Rattle.wire.specs.Grammar.{Token, Spells, Items, none, more, Stands, placed}
use Rattle.wire.specs.Writing.{cut}
use Rattle.wire.specs.Fields.{part_of, pick}
use Rattle.wire.specs.Unwritten.{Spans, IsList}
use Rattle.wire.specs.Items.{pick_item, item_of, item_bytes, joined, ShowsList}
use Rattle.wire.proofs.Digits.{length_digits, be_digits}
use Rattle.wire.proofs.Stand.{stands_same, stands_start, stands_front, stands_back}
use Rattle.wire.proofs.Complete.{read_complete}
use Rattle.wire.proofs.Written.{whole_of}
use Rattle.wire.proofs.Cuts.{cut_there}
use Rattle.wire.proofs.FieldsSpelled.{pick_none}

-- ---- the items that some bytes are spelled of

-- a list has as many items as its count says
pub item_count_lem : {item : Layout} {n : ℕ} {ys : List ℕ} (d : Items item n ys) → length (item_bytes d) ≡ n
item_count_lem none = refl
item_count_lem (more e d ds) = ap suc (item_count_lem ds)

-- each is a legal record of the item's layout
pub item_is_spelled : {item : Layout} {n : ℕ} {ys : List ℕ} (d : Items item n ys) (i asked : ℕ) → i < n
    → (zs : List ℕ) × (ts : List Token) × (pick (item_bytes d) i asked ≡ found zs) × Spells item ts zs
item_is_spelled none i asked h = absurd (omega arith)
item_is_spelled (more {ts = ts} {xs = xs} e d ds) zero asked h = (xs, ts, refl, d)
item_is_spelled (more e d ds) (suc i) asked h = item_is_spelled ds i asked (omega arith)

-- and from the count on there is none
no_item_from_the_count_on : {item : Layout} {n : ℕ} {ys : List ℕ} (d : Items item n ys) (i asked : ℕ) → n ≤ i → pick (item_bytes d) i asked ≡ refused (no_field asked)
no_item_from_the_count_on d i asked h = pick_none (item_bytes d) i asked (omega (arith, item_count_lem d))

-- one behind the other they are all the bytes
picks_join : {item : Layout} {n : ℕ} {ys : List ℕ} (d : Items item n ys) (asked : ℕ → ℕ) → joined (λ i. part_of (pick (item_bytes d) i (asked i))) n ≡ ys
picks_join none asked = refl
picks_join (more {xs = xs} e d ds) asked = ap (λ t. xs ++ t) (picks_join ds (λ i. asked (suc i))) ∙ sym e

joined_alike : (f g : ℕ → List ℕ) (n : ℕ) → ((i : ℕ) → f i ≡ g i) → joined f n ≡ joined g n
joined_alike f g zero h = refl
joined_alike f g (suc n) h = rw (h zero, joined_alike (λ i. f (suc i)) (λ i. g (suc i)) n (λ i. h (suc i)))

-- where these bytes stand, the reader picks them, item by item
picked_as_spelled : {item : Layout} {n at : ℕ} {ys src : List ℕ} (d : Items item n ys) → Stands src at ys → (i asked : ℕ)
    → pick_item (λ s a. read item s a) n i asked src at ≡ pick (item_bytes d) i asked
picked_as_spelled none s i asked = refl
picked_as_spelled {at = at} (more {xs = xs} {ys} e d ds) s zero asked =
    let t = stands_front xs ys s e in
    let size : at + length xs - at ≡ length xs = omega arith in
    rw (read_complete d t, size, stands_same (length xs) refl t)
picked_as_spelled (more {xs = xs} {ys} e d ds) s (suc i) asked =
    rw (read_complete d (stands_front xs ys s e)) (picked_as_spelled ds (stands_back xs ys refl s e) i asked)

-- a legal record that is all the bytes is read to their end
pub spelled_is_read_to_its_end : {l : Layout} {ts : List Token} {zs : List ℕ} (d : Spells l ts zs) → read l zs 0 ≡ parsed (placed d 0) (length zs)
spelled_is_read_to_its_end {zs = zs} d =
    let s : Stands zs 0 zs = rw append-nil at (stands_start zs []) in
    read_complete d s ∙ ap (λ n. parsed (placed d 0) n) (zero-add (length zs))

-- ---- the items of a list that a record keeps

-- the count of a legal list
count_is : {m : ℕ} {item : Layout} {xs : List ℕ} (x : IsList m item xs) → be (take 4 xs) ≡ x.count
count_is x = rw (x.whole, take_at (digits 4 x.count) x.items 4 (length_digits 4 x.count), be_digits 4 x.count x.fits)

-- from the fourth byte on stand its items
items_stand : {m : ℕ} {item : Layout} {xs : List ℕ} (x : IsList m item xs) → Stands xs 4 x.items
items_stand {xs = xs} x =
    let s : Stands xs 0 xs = rw append-nil at (stands_start xs []) in
    stands_back (digits 4 x.count) x.items (length_digits 4 x.count) s x.whole

spans_cut : {src xs : List ℕ} {start len : ℕ} → Spans src start len xs → cut src start len 0 ≡ found xs
spans_cut {src} {start = start} {len} x = cut_there src start len 0 x.within ∙ ap found x.shows

module _ {src : List ℕ} {m : ℕ} {item : Layout} {p : Part} (x : ShowsList src m item p) where
  -- the item with any index is the one with that index among the records that the list is spelled of
  pub item_is_the_one_spelled : (i : ℕ) → item_of m item (p ∷ []) i src ≡ pick (item_bytes x.legal.spells) i i
  unfolding item_of
  item_is_the_one_spelled i =
      let list = x.legal in
      rw (x.place, spans_cut x.shows, whole_of m x.list list.fits list.most list.whole list.spells, count_is list)
      (picked_as_spelled list.spells (items_stand list) i i)

  -- below the count there is an item: a legal record of the item's layout, which that layout's reader reads to its end
  pub item_of_a_legal_list_is_legal : (i : ℕ) → i < x.legal.count
      → (zs : List ℕ) × (ts : List Token) × (d : Spells item ts zs) × (item_of m item (p ∷ []) i src ≡ found zs) × (read item zs 0 ≡ parsed (placed d 0) (length zs))
  item_of_a_legal_list_is_legal i h =
      let (zs, ts, there, d) = item_is_spelled x.legal.spells i i h in
      (zs, ts, d, item_is_the_one_spelled i ∙ there, spelled_is_read_to_its_end d)

  -- from the count on there is none
  pub from_the_count_on_no_item : (i : ℕ) → x.legal.count ≤ i → item_of m item (p ∷ []) i src ≡ refused (no_field i)
  from_the_count_on_no_item i h = item_is_the_one_spelled i ∙ no_item_from_the_count_on x.legal.spells i i h

  -- one behind the other, they are the list after its count
  pub items_joined_are_the_list : joined (λ i. part_of (item_of m item (p ∷ []) i src)) x.legal.count ≡ x.legal.items
  items_joined_are_the_list =
      joined_alike (λ i. part_of (item_of m item (p ∷ []) i src)) (λ i. part_of (pick (item_bytes x.legal.spells) i i)) x.legal.count (λ i. ap part_of (item_is_the_one_spelled i))
      ∙ picks_join x.legal.spells (λ i. i)
