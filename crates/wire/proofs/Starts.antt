-- What is handed out stands where it is said to start: `start_at` and `item_start` name a place where the bytes of the field, or of the
-- item, are found in the source. Assumes nothing.
use Prim.Native.Nat.{ℕ, zero, suc, ◌+◌, ◌-◌}
use mathlib.Core.Path.{◌≡◌, refl, sym, ap, ◌∙◌, subst}
use mathlib.Core.List.{List, [], ◌∷◌, ◌++◌, append_assoc}
use lib.ListN.{length, take, drop, take-append-drop}
use lib.Seq.{drop-drop}
use native.Mathlib.Omega.{arith}
use lib.Dec.{eqb}
use Rattle.wire.specs.Bytes.{be}
use Rattle.wire.specs.Layout.{Layout}
use Rattle.wire.specs.Records.{Part, num, tag, span, found, next, Parsed}
use Rattle.wire.specs.Reading.{Reader, walk, list, read}
use Rattle.wire.specs.Grammar.{Stands}
use Rattle.wire.specs.Writing.{whole}
use Rattle.wire.specs.Fields.{pick_field, field_of}
use Rattle.wire.specs.Items.{pick_item, item_of}
use Rattle.wire.specs.Places.{start_at, item_start}
use Rattle.wire.proofs.Steps.{found_refused, found_same, next_found, when_found}
use Rattle.wire.proofs.Written.{cut_found}

-- a byte field
picked_stands : (ps : List Part) (i asked : ℕ) (src : List ℕ) {xs : List ℕ} → pick_field ps i asked src ≡ found xs → Stands src (start_at ps i src) xs
picked_stands [] i asked src p = absurd (found_refused p)
picked_stands (num n ∷ ps) i asked src p = picked_stands ps i asked src p
picked_stands (tag t ∷ ps) i asked src p = picked_stands ps i asked src p
picked_stands (span start len ∷ ps) zero asked src p = rw p (cut_found src start len 0 p).1
picked_stands (span start len ∷ ps) (suc i) asked src p = picked_stands ps i asked src p

pub field_stands : (ps : List Part) (i : ℕ) (src : List ℕ) {xs : List ℕ} → field_of ps i src ≡ found xs → Stands src (start_at ps i src) xs
unfolding field_of
field_stands ps i src p = picked_stands ps i i src p

-- what stands in a part of the source stands in the source
further_on : (b : ℕ) (ys more xs rest : List ℕ) → drop b ys ≡ xs ++ rest → (left : List ℕ) × (drop b (ys ++ more) ≡ xs ++ left)
further_on zero ys more xs rest p = (rest ++ more, rw (p, append_assoc))
further_on (suc b) [] more xs rest p = (drop (suc b) more, by xs p)
  where
    by : (xs : List ℕ) → [] ≡ xs ++ rest → drop (suc b) more ≡ xs ++ drop (suc b) more
    by [] p = refl
    by (x ∷ xs) p = let z : ◌≡◌ {A = ℕ} 0 1 = cc in absurd (omega arith)
further_on (suc b) (y ∷ ys) more xs rest p = further_on b ys more xs rest p

stands_in_part : {src ys xs : List ℕ} {a b : ℕ} → Stands src a ys → Stands ys b xs → Stands src (a + b) xs
stands_in_part {src} {ys} {xs} {a} {b} p q =
    let (left, e) = further_on b ys p.rest xs q.rest q.begins in
    record { rest = left; begins = sym (drop-drop b a src) ∙ ap (λ l. drop b l) p.begins ∙ e }

-- an item, in its list: behind the items ahead of it
item_in_list : (item : Reader Parsed) (n i asked : ℕ) (ys : List ℕ) (at : ℕ) {xs : List ℕ} → pick_item item n i asked ys at ≡ found xs → (start : ℕ) × (walk item i ys at ≡ found start) × Stands ys start xs
item_in_list item zero i asked ys at p = absurd (found_refused p)
item_in_list item (suc n) zero asked ys at {xs} p =
    let (r, q, e) = next_found (item ys at) _ p in
    (at, refl, record { rest = drop (r.stops - at) (drop at ys); begins = sym (take-append-drop (r.stops - at) (drop at ys)) ∙ ap (λ l. l ++ drop (r.stops - at) (drop at ys)) (found_same e) })
item_in_list item (suc n) (suc i) asked ys at p =
    let (r, q, e) = next_found (item ys at) _ p in
    let (start, w, s) = item_in_list item n i asked ys r.stops e in
    (start, ap (λ a. next a (λ r. walk item i ys r.stops)) q ∙ w, s)

-- a list that is legal is judged as it stands
same_bytes : (m : ℕ) (item : Layout) (ys : List ℕ) {zs : List ℕ} → whole m item ys ≡ found zs → zs ≡ ys
unfolding whole
same_bytes m item ys p =
    let (e, f, g) = next_found (list m (read item) ys 0) _ p in
    sym (found_same (when_found (eqb e (length ys)) _ _ g).1)

start_of_item : (m : ℕ) (item : Layout) (lists : List Part) (i : ℕ) (src ys : List ℕ) (start : ℕ) {xs : List ℕ} → item_of m item lists i src ≡ found xs → pick_field lists 0 i src ≡ found ys
    → walk (λ s a. read item s a) i ys 4 ≡ found start → start_at lists 0 src + start ≡ item_start m item lists i src
unfolding item_start
start_of_item m item lists i src ys start p q w = rw (p, q, w)

pub item_stands : (m : ℕ) (item : Layout) (lists : List Part) (i : ℕ) (src : List ℕ) {xs : List ℕ} → item_of m item lists i src ≡ found xs → Stands src (item_start m item lists i src) xs
unfolding item_of
item_stands m item lists i src {xs} p =
    let (ys, q, rest) = next_found (pick_field lists 0 i src) _ p in
    let (zs, legal, picks) = next_found (whole m item ys) _ rest in
    let same = same_bytes m item ys legal in
    let (start, w, s) = item_in_list (λ s a. read item s a) (be (take 4 zs)) i i zs 4 picks in
    let walked = subst (λ l. walk (λ s a. read item s a) i l 4 ≡ found start) same w in
    subst (λ n. Stands src n xs) (start_of_item m item lists i src ys start p q walked)
    (stands_in_part (picked_stands lists 0 i src q) (subst (λ l. Stands l start xs) same s))
