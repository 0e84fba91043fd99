-- What a record shows says all of it but where its spans start: it gives each number, each arm and each span's length. And a record that
-- was read lies in its source, since each of its spans is cut out of bytes that stand there. Assumes nothing.
use Prim.Native.Nat.{ℕ, ◌+◌, ◌≤◌, ◌<◌}
use native.Mathlib.Omega.{arith}
use mathlib.Core.Path.{◌≡◌, refl, sym, ap, ◌∙◌}
use mathlib.Core.List.{List, [], ◌∷◌, ◌++◌}
use lib.ListN.{length, take, drop}
use Rattle.wire.specs.Bytes.{Bytes, digits}
use Rattle.wire.specs.Layout.{Layout}
use Rattle.wire.specs.Records.{Part, num, tag, span, found, parsed}
use Rattle.wire.specs.Within.{Within, unplaced}
use Rattle.wire.specs.Reading.{read}
use Rattle.wire.specs.Grammar.{Token, value, held, bytes, Spells, ends, holds, says, shows, sizes, counts, Stands, Starts, shown, placed}
use Rattle.wire.specs.Writing.{lay}
use Rattle.wire.specs.Fields.{bytes_shown}
use Rattle.wire.proofs.Digits.{length_digits}
use Rattle.wire.proofs.Stand.{stands_left, stands_end, stands_front, stands_back}
use Rattle.wire.proofs.Complete.{read_complete, placed_shows}
use Rattle.wire.proofs.Prefix.{accepted_is_legal}
use Rattle.wire.proofs.Written.{lay_sound}
use Rattle.wire.proofs.Cuts.{cut_length}

-- ---- what is shown, and places

-- the parts that show these tokens, with every span at the start 0
abbrev parts_of : List Token → List Part
parts_of [] = []
parts_of (value n ∷ ts) = num n ∷ parts_of ts
parts_of (held t ∷ ts) = tag t ∷ parts_of ts
parts_of (bytes xs ∷ ts) = span 0 (length xs) ∷ parts_of ts

unplaced_by_shown : (s : List ℕ) (ps : List Part) → Within s ps → unplaced ps ≡ parts_of (shown s ps)
unplaced_by_shown s [] h = refl
unplaced_by_shown s (num n ∷ ps) h = rw (unplaced_by_shown s ps h)
unplaced_by_shown s (tag t ∷ ps) h = rw (unplaced_by_shown s ps h)
unplaced_by_shown s (span start len ∷ ps) h = rw (cut_length s start len 0 h.0, unplaced_by_shown s ps h.1)

-- parts that show the same are equal but for where their spans start, if all spans lie in their sources
pub shown_is_equal_but_for_places : (s s' : List ℕ) (ps qs : List Part) → Within s ps → Within s' qs → shown s ps ≡ shown s' qs → unplaced ps ≡ unplaced qs
shown_is_equal_but_for_places s s' ps qs h h' e = unplaced_by_shown s ps h ∙ ap parts_of e ∙ sym (unplaced_by_shown s' qs h')

-- what parts show, with these bytes for their spans
abbrev showing : List Part → List (List ℕ) → List Token
showing [] bss = []
showing (num n ∷ ps) bss = value n ∷ showing ps bss
showing (tag t ∷ ps) bss = held t ∷ showing ps bss
showing (span start len ∷ ps) [] = []
showing (span start len ∷ ps) (xs ∷ bss) = bytes xs ∷ showing ps bss

shown_by_unplaced : (s : List ℕ) (ps : List Part) → shown s ps ≡ showing (unplaced ps) (bytes_shown (shown s ps))
shown_by_unplaced s [] = refl
shown_by_unplaced s (num n ∷ ps) = ap (λ ts. value n ∷ ts) (shown_by_unplaced s ps)
shown_by_unplaced s (tag t ∷ ps) = ap (λ ts. held t ∷ ts) (shown_by_unplaced s ps)
shown_by_unplaced s (span start len ∷ ps) = ap (λ ts. bytes (take len (drop start s)) ∷ ts) (shown_by_unplaced s ps)

-- and back: parts that are equal but for places, and whose spans show the same bytes in wire order, show the same
pub equal_but_for_places_is_shown : (s s' : List ℕ) (ps qs : List Part) → unplaced ps ≡ unplaced qs → bytes_shown (shown s ps) ≡ bytes_shown (shown s' qs) → shown s ps ≡ shown s' qs
equal_but_for_places_is_shown s s' ps qs e f =
    shown_by_unplaced s ps ∙ ap (λ us. showing us (bytes_shown (shown s ps))) e ∙ ap (λ bss. showing (unplaced qs) bss) f ∙ sym (shown_by_unplaced s' qs)

-- ---- a record that stands in a source lies in it

-- the parts of a legal record lie in the source that it stands in, if it starts there and not past the end
pub legal_record_lies_within : {l : Layout} {ts : List Token} {bs src : List ℕ} {at : ℕ} (d : Spells l ts bs) → at ≤ length src → Stands src at bs → Within src (placed d at)
legal_record_lies_within ends i s = tt
legal_record_lies_within (holds d) i s = legal_record_lies_within d i s
legal_record_lies_within (says {w} {cs = cs} n h a e d) i s =
    let j = stands_end w (length_digits w n) i (stands_front (digits w n) cs s e) in
    legal_record_lies_within d j (stands_back (digits w n) cs (length_digits w n) s e)
legal_record_lies_within (shows {n} {cs = cs} xs h b e d) i s =
    let j = stands_end n h i (stands_front xs cs s e) in
    (j, legal_record_lies_within d j (stands_back xs cs h s e))
legal_record_lies_within (sizes {w} {cs = cs} xs h m b e d) i s =
    let ds : List ℕ = digits w (length xs) in
    let t = stands_back ds (xs ++ cs) (length_digits w (length xs)) s e in
    let j = stands_end w (length_digits w (length xs)) i (stands_front ds (xs ++ cs) s e) in
    let k = stands_end (length xs) refl j (stands_front xs cs t refl) in
    (k, legal_record_lies_within d k (stands_back xs cs refl t refl))
legal_record_lies_within (counts {xs = xs} {cs = cs} n h m c is e d) i s =
    let j = stands_end (length xs) refl i (stands_front xs cs s e) in
    (j, legal_record_lies_within d j (stands_back xs cs refl s e))

-- a record that has a byte starts before the source ends
pub record_with_a_byte_starts_inside : {l : Layout} {src : List ℕ} {at e : ℕ} → Starts l src at e → at < e → at ≤ length src
record_with_a_byte_starts_inside d h = omega (arith, d.ends, stands_left d.stands)

-- the parts of a record that was read lie in the source, if it was looked for there and not past the end. (Past the end a record without
-- a byte is read, where the layout has one: its spans are empty, and start where it was looked for)
pub read_record_lies_within : (l : Layout) (src : List ℕ) (at : ℕ) {ps : List Part} {e : ℕ} → Bytes src → at ≤ length src → read l src at ≡ parsed ps e → Within src ps
read_record_lies_within l src at b i p =
    let (d, same, showing) = accepted_is_legal l src at b p in
    rw same (legal_record_lies_within d.spells i d.stands)

-- ---- a record that was written and is read back

-- what the writer lays out of parts that lie in their source is read back, wherever it stands, with parts that show the same and are
-- equal but for where their spans start
pub written_record_reads_back_but_for_places : (l : Layout) (ps : List Part) (src : List ℕ) (at : ℕ) {bs : List ℕ} → Bytes src → Within src ps → lay l ps src at ≡ found bs
    → (input : List ℕ) (start : ℕ) → start ≤ length input → Stands input start bs
    → (qs : List Part) × (read l input start ≡ parsed qs (start + length bs)) × (shown input qs ≡ shown src ps) × (unplaced qs ≡ unplaced ps)
written_record_reads_back_but_for_places l ps src at b within p input start inside s =
    let d = lay_sound l ps src at _ b p in
    let same = placed_shows d s in
    (placed d start, read_complete d s, same, shown_is_equal_but_for_places input src (placed d start) ps (legal_record_lies_within d inside s) within same)
