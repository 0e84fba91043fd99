-- The part that a record keeps of a list shows a legal list, if the record is legal: the grammar has the list's own bytes for a token.
-- Assumes nothing.
use Prim.Native.Nat.{ℕ, ◌<◌}
use native.Mathlib.Omega.{arith}
use mathlib.Core.Path.{◌≡◌, refl, ap}
use mathlib.Core.List.{List, ◌∷◌, ◌++◌}
use lib.ListN.{length, length-append}
use Rattle.wire.specs.Bytes.{Bytes, digits}
use Rattle.wire.specs.Layout.{Layout}
use Rattle.wire.specs.Records.{Part, num, tag, span, parsed}
use Rattle.wire.specs.Within.{Within}
use Rattle.wire.specs.Reading.{read}
use Rattle.wire.specs.Grammar.{Token, bytes, Spells, holds, says, shows, sizes, counts, token, shown}
use Rattle.wire.specs.Unwritten.{IsList}
use Rattle.wire.specs.Items.{ShowsList, ListPart, here, past_arm, past_number, past_plain, past_buffer, past_list}
use Rattle.wire.proofs.Digits.{length_digits}
use Rattle.wire.proofs.Steps.{clash}
use Rattle.wire.proofs.Prefix.{accepted_is_legal}
use Rattle.wire.proofs.Places.{record_with_a_byte_starts_inside, read_record_lies_within}

module _ (src : List ℕ) where
  shows_the_list : {m : ℕ} {item : Layout} {xs : List ℕ} (p : Part) (ps : List Part) → token src p ≡ bytes xs → Within src (p ∷ ps) → IsList m item xs → ShowsList src m item p
  shows_the_list (num n) ps e h x = absurd (clash (cc))
  shows_the_list (tag t) ps e h x = absurd (clash (cc))
  shows_the_list {xs = xs} (span a n) ps e h x = record { start = a; len = n; place = refl; list = xs; shows = record { within = h.0; shows = cc }; legal = x }

  rest_within : (q : Part) (ps : List Part) → Within src (q ∷ ps) → Within src ps
  rest_within (num n) ps h = h
  rest_within (tag t) ps h = h
  rest_within (span start len) ps h = h.1

  first_shown : {t u : Token} {ts us : List Token} → t ∷ ts ≡ u ∷ us → t ≡ u
  first_shown e = cc

  rest_shown : {t u : Token} {ts us : List Token} → t ∷ ts ≡ u ∷ us → ts ≡ us
  rest_shown e = cc

  -- of parts that lie in the source and show a legal record, those of its lists show legal lists
  pub list_part_shows_a_legal_list : {m : ℕ} {item : Layout} {p : Part} {l : Layout} {ps : List Part} {ts : List Token} {bs : List ℕ}
      → ListPart m item p l ps → Spells l ts bs → shown src ps ≡ ts → Within src ps → ShowsList src m item p
  list_part_shows_a_legal_list {p = p} (here {ps = ps}) (counts {ys = ys} n fits most c is e d) same h =
      shows_the_list p ps (first_shown same) h (record { count = n; fits = fits; most = most; items = ys; whole = c; spells = is })
  list_part_shows_a_legal_list (past_arm {q = q} {ps} x) (holds d) same h = list_part_shows_a_legal_list x d (rest_shown same) (rest_within q ps h)
  list_part_shows_a_legal_list (past_number {n = n} {k = k} x) (says {ts = ts} {cs = cs} n' fits a e d) same h =
      let number : n' ≡ n = cc in
      let d' : Spells (k n) ts cs = rw number at d in
      list_part_shows_a_legal_list x d' (rest_shown same) h
  list_part_shows_a_legal_list (past_plain {q = q} {ps} x) (shows xs size b e d) same h = list_part_shows_a_legal_list x d (rest_shown same) (rest_within q ps h)
  list_part_shows_a_legal_list (past_buffer {q = q} {ps} x) (sizes xs fits most b e d) same h = list_part_shows_a_legal_list x d (rest_shown same) (rest_within q ps h)
  list_part_shows_a_legal_list (past_list {q = q} {ps} x) (counts n fits most c is e d) same h = list_part_shows_a_legal_list x d (rest_shown same) (rest_within q ps h)

  -- a legal record with a list has a byte: those of its count
  list_has_a_byte : {m : ℕ} {item : Layout} {p : Part} {l : Layout} {ps : List Part} {ts : List Token} {bs : List ℕ}
      → ListPart m item p l ps → Spells l ts bs → shown src ps ≡ ts → 0 < length bs
  list_has_a_byte here (counts {xs = xs} {ys} {cs} n fits most c is e d) same =
      omega (arith, ap length e, ap length c, length-append xs cs, length-append (digits 4 n) ys, length_digits 4 n)
  list_has_a_byte (past_arm x) (holds d) same = list_has_a_byte x d (rest_shown same)
  list_has_a_byte (past_number {n = n} {k = k} x) (says {w} {ts = ts} {cs = cs} n' fits a e d) same =
      let number : n' ≡ n = cc in
      let d' : Spells (k n) ts cs = rw number at d in
      omega (arith, ap length e, length-append (digits w n') cs, list_has_a_byte x d' (rest_shown same))
  list_has_a_byte (past_plain x) (shows {cs = cs} xs size b e d) same = omega (arith, ap length e, length-append xs cs, list_has_a_byte x d (rest_shown same))
  list_has_a_byte (past_buffer x) (sizes {w} {cs = cs} xs fits most b e d) same =
      omega (arith, ap length e, length-append (digits w (length xs)) (xs ++ cs), length-append xs cs, list_has_a_byte x d (rest_shown same))
  list_has_a_byte (past_list x) (counts {xs = xs} {cs = cs} n fits most c is e d) same = omega (arith, ap length e, length-append xs cs, list_has_a_byte x d (rest_shown same))

  -- so it is of a record that was read
  pub read_records_list_is_legal : (l : Layout) (at : ℕ) {m e : ℕ} {item : Layout} {p : Part} {ps : List Part} → Bytes src → read l src at ≡ parsed ps e
      → ListPart m item p l ps → ShowsList src m item p
  read_records_list_is_legal l at {e = e} b there x =
      let (d, same, showing) = accepted_is_legal l src at b there in
      let some = list_has_a_byte x d.spells showing in
      let inside = record_with_a_byte_starts_inside d (omega (arith, d.ends)) in
      list_part_shows_a_legal_list x d.spells showing (read_record_lies_within l src at b inside there)
