-- The byte fields of a record are the bytes tokens that it shows, in the same order: both lists skip numbers and arms alike, and a span
-- that lies in the source is cut out of it as it is shown. Assumes nothing.
use Prim.Native.Nat.{ℕ, zero, suc, ◌≤◌}
use native.Mathlib.Omega.{arith}
use mathlib.Core.Path.{◌≡◌, refl, ap, ◌∙◌}
use mathlib.Core.List.{List, [], ◌∷◌}
use lib.ListN.{length}
use Rattle.faults.specs.Faults.{no_field}
use Rattle.wire.specs.Bytes.{Bytes}
use Rattle.wire.specs.Layout.{Layout}
use Rattle.wire.specs.Records.{Part, num, tag, span, refused, parsed}
use Rattle.wire.specs.Within.{Within}
use Rattle.wire.specs.Reading.{read}
use Rattle.wire.specs.Grammar.{Token, Spells, Stands, Starts, shown, placed}
use Rattle.wire.specs.Fields.{pick_field, field_of, bytes_shown, pick, bytes_token}
use Rattle.wire.proofs.Complete.{placed_shows}
use Rattle.wire.proofs.Prefix.{accepted_is_legal}
use Rattle.wire.proofs.Cuts.{cut_there}
use Rattle.wire.proofs.Places.{legal_record_lies_within}

-- of some byte strings there is none from their number on
pub pick_none : (xss : List (List ℕ)) (i asked : ℕ) → length xss ≤ i → pick xss i asked ≡ refused (no_field asked)
pick_none [] i asked h = refl
pick_none (xs ∷ xss) zero asked h = absurd (omega arith)
pick_none (xs ∷ xss) (suc i) asked h = pick_none xss i asked (omega arith)

picked_as_shown : (src : List ℕ) (ps : List Part) → Within src ps → (i asked : ℕ) → pick_field ps i asked src ≡ pick (bytes_shown (shown src ps)) i asked
picked_as_shown src [] h i asked = refl
picked_as_shown src (num n ∷ ps) h i asked = picked_as_shown src ps h i asked
picked_as_shown src (tag t ∷ ps) h i asked = picked_as_shown src ps h i asked
picked_as_shown src (span start len ∷ ps) h zero asked = cut_there src start len 0 h.0
picked_as_shown src (span start len ∷ ps) h (suc i) asked = picked_as_shown src ps h.1 i asked

-- of parts whose spans lie in the source, the byte field with any index is the bytes token with that index among what they show
pub field_is_the_bytes_token : (src : List ℕ) (ps : List Part) → Within src ps → (i : ℕ) → field_of ps i src ≡ bytes_token (shown src ps) i
unfolding field_of
field_is_the_bytes_token src ps h i = picked_as_shown src ps h i i

-- so it is of a legal record, wherever it stands in the source
pub legal_records_field_is_its_bytes_token : {l : Layout} {ts : List Token} {bs src : List ℕ} {at : ℕ} (d : Spells l ts bs) → at ≤ length src → Stands src at bs
    → (i : ℕ) → field_of (placed d at) i src ≡ bytes_token ts i
legal_records_field_is_its_bytes_token {src = src} {at} d inside s i =
    field_is_the_bytes_token src (placed d at) (legal_record_lies_within d inside s) i ∙ ap (λ ts. bytes_token ts i) (placed_shows d s)

-- and of a record that was read: its byte fields are the bytes tokens of the legal record that starts there
pub read_records_field_is_its_bytes_token : (l : Layout) (src : List ℕ) (at : ℕ) {ps : List Part} {e : ℕ} → Bytes src → at ≤ length src → read l src at ≡ parsed ps e
    → (d : Starts l src at e) × (ps ≡ placed d.spells at) × ((i : ℕ) → field_of ps i src ≡ bytes_token d.tokens i)
read_records_field_is_its_bytes_token l src at b inside p =
    let (d, same, showing) = accepted_is_legal l src at b p in
    (d, same, λ i. ap (λ qs. field_of qs i src) same ∙ legal_records_field_is_its_bytes_token d.spells inside d.stands i)
