-- A record that is read whole: it is all that stands from its place on. Assumes nothing.
use Prim.Native.Nat.{ℕ, ◌+◌, ◌≤◌}
use native.Mathlib.Omega.{arith}
use mathlib.Core.Path.{◌≡◌, ap, ◌∙◌}
use mathlib.Core.Bool.{false}
use mathlib.Core.List.{List, [], ◌++◌, append-nil}
use lib.ListN.{length}
use lib.Dec.{leb}
use borrow.Author.Tests.{le-leb, leb-true}
use Rattle.faults.specs.declared.Refusal.{Refusal}
use Rattle.faults.specs.Faults.{trailing}
use Rattle.wire.specs.Layout.{Layout}
use Rattle.wire.specs.Records.{found, refused, Parsed, parsed, left}
use Rattle.wire.specs.Reading.{read, nothing_behind, read_whole}
use Rattle.wire.specs.Grammar.{Token, Spells, Stands, placed}
use Rattle.wire.proofs.Stand.{stands_behind}
use Rattle.wire.proofs.Steps.{next_found, found_same, when_found}
use Rattle.wire.proofs.Complete.{read_complete}

-- what is read whole is read, and the input ends there at the latest
pub whole_is_read : (l : Layout) (src : List ℕ) (at : ℕ) {r : Parsed} → read_whole l src at ≡ found r → (read l src at ≡ found r) × (length src ≤ r.stops)
unfolding read_whole nothing_behind
whole_is_read l src at {r} p =
    let (q, e, w) = next_found (read l src at) _ p in
    let (n, h, f) = next_found (nothing_behind src q.stops) _ w in
    let (t, end) = when_found (leb (length src) q.stops) _ _ h in
    let same : q ≡ r = found_same f in
    (e ∙ ap found same, rw (← same) (leb-true (length src) q.stops t))

-- a record with nothing behind it is read whole
pub read_is_whole : (l : Layout) (src : List ℕ) (at : ℕ) {r : Parsed} → read l src at ≡ found r → length src ≤ r.stops → read_whole l src at ≡ found r
unfolding read_whole nothing_behind
read_is_whole l src at {r} p h = rw (p, le-leb (length src) r.stops h)

-- a record with bytes behind it is Trailing, where it ends, and the value is what is left
pub read_is_trailing : (l : Layout) (src : List ℕ) (at : ℕ) {r : Parsed} → read l src at ≡ found r → leb (length src) r.stops ≡ false
    → read_whole l src at ≡ refused (trailing r.stops (left src r.stops))
unfolding read_whole nothing_behind
read_is_trailing l src at {r} p h = rw (p, h)

-- what is refused is refused whole, in the same way
pub refused_is_refused_whole : (l : Layout) (src : List ℕ) (at : ℕ) {f : Refusal} → read l src at ≡ refused f → read_whole l src at ≡ refused f
unfolding read_whole
refused_is_refused_whole l src at p = rw p

-- a spelled record is read whole, behind any bytes
pub spelled_is_whole : {l : Layout} {ts : List Token} {bs : List ℕ} (before : List ℕ) (d : Spells l ts bs)
    → read_whole l (before ++ bs) (length before) ≡ parsed (placed d (length before)) (length before + length bs)
spelled_is_whole {l} {bs = bs} before d =
    let s : Stands (before ++ bs) (length before) bs = rw append-nil at (stands_behind before bs []) in
    read_is_whole l (before ++ bs) (length before) (read_complete d s) (omega (arith, lib.ListN.length-append before bs))
