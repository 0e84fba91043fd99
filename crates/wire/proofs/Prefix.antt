-- The reader refuses exactly where no spelled record stands; no record begins another one; what a record shows has one spelling.
-- Assumes nothing.
use Prim.Native.Nat.{ℕ}
use native.Mathlib.Omega.{arith}
use mathlib.Core.Path.{◌≡◌, refl, sym, ap, ◌∙◌}
use mathlib.Core.List.{List, [], ◌++◌, append-nil}
use lib.ListN.{length, length-append}
use Rattle.std.proofs.lemmas.List.{nil_from_length}
use Rattle.faults.specs.declared.Refusal.{Refusal}
use Rattle.wire.specs.Bytes.{Bytes, digits}
use Rattle.wire.specs.Layout.{Layout}
use Rattle.wire.specs.Records.{Part, Ans, found, refused, Parsed, parsed}
use Rattle.wire.specs.Reading.{read}
use Rattle.wire.specs.Grammar.{Token, Spells, ends, holds, says, shows, sizes, counts, Stands, Starts, placed, shown}
use Rattle.wire.proofs.Stand.{stands_start}
use Rattle.wire.proofs.Steps.{found_refused, parsed_same}
use Rattle.wire.proofs.Complete.{read_complete, placed_shows}
use Rattle.wire.proofs.Sound.{read_sound}

-- where a spelled record stands, the reader finds it, to its end
pub starts_read : {l : Layout} {at e : ℕ} {src : List ℕ} (d : Starts l src at e) → read l src at ≡ parsed (placed d.spells at) e
starts_read {l} {at} d = rw d.ends (read_complete d.spells d.stands)

-- an accepted record, its parts and its end are those of a legal record that starts there
pub accepted_is_legal : (l : Layout) (src : List ℕ) (at : ℕ) {ps : List Part} {e : ℕ} → Bytes src → read l src at ≡ parsed ps e
    → (d : Starts l src at e) × (ps ≡ placed d.spells at) × (shown src ps ≡ d.tokens)
accepted_is_legal l src at {ps} {e} b p =
    let d = read_sound l src at (record { parts = ps; stops = e }) b p in
    let same = (parsed_same (sym p ∙ starts_read d)).0 in
    (d, same, ap (λ qs. shown src qs) same ∙ placed_shows d.spells d.stands)

-- so it refuses nothing that is spelled
pub refused_none : {l : Layout} {at e : ℕ} {src : List ℕ} {f : Refusal} → read l src at ≡ refused f → Starts l src at e → ⊥
refused_none p d = found_refused (sym p ∙ starts_read d)

-- and everything else
pub none_refused : (l : Layout) (src : List ℕ) (at : ℕ) → Bytes src → ((e : ℕ) → Starts l src at e → ⊥) → (f : Refusal) × (read l src at ≡ refused f)
none_refused l src at b none = go (read l src at) refl
  where
    go : (a : Ans Parsed) → read l src at ≡ a → (f : Refusal) × (read l src at ≡ refused f)
    go (found r) p = absurd (none r.stops (read_sound l src at r b p))
    go (refused f) p = (f, p)

-- no record goes on where another of its layout ends, and the same bytes show the same
pub prefix_free : {l : Layout} {ts us : List Token} {bs : List ℕ} (more : List ℕ) → Spells l ts bs → Spells l us (bs ++ more) → (more ≡ []) × (ts ≡ us)
prefix_free {l} {ts} {us} {bs} more d e =
    let s = stands_start bs more in
    let t : Stands (bs ++ more) 0 (bs ++ more) = rw append-nil at (stands_start (bs ++ more) []) in
    let (parts, stops) = parsed_same (sym (read_complete d s) ∙ read_complete e t) in
    (nil_from_length more (omega (arith, length-append bs more)), sym (placed_shows d s) ∙ ap (λ ps. shown (bs ++ more) ps) parts ∙ placed_shows e t)

-- so no bytes are two records
pub same_bytes_same_record : {l : Layout} {ts us : List Token} {bs : List ℕ} → Spells l ts bs → Spells l us bs → ts ≡ us
same_bytes_same_record {us = us} {bs = bs} d e = (prefix_free {us = us} [] d (rw append-nil e)).1

-- what a record shows has one spelling: of two that show the same
spelled_alike : {l : Layout} {ts us : List Token} {bs cs : List ℕ} → Spells l ts bs → Spells l us cs → ts ≡ us → bs ≡ cs
spelled_alike ends ends same = refl
spelled_alike (holds d) (holds e) same = spelled_alike d e (cc)
spelled_alike (says {w} {k = k} {ts = ts} {cs = cs} n h a p d) (says {cs = ds} n' h' a' q e) same =
    let number : n ≡ n' = cc in
    let d' : Spells (k n') ts cs = rw number at d in
    p ∙ ap (λ m. digits w m ++ cs) number ∙ ap (λ t. digits w n' ++ t) (spelled_alike d' e (cc)) ∙ sym q
spelled_alike (shows {cs = cs} xs h b p d) (shows xs' h' b' q e) same =
    let bytes : xs ≡ xs' = cc in
    p ∙ ap (λ t. t ++ cs) bytes ∙ ap (λ t. xs' ++ t) (spelled_alike d e (cc)) ∙ sym q
spelled_alike (sizes {w} {cs = cs} xs h m b p d) (sizes xs' h' m' b' q e) same =
    let bytes : xs ≡ xs' = cc in
    p ∙ ap (λ t. digits w (length t) ++ (t ++ cs)) bytes ∙ ap (λ t. digits w (length xs') ++ (xs' ++ t)) (spelled_alike d e (cc)) ∙ sym q
spelled_alike (counts {xs = xs} {cs = cs} n h m c is p d) (counts {xs = xs'} n' h' m' c' is' q e) same =
    let bytes : xs ≡ xs' = cc in
    p ∙ ap (λ t. t ++ cs) bytes ∙ ap (λ t. xs' ++ t) (spelled_alike d e (cc)) ∙ sym q

pub one_spelling : {l : Layout} {ts : List Token} {bs cs : List ℕ} → Spells l ts bs → Spells l ts cs → bs ≡ cs
one_spelling d e = spelled_alike d e refl
