-- The arms of digests, told by their lengths. Assumes nothing.
use Prim.Native.Nat.{ℕ}
use native.Mathlib.Omega.{arith}
use mathlib.Core.Path.{◌≡◌, refl, sym, ap, ◌∙◌}
use mathlib.Core.Bool.{Bool, true, false}
use mathlib.Core.List.{List, [], ◌∷◌}
use lib.Dec.{eqb}
use borrow.Author.Tests.{eq-eqb, ne_eqb, eqb-true, eqb-false}
use Rattle.wire.specs.declared.span.Span.{Span}
use Rattle.wire.specs.Answers.{len_of, span_part}
use Rattle.wire.specs.Layout.{plain, stop}
use Rattle.wire.specs.Records.{span, tag, Ans, Parsed, parsed}
use Rattle.wire.specs.Reading.{also, piece, read}
use Rattle.wire.proofs.Steps.{next_found, parsed_same}
use Rattle.wire.proofs.Search.{Shows, shown, by_whole, chosen, rests}
use Rattle.format.specs.Kinds.{digest_of, tpmu_ha_arm, tpmu_ha_body, tpmu_ha}
use Rattle.codes.specs.declared.DigestLen.{DigestLen}
use Rattle.codes.specs.Codes.{null}
use Rattle.codes.specs.Answers.{digest_choice}
use Rattle.codes.proofs.Digests.{digest_not_empty}
use Rattle.format.proofs.Tables.{digest_body}

-- a digest's arm holds as many bytes as its algorithm has
pub digest_held : {a : DigestLen} {n : ℕ} {z : Ans Parsed} (v : ℕ) (src : List ℕ) (at : ℕ)
    → a ≡ DigestLen.Bytes n → digest_choice a ≡ tpmu_ha_arm v → Shows z (also (tag (digest_of n)) (read (plain n stop) src at)) → Shows z (read (tpmu_ha v) src at)
unfolding tpmu_ha
digest_held {n = n} v src at q p s =
    let arm = ap digest_choice q in
    chosen tpmu_ha_arm tpmu_ha_body (digest_of n) v src at arm p refl (rw (digest_body v (sym p ∙ arm)) s)

-- plain bytes that were read are as many as were asked for
pub plain_length : (n : ℕ) (src : List ℕ) (at : ℕ) {a l e : ℕ} → parsed (span a l ∷ []) e ≡ read (plain n stop) src at → n ≡ l
unfolding read
plain_length n src at p =
    let (xs, e, q) = next_found (piece n src at) _ (sym p) in
    let (parts, stops) = parsed_same q in
    cc

-- so a digest that was read is the arm of its length
pub digest_found : {a : DigestLen} {n e : ℕ} {s : Span} (v : ℕ) (src : List ℕ) (at : ℕ)
    → a ≡ DigestLen.Bytes n → digest_choice a ≡ tpmu_ha_arm v → parsed (span_part s ∷ []) e ≡ read (plain n stop) src at
    → parsed (tag (digest_of (len_of s)) ∷ span_part s ∷ []) e ≡ read (tpmu_ha v) src at
unfolding tpmu_ha
digest_found {n = n} {e} {s} v src at q p h =
    ap (λ l. parsed (tag (digest_of l) ∷ span_part s ∷ []) e) (sym (plain_length n src at h))
    ∙ shown (search (digest_held, by_whole, h, rests))

-- two lengths are equal when their digests' arms are; and no digest's arm is the empty one
pub digest_due : {r l : ℕ} (n : ℕ) → r ≡ l → eqb r n ≡ eqb (digest_of l) (digest_of n)
digest_due {r} {l} n e = rw e (go (eqb l n) refl)
  where
    go : (b : Bool) → eqb l n ≡ b → eqb l n ≡ eqb (digest_of l) (digest_of n)
    go true p = rw (eqb-true l n p, eq-eqb n n refl, eq-eqb (digest_of n) (digest_of n) refl)
    go false p = let other = eqb-false l n p in rw (ne_eqb l n other, ne_eqb (digest_of l) (digest_of n) (λ e. omega arith))

pub digest_missing : (n : ℕ) → false ≡ eqb null (digest_of n)
digest_missing n = sym (ne_eqb null (digest_of n) (λ e. omega arith))

pub digest_not_due : (n : ℕ) → false ≡ eqb (digest_of n) null
digest_not_due n = sym (digest_not_empty n)
