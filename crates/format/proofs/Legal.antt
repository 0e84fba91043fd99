-- What is read by a kind's number, in the grammar's words: a record is read exactly where a legal one of the kind starts, and a refusal
-- says why none does. Assumes nothing.
use Prim.Native.Nat.{ℕ, zero, suc, ◌≤◌}
use native.Mathlib.Omega.{arith}
use mathlib.Core.Path.{◌≡◌, refl, sym, ap, ◌∙◌}
use mathlib.Core.Bool.{Bool, true, false, cond}
use mathlib.Core.List.{List}
use lib.ListN.{length, get_or-eq_default}
use lib.Dec.{leb}
use borrow.Author.Tests.{lt-ltb, leb-false}
use Rattle.faults.specs.declared.Refusal.{Refusal}
use Rattle.faults.specs.Faults.{bad_kind}
use Rattle.wire.specs.Bytes.{Bytes}
use Rattle.wire.specs.Layout.{no_arm}
use Rattle.wire.specs.Records.{Ans, found, refused, Parsed, parsed}
use Rattle.wire.specs.Reading.{read}
use Rattle.wire.specs.Grammar.{Token, Spells, Starts, placed}
use Rattle.wire.specs.Refusals.{Had}
use Rattle.wire.proofs.Steps.{refused_same, when_found}
use Rattle.wire.proofs.Split.{no_arm_no_record}
use Rattle.wire.proofs.Sound.{read_sound}
use Rattle.wire.proofs.Prefix.{starts_read}
use Rattle.wire.proofs.Refused.{refuses_read, read_refuses}
use Rattle.wire.proofs.Had.{other, other_had, Tells, either_tells, refused_tells, refused_says_what_it_had}
use Rattle.format.specs.Kinds.{kinds, is_kind, layout_of, read_kind}
use Rattle.format.specs.Refused.{RefusesKind, no_kind, in_record}
use Rattle.format.proofs.Numbered.{of_kind, no_kind_read}

-- ---- only kinds have records

-- a number that is no kind's has the layout that no bytes spell
none_layout : (k : ℕ) → is_kind k ≡ false → layout_of k ≡ no_arm 0
unfolding layout_of
none_layout zero h = refl
none_layout (suc k) h =
    let past : leb (suc k) (length kinds) ≡ false = rw (lt-ltb 0 (suc k) (omega arith)) at h in
    let most : length kinds ≤ k = omega (arith, leb-false (suc k) (length kinds) past) in
    get_or-eq_default kinds (no_arm 0) most

-- so the number of a legal record is a kind's
pub spelled_is_kind : (k : ℕ) {ts : List Token} {bs : List ℕ} → Spells (layout_of k) ts bs → is_kind k ≡ true
spelled_is_kind k d = by (is_kind k) refl
  where
    by : (b : Bool) → is_kind k ≡ b → b ≡ true
    by true e = refl
    by false e = absurd (no_arm_no_record (rw (none_layout k e) at d))

-- ---- a record is read where a legal one starts, and only there

pub legal_is_read_by_number : (k : ℕ) {src : List ℕ} {at e : ℕ} (d : Starts (layout_of k) src at e) → read_kind k src at ≡ parsed (placed d.spells at) e
legal_is_read_by_number k {src} {at} d = sym (of_kind k src at refl (spelled_is_kind k d.spells)) ∙ starts_read d

pub read_by_number_is_legal : (k : ℕ) (src : List ℕ) (at : ℕ) {r : Parsed} → Bytes src → read_kind k src at ≡ found r → Starts (layout_of k) src at r.stops
unfolding read_kind
read_by_number_is_legal k src at {r} b p = read_sound (layout_of k) src at r b (when_found (is_kind k) _ _ p).1

-- ---- a refusal says why none starts, and what says why none starts is answered

pub refusal_by_number_is_first : (k : ℕ) (src : List ℕ) (at : ℕ) {f : Refusal} → Bytes src → read_kind k src at ≡ refused f → RefusesKind k src at f
refusal_by_number_is_first k src at {f} b p = by (is_kind k) refl
  where
    by : (t : Bool) → is_kind k ≡ t → RefusesKind k src at f
    by true e = in_record e (read_refuses (layout_of k) src at f b (of_kind k src at refl e ∙ p))
    by false e = no_kind e (refused_same (sym p ∙ sym (no_kind_read k src at e)))

-- that there is no such kind is not for want of bytes: what the refusal of a kind's record says of them is said by the kind's number
pub kind_tells : {A : Type 0} (k : ℕ) (src : List ℕ) (a : Ans A) → Tells (Had src) a → Tells (Had src) (cond (is_kind k) a (refused (bad_kind k)))
kind_tells k src a h = either_tells (Had src) (is_kind k) a (refused (bad_kind k)) h (refused_tells (Had src) (bad_kind k) (other_had (other 10 refl refl)))

pub refused_by_number_says_what_it_had : (k : ℕ) (src : List ℕ) (at : ℕ) (f : Refusal) → read_kind k src at ≡ refused f → Had src f
unfolding read_kind
refused_by_number_says_what_it_had k src at = kind_tells k src (read (layout_of k) src at) (refused_says_what_it_had (layout_of k) src at)

pub first_is_refusal_by_number : (k : ℕ) {src : List ℕ} {at : ℕ} {f : Refusal} → RefusesKind k src at f → read_kind k src at ≡ refused f
first_is_refusal_by_number k {src} {at} (no_kind e same) = sym (no_kind_read k src at e) ∙ ap refused (sym same)
first_is_refusal_by_number k {src} {at} (in_record e d) = sym (of_kind k src at refl e) ∙ refuses_read d
