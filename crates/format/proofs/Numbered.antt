-- The kinds by their numbers, and numbers that are no kind's. Assumes nothing.
use Prim.Native.Nat.{ℕ, zero, suc, ◌<◌}
use native.Mathlib.Omega.{arith}
use mathlib.Core.Path.{◌≡◌, refl, sym, ap, ◌∙◌}
use mathlib.Core.Bool.{Bool, true, false, ◌&&◌}
use mathlib.Core.List.{List, [], ◌∷◌}
use lib.ListN.{length}
use lib.Dec.{leb, ltb}
use borrow.Author.Tests.{lt-leb, ltb-true}
use Rattle.std.specs.Prelude.{Result, Ok, Err, is_ok}
use Rattle.faults.specs.declared.Refusal.{Refusal}
use Rattle.faults.specs.Faults.{bad_kind}
use Rattle.wire.specs.Records.{Ans, refused, Parsed}
use Rattle.wire.specs.Reading.{read, end_of}
use Rattle.wire.proofs.Search.{known}
use Rattle.format.specs.declared.kind.Kind.{Kind}
use Rattle.format.specs.declared.kind.Kind.TheVariants.{TpmtHa, TpmtSymDef, TpmtKdfScheme, TpmtKeyedhashScheme, TpmtSigScheme, TpmtRsaScheme, TpmtEccScheme, TpmtRsaDecrypt, TpmtPublicParms, TpmtSignature, TpmtPublic, TpmtSensitive, TpmsAttest, TpmlPcrSelection, TpmsCapabilityData, TpmtNvPublic2, TpmtTkCreation, TpmtTkVerified, TpmtTkHashcheck, TpmtTkAuth}
use Rattle.format.specs.Numbers.{number_of, Decodes}
use Rattle.format.specs.Kinds.{kinds, is_kind, layout_of, read_kind}
use Rattle.codes.proofs.Choices.{Unmatched}
pub use borrow.Author.Rules.{rules}

-- the last is 20
pub how_many_kinds : length kinds ≡ 20
unfolding kinds
how_many_kinds = refl

-- 0, and every number past 20, is none
pub outside : (k : ℕ) → (0 < k → 20 < k) → is_kind k ≡ false
outside k h = rw how_many_kinds (go (ltb 0 k) refl)
  where
    go : (b : Bool) → ltb 0 k ≡ b → (b && leb k 20) ≡ false
    go true e = lt-leb k 20 (h (ltb-true 0 k e))
    go false e = refl

-- a number that is a kind's is read as that kind
pub of_kind : (j : ℕ) (src : List ℕ) (at : ℕ) {k : ℕ} → k ≡ j → is_kind j ≡ true → read (layout_of j) src at ≡ read_kind k src at
unfolding read_kind
of_kind j src at e h = rw (e, h)

-- a number that is none is refused
pub no_kind_read : (k : ℕ) (src : List ℕ) (at : ℕ) → is_kind k ≡ false → refused (bad_kind k) ≡ read_kind k src at
unfolding read_kind
no_kind_read k src at h = rw h

pub no_kind : (k : ℕ) (src : List ℕ) (at : ℕ) → is_kind k ≡ false → refused (bad_kind k) ≡ end_of (read_kind k src at)
no_kind k src at h = ap end_of (no_kind_read k src at h)

-- the patterns of a `match` with an arm for each of the numbers from 1 to n, the last one first
abbrev up_to : ℕ → List (List ℕ)
up_to zero = []
up_to (suc n) = (suc n ∷ []) ∷ up_to n

-- what none of them is, is 0 or past n
past_all : (n k : ℕ) → Unmatched (up_to n) k → 0 < k → n < k
past_all zero k u p = p
past_all (suc n) k u p =
    let above = past_all n k u.0 p in
    let other = u.1 in
    omega arith

-- what none of the kinds' numbers is, is no kind
pub none_of : (k : ℕ) → Unmatched (up_to 20) k → is_kind k ≡ false
none_of k u = outside k (past_all 20 k u)

-- ---- for `search`

-- the end of what a reader answered
pub ending : {A : Type 0} (ans : A → Ans Parsed) {a b : A} {z : Ans ℕ} {y : Ans Parsed} → a ≡ b → ans a ≡ y → z ≡ end_of (ans b) → z ≡ end_of y
ending ans q p r = known (λ x. end_of (ans x)) q (ap end_of p) r

-- the number is j, and j's reader answered so
pub as_kind : {j k : ℕ} {z : Ans ℕ} (src : List ℕ) (at : ℕ) → k ≡ j → is_kind j ≡ true → z ≡ end_of (read (layout_of j) src at) → z ≡ end_of (read_kind k src at)
as_kind {j} src at e h p = p ∙ ap end_of (of_kind j src at e h)

-- ---- the kinds of the code

-- each has a number that is a kind's
pub numbered_is_kind : (k : Kind) → is_kind (number_of k) ≡ true
unfolding kinds
numbered_is_kind TpmtHa = refl
numbered_is_kind TpmtSymDef = refl
numbered_is_kind TpmtKdfScheme = refl
numbered_is_kind TpmtKeyedhashScheme = refl
numbered_is_kind TpmtSigScheme = refl
numbered_is_kind TpmtRsaScheme = refl
numbered_is_kind TpmtEccScheme = refl
numbered_is_kind TpmtRsaDecrypt = refl
numbered_is_kind TpmtPublicParms = refl
numbered_is_kind TpmtSignature = refl
numbered_is_kind TpmtPublic = refl
numbered_is_kind TpmtSensitive = refl
numbered_is_kind TpmsAttest = refl
numbered_is_kind TpmlPcrSelection = refl
numbered_is_kind TpmsCapabilityData = refl
numbered_is_kind TpmtNvPublic2 = refl
numbered_is_kind TpmtTkCreation = refl
numbered_is_kind TpmtTkVerified = refl
numbered_is_kind TpmtTkHashcheck = refl
numbered_is_kind TpmtTkAuth = refl

-- and the number that is decoded is one exactly if there is a kind
pub decoded_is_kind : (n : ℕ) (r : Result Kind Refusal) → Decodes n r → is_ok r ≡ is_kind n
decoded_is_kind n (Ok k) e = rw (← e) (sym (numbered_is_kind k))
decoded_is_kind n (Err f) (told, none) = sym none

-- the number of a kind that was decoded is a kind's
pub decoded_kind : (n : ℕ) (k : Kind) → number_of k ≡ n → is_kind n ≡ true
decoded_kind n k e = rw (← e) (numbered_is_kind k)
