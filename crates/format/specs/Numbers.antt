-- The kinds by their numbers. Assumes nothing.
use Rattle.std.specs.Prelude.{◌≡◌, ℕ, false, Result, MatchResult}
use Rattle.faults.specs.declared.Refusal.{Refusal}
use Rattle.faults.specs.Faults.{bad_kind}
use Rattle.format.specs.declared.kind.Kind.{Kind}
use Rattle.format.specs.declared.kind.Kind.TheVariants.{TpmtHa, TpmtSymDef, TpmtKdfScheme, TpmtKeyedhashScheme, TpmtSigScheme, TpmtRsaScheme, TpmtEccScheme, TpmtRsaDecrypt, TpmtPublicParms, TpmtSignature, TpmtPublic, TpmtSensitive, TpmsAttest, TpmlPcrSelection, TpmsCapabilityData, TpmtNvPublic2, TpmtTkCreation, TpmtTkVerified, TpmtTkHashcheck, TpmtTkAuth}
use Rattle.format.specs.Kinds.{is_kind}

-- the number of a kind
abbrev pub number_of : Kind → ℕ
number_of TpmtHa = 1
number_of TpmtSymDef = 2
number_of TpmtKdfScheme = 3
number_of TpmtKeyedhashScheme = 4
number_of TpmtSigScheme = 5
number_of TpmtRsaScheme = 6
number_of TpmtEccScheme = 7
number_of TpmtRsaDecrypt = 8
number_of TpmtPublicParms = 9
number_of TpmtSignature = 10
number_of TpmtPublic = 11
number_of TpmtSensitive = 12
number_of TpmsAttest = 13
number_of TpmlPcrSelection = 14
number_of TpmsCapabilityData = 15
number_of TpmtNvPublic2 = 16
number_of TpmtTkCreation = 17
number_of TpmtTkVerified = 18
number_of TpmtTkHashcheck = 19
number_of TpmtTkAuth = 20

-- the answer is the kind of that number; or BadKind, and there is none
abbrev pub Decodes : (number : ℕ) → Result Kind Refusal → Type 0
Decodes n r = MatchResult r (λ k. number_of k ≡ n) (λ f. (f ≡ bad_kind n) × (is_kind n ≡ false))
