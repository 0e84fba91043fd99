-- What the code's own codes, and the lengths of digests, mean. Assumes nothing.
use Rattle.std.specs.Prelude.{ℕ, List, [], ◌∷◌, Option, Some, None}
use Rattle.wire.specs.Records.{Part, num}
use Rattle.codes.specs.declared.TpmAlgId.{TpmAlgId}
use Rattle.codes.specs.declared.TpmEccCurve.{TpmEccCurve}
use Rattle.codes.specs.declared.TpmSt.{TpmSt}
use Rattle.codes.specs.declared.TpmCap.{TpmCap}
use Rattle.codes.specs.declared.TpmHt.{TpmHt}
use Rattle.codes.specs.declared.TpmRh.{TpmRh}
use Rattle.codes.specs.declared.DigestLen.{DigestLen}
use Rattle.codes.specs.Codes.{null}
use Rattle.codes.specs.Digests.{digest_of}

-- a record keeps a code's number
abbrev pub tpm_alg_id_parts : TpmAlgId → List Part
tpm_alg_id_parts a = num a.0 ∷ []

abbrev pub tpm_ecc_curve_parts : TpmEccCurve → List Part
tpm_ecc_curve_parts c = num c.0 ∷ []

abbrev pub tpm_st_parts : TpmSt → List Part
tpm_st_parts t = num t.0 ∷ []

abbrev pub tpm_cap_parts : TpmCap → List Part
tpm_cap_parts c = num c.0 ∷ []

abbrev pub tpm_ht_parts : TpmHt → List Part
tpm_ht_parts t = num t.0 ∷ []

abbrev pub tpm_rh_parts : TpmRh → List Part
tpm_rh_parts h = num h.0 ∷ []

-- a digest's length as the arm of its union; the empty digest is Null's arm
abbrev pub digest_choice : DigestLen → Option ℕ
digest_choice (DigestLen.Bytes n) = Some (digest_of n)
digest_choice DigestLen.Empty = Some null
digest_choice DigestLen.Nothing = None
