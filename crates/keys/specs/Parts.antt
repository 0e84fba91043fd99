-- The parts of a public area, in wire order; of a union the arm that it holds comes first. Assumes nothing.
use Rattle.std.specs.Prelude.{List, [], ◌∷◌, ◌++◌}
use Rattle.wire.specs.Answers.{span_part}
use Rattle.wire.specs.Records.{Part, num, tag}
use Rattle.codes.specs.Codes.{rsa, keyed_hash, null, ecc, sym_cipher}
use Rattle.parameters.specs.Parts.{tpmu_public_parms_parts}
use Rattle.keys.specs.declared.tpms.TpmsEccPoint.{TpmsEccPoint}
use Rattle.keys.specs.declared.tpmu.TpmuPublicId.{TpmuPublicId}
use Rattle.keys.specs.declared.tpmt.TpmtPublic.{TpmtPublic}

-- ---- structures

abbrev pub tpms_ecc_point_parts : TpmsEccPoint → List Part
tpms_ecc_point_parts p = span_part p.x ∷ span_part p.y ∷ []

-- ---- unions

abbrev pub tpmu_public_id_parts : TpmuPublicId → List Part
tpmu_public_id_parts (TpmuPublicId.KeyedHash s) = tag keyed_hash ∷ span_part s ∷ []
tpmu_public_id_parts (TpmuPublicId.SymCipher s) = tag sym_cipher ∷ span_part s ∷ []
tpmu_public_id_parts (TpmuPublicId.Rsa s) = tag rsa ∷ span_part s ∷ []
tpmu_public_id_parts (TpmuPublicId.Ecc p) = tag ecc ∷ tpms_ecc_point_parts p
tpmu_public_id_parts TpmuPublicId.Null = tag null ∷ []

-- ---- kind 11

abbrev pub tpmt_public_parts : TpmtPublic → List Part
tpmt_public_parts p =
    num p.object_type.0 ∷ num p.name_alg.0 ∷ num p.object_attributes.0 ∷ span_part p.auth_policy
    ∷ (tpmu_public_parms_parts p.parameters ++ tpmu_public_id_parts p.unique)
