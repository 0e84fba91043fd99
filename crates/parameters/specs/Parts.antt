-- The parts of parameters, in wire order; of a union the arm that it holds comes first. Assumes nothing.
use Rattle.std.specs.Prelude.{List, [], ◌∷◌, ◌++◌}
use Rattle.wire.specs.Records.{Part, num, tag}
use Rattle.codes.specs.Codes.{rsa, keyed_hash, null, ecc, sym_cipher}
use Rattle.ciphers.specs.Parts.{tpmt_sym_def_parts}
use Rattle.schemes.specs.Parts.{tpmt_kdf_scheme_parts, tpmt_keyedhash_scheme_parts, tpmt_rsa_scheme_parts, tpmt_ecc_scheme_parts}
use Rattle.parameters.specs.declared.tpms.TpmsKeyedhashParms.{TpmsKeyedhashParms}
use Rattle.parameters.specs.declared.tpms.TpmsSymcipherParms.{TpmsSymcipherParms}
use Rattle.parameters.specs.declared.tpms.TpmsRsaParms.{TpmsRsaParms}
use Rattle.parameters.specs.declared.tpms.TpmsEccParms.{TpmsEccParms}
use Rattle.parameters.specs.declared.tpmu.TpmuPublicParms.{TpmuPublicParms}
use Rattle.parameters.specs.declared.tpmt.TpmtPublicParms.{TpmtPublicParms}

-- ---- structures

abbrev pub tpms_keyedhash_parms_parts : TpmsKeyedhashParms → List Part
tpms_keyedhash_parms_parts p = tpmt_keyedhash_scheme_parts p.scheme

abbrev pub tpms_symcipher_parms_parts : TpmsSymcipherParms → List Part
tpms_symcipher_parms_parts p = tpmt_sym_def_parts p.sym

abbrev pub tpms_rsa_parms_parts : TpmsRsaParms → List Part
tpms_rsa_parms_parts p = tpmt_sym_def_parts p.symmetric ++ (tpmt_rsa_scheme_parts p.scheme ++ (num p.key_bits ∷ num p.exponent ∷ []))

abbrev pub tpms_ecc_parms_parts : TpmsEccParms → List Part
tpms_ecc_parms_parts p = tpmt_sym_def_parts p.symmetric ++ (tpmt_ecc_scheme_parts p.scheme ++ (num p.curve_id.0 ∷ tpmt_kdf_scheme_parts p.kdf))

-- ---- unions

abbrev pub tpmu_public_parms_parts : TpmuPublicParms → List Part
tpmu_public_parms_parts (TpmuPublicParms.KeyedHash p) = tag keyed_hash ∷ tpms_keyedhash_parms_parts p
tpmu_public_parms_parts (TpmuPublicParms.SymCipher p) = tag sym_cipher ∷ tpms_symcipher_parms_parts p
tpmu_public_parms_parts (TpmuPublicParms.Rsa p) = tag rsa ∷ tpms_rsa_parms_parts p
tpmu_public_parms_parts (TpmuPublicParms.Ecc p) = tag ecc ∷ tpms_ecc_parms_parts p
tpmu_public_parms_parts TpmuPublicParms.Null = tag null ∷ []

-- ---- kind 9

abbrev pub tpmt_public_parms_parts : TpmtPublicParms → List Part
tpmt_public_parms_parts p = num p.object_type.0 ∷ tpmu_public_parms_parts p.parameters
