-- The parts of schemes, in wire order; of a union the arm that it holds comes first. Assumes nothing.
use Rattle.std.specs.Prelude.{List, [], ◌∷◌}
use Rattle.wire.specs.Records.{Part, num, tag}
use Rattle.codes.specs.Codes.{hmac, mgf1, xor, null, ecdaa, kdf1_sp800_56a, kdf2, kdf1_sp800_108}
use Rattle.format.specs.Kinds.{hash}
use Rattle.schemes.specs.declared.tpms.TpmsSchemeHash.{TpmsSchemeHash}
use Rattle.schemes.specs.declared.tpms.TpmsSchemeEcdaa.{TpmsSchemeEcdaa}
use Rattle.schemes.specs.declared.tpms.TpmsSchemeXor.{TpmsSchemeXor}
use Rattle.schemes.specs.declared.tpmu.TpmuAsymScheme.{TpmuAsymScheme}
use Rattle.schemes.specs.declared.tpmu.TpmuSigScheme.{TpmuSigScheme}
use Rattle.schemes.specs.declared.tpmu.TpmuKeyedhashScheme.{TpmuKeyedhashScheme}
use Rattle.schemes.specs.declared.tpmu.TpmuKdfScheme.{TpmuKdfScheme}
use Rattle.schemes.specs.declared.tpmt.TpmtKdfScheme.{TpmtKdfScheme}
use Rattle.schemes.specs.declared.tpmt.TpmtKeyedhashScheme.{TpmtKeyedhashScheme}
use Rattle.schemes.specs.declared.tpmt.TpmtSigScheme.{TpmtSigScheme}
use Rattle.schemes.specs.declared.tpmt.TpmtRsaScheme.{TpmtRsaScheme}
use Rattle.schemes.specs.declared.tpmt.TpmtEccScheme.{TpmtEccScheme}
use Rattle.schemes.specs.declared.tpmt.TpmtRsaDecrypt.{TpmtRsaDecrypt}

-- ---- structures that schemes hold

abbrev pub tpms_scheme_hash_parts : TpmsSchemeHash → List Part
tpms_scheme_hash_parts h = num h.hash_alg.0 ∷ []

abbrev pub tpms_scheme_ecdaa_parts : TpmsSchemeEcdaa → List Part
tpms_scheme_ecdaa_parts x = num x.hash_alg.0 ∷ num x.count ∷ []

abbrev pub tpms_scheme_xor_parts : TpmsSchemeXor → List Part
tpms_scheme_xor_parts x = num x.hash_alg.0 ∷ num x.kdf.0 ∷ []

-- ---- unions

abbrev pub tpmu_asym_scheme_parts : TpmuAsymScheme → List Part
tpmu_asym_scheme_parts (TpmuAsymScheme.Hash h) = tag hash ∷ tpms_scheme_hash_parts h
tpmu_asym_scheme_parts (TpmuAsymScheme.Ecdaa x) = tag ecdaa ∷ tpms_scheme_ecdaa_parts x
tpmu_asym_scheme_parts TpmuAsymScheme.Null = tag null ∷ []

abbrev pub tpmu_sig_scheme_parts : TpmuSigScheme → List Part
tpmu_sig_scheme_parts (TpmuSigScheme.Hash h) = tag hash ∷ tpms_scheme_hash_parts h
tpmu_sig_scheme_parts (TpmuSigScheme.Hmac h) = tag hmac ∷ tpms_scheme_hash_parts h
tpmu_sig_scheme_parts (TpmuSigScheme.Ecdaa x) = tag ecdaa ∷ tpms_scheme_ecdaa_parts x
tpmu_sig_scheme_parts TpmuSigScheme.Null = tag null ∷ []

abbrev pub tpmu_keyedhash_scheme_parts : TpmuKeyedhashScheme → List Part
tpmu_keyedhash_scheme_parts (TpmuKeyedhashScheme.Hmac h) = tag hmac ∷ tpms_scheme_hash_parts h
tpmu_keyedhash_scheme_parts (TpmuKeyedhashScheme.Xor x) = tag xor ∷ tpms_scheme_xor_parts x
tpmu_keyedhash_scheme_parts TpmuKeyedhashScheme.Null = tag null ∷ []

abbrev pub tpmu_kdf_scheme_parts : TpmuKdfScheme → List Part
tpmu_kdf_scheme_parts (TpmuKdfScheme.Mgf1 h) = tag mgf1 ∷ tpms_scheme_hash_parts h
tpmu_kdf_scheme_parts (TpmuKdfScheme.Kdf1Sp800_56a h) = tag kdf1_sp800_56a ∷ tpms_scheme_hash_parts h
tpmu_kdf_scheme_parts (TpmuKdfScheme.Kdf2 h) = tag kdf2 ∷ tpms_scheme_hash_parts h
tpmu_kdf_scheme_parts (TpmuKdfScheme.Kdf1Sp800_108 h) = tag kdf1_sp800_108 ∷ tpms_scheme_hash_parts h
tpmu_kdf_scheme_parts TpmuKdfScheme.Null = tag null ∷ []

-- ---- kinds 3 to 8

abbrev pub tpmt_kdf_scheme_parts : TpmtKdfScheme → List Part
tpmt_kdf_scheme_parts s = num s.scheme.0 ∷ tpmu_kdf_scheme_parts s.details

abbrev pub tpmt_keyedhash_scheme_parts : TpmtKeyedhashScheme → List Part
tpmt_keyedhash_scheme_parts s = num s.scheme.0 ∷ tpmu_keyedhash_scheme_parts s.details

abbrev pub tpmt_sig_scheme_parts : TpmtSigScheme → List Part
tpmt_sig_scheme_parts s = num s.scheme.0 ∷ tpmu_sig_scheme_parts s.details

abbrev pub tpmt_rsa_scheme_parts : TpmtRsaScheme → List Part
tpmt_rsa_scheme_parts s = num s.scheme.0 ∷ tpmu_asym_scheme_parts s.details

abbrev pub tpmt_ecc_scheme_parts : TpmtEccScheme → List Part
tpmt_ecc_scheme_parts s = num s.scheme.0 ∷ tpmu_asym_scheme_parts s.details

abbrev pub tpmt_rsa_decrypt_parts : TpmtRsaDecrypt → List Part
tpmt_rsa_decrypt_parts s = num s.scheme.0 ∷ tpmu_asym_scheme_parts s.details
