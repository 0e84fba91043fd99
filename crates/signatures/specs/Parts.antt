-- The parts of signatures, in wire order; of a union the arm that it holds comes first. Assumes nothing.
use Rattle.std.specs.Prelude.{List, [], ◌∷◌}
use Rattle.wire.specs.Answers.{span_part}
use Rattle.wire.specs.Records.{Part, num, tag}
use Rattle.codes.specs.Codes.{hmac, null, rsassa, rsapss, ecdsa, ecdaa, sm2, ecschnorr}
use Rattle.ciphers.specs.Parts.{tpmt_ha_parts}
use Rattle.signatures.specs.declared.tpms.TpmsSignatureRsa.{TpmsSignatureRsa}
use Rattle.signatures.specs.declared.tpms.TpmsSignatureEcc.{TpmsSignatureEcc}
use Rattle.signatures.specs.declared.tpmu.TpmuSignature.{TpmuSignature}
use Rattle.signatures.specs.declared.tpmt.TpmtSignature.{TpmtSignature}

-- ---- structures

abbrev pub tpms_signature_rsa_parts : TpmsSignatureRsa → List Part
tpms_signature_rsa_parts s = num s.hash.0 ∷ span_part s.sig ∷ []

abbrev pub tpms_signature_ecc_parts : TpmsSignatureEcc → List Part
tpms_signature_ecc_parts s = num s.hash.0 ∷ span_part s.signature_r ∷ span_part s.signature_s ∷ []

-- ---- unions

abbrev pub tpmu_signature_parts : TpmuSignature → List Part
tpmu_signature_parts (TpmuSignature.Rsassa s) = tag rsassa ∷ tpms_signature_rsa_parts s
tpmu_signature_parts (TpmuSignature.Rsapss s) = tag rsapss ∷ tpms_signature_rsa_parts s
tpmu_signature_parts (TpmuSignature.Ecdsa s) = tag ecdsa ∷ tpms_signature_ecc_parts s
tpmu_signature_parts (TpmuSignature.Ecdaa s) = tag ecdaa ∷ tpms_signature_ecc_parts s
tpmu_signature_parts (TpmuSignature.Sm2 s) = tag sm2 ∷ tpms_signature_ecc_parts s
tpmu_signature_parts (TpmuSignature.Ecschnorr s) = tag ecschnorr ∷ tpms_signature_ecc_parts s
tpmu_signature_parts (TpmuSignature.Hmac h) = tag hmac ∷ tpmt_ha_parts h
tpmu_signature_parts TpmuSignature.Null = tag null ∷ []

-- ---- kind 10

abbrev pub tpmt_signature_parts : TpmtSignature → List Part
tpmt_signature_parts s = num s.sig_alg.0 ∷ tpmu_signature_parts s.signature
