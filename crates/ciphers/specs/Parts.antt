-- The parts of digests and ciphers, in wire order; of a union the arm that it holds comes first. Assumes nothing.
use Rattle.std.specs.Prelude.{List, [], ◌∷◌, ◌++◌}
use Rattle.wire.specs.Answers.{len_of, span_part}
use Rattle.wire.specs.Records.{Part, num, tag}
use Rattle.codes.specs.Codes.{aes, xor, null, sm4, camellia}
use Rattle.format.specs.Kinds.{digest_of}
use Rattle.ciphers.specs.declared.tpmu.TpmuHa.{TpmuHa}
use Rattle.ciphers.specs.declared.tpmu.TpmuSymKeyBits.{TpmuSymKeyBits}
use Rattle.ciphers.specs.declared.tpmu.TpmuSymMode.{TpmuSymMode}
use Rattle.ciphers.specs.declared.tpmt.TpmtHa.{TpmtHa}
use Rattle.ciphers.specs.declared.tpmt.TpmtSymDef.{TpmtSymDef}

-- ---- unions

abbrev pub tpmu_ha_parts : TpmuHa → List Part
tpmu_ha_parts TpmuHa.Null = tag null ∷ []
tpmu_ha_parts (TpmuHa.Digest s) = tag (digest_of (len_of s)) ∷ span_part s ∷ []

abbrev pub tpmu_sym_key_bits_parts : TpmuSymKeyBits → List Part
tpmu_sym_key_bits_parts (TpmuSymKeyBits.Aes n) = tag aes ∷ num n ∷ []
tpmu_sym_key_bits_parts (TpmuSymKeyBits.Sm4 n) = tag sm4 ∷ num n ∷ []
tpmu_sym_key_bits_parts (TpmuSymKeyBits.Camellia n) = tag camellia ∷ num n ∷ []
tpmu_sym_key_bits_parts (TpmuSymKeyBits.Xor h) = tag xor ∷ num h.0 ∷ []
tpmu_sym_key_bits_parts TpmuSymKeyBits.Null = tag null ∷ []

abbrev pub tpmu_sym_mode_parts : TpmuSymMode → List Part
tpmu_sym_mode_parts (TpmuSymMode.Aes m) = tag aes ∷ num m.0 ∷ []
tpmu_sym_mode_parts (TpmuSymMode.Sm4 m) = tag sm4 ∷ num m.0 ∷ []
tpmu_sym_mode_parts (TpmuSymMode.Camellia m) = tag camellia ∷ num m.0 ∷ []
tpmu_sym_mode_parts TpmuSymMode.Null = tag null ∷ []

-- ---- kinds 1 and 2

abbrev pub tpmt_ha_parts : TpmtHa → List Part
tpmt_ha_parts h = num h.hash_alg.0 ∷ tpmu_ha_parts h.digest

abbrev pub tpmt_sym_def_parts : TpmtSymDef → List Part
tpmt_sym_def_parts s = num s.algorithm.0 ∷ (tpmu_sym_key_bits_parts s.key_bits ++ tpmu_sym_mode_parts s.mode)
