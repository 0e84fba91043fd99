-- The parts of a sensitive area, in wire order; of a union the arm that it holds comes first. Assumes nothing.
use Rattle.std.specs.Prelude.{List, [], ◌∷◌}
use Rattle.wire.specs.Answers.{span_part}
use Rattle.wire.specs.Records.{Part, num, tag}
use Rattle.codes.specs.Codes.{rsa, keyed_hash, ecc, sym_cipher}
use Rattle.sensitive.specs.declared.tpmu.TpmuSensitiveComposite.{TpmuSensitiveComposite}
use Rattle.sensitive.specs.declared.tpmt.TpmtSensitive.{TpmtSensitive}

abbrev pub tpmu_sensitive_composite_parts : TpmuSensitiveComposite → List Part
tpmu_sensitive_composite_parts (TpmuSensitiveComposite.Rsa s) = tag rsa ∷ span_part s ∷ []
tpmu_sensitive_composite_parts (TpmuSensitiveComposite.Ecc s) = tag ecc ∷ span_part s ∷ []
tpmu_sensitive_composite_parts (TpmuSensitiveComposite.Bits s) = tag keyed_hash ∷ span_part s ∷ []
tpmu_sensitive_composite_parts (TpmuSensitiveComposite.Sym s) = tag sym_cipher ∷ span_part s ∷ []

abbrev pub tpmt_sensitive_parts : TpmtSensitive → List Part
tpmt_sensitive_parts s = num s.sensitive_type.0 ∷ span_part s.auth_value ∷ span_part s.seed_value ∷ tpmu_sensitive_composite_parts s.sensitive
