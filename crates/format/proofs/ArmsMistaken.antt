-- Arms that readers of these records have got wrong, each as our tables have it. Assumes nothing.
use mathlib.Core.Path.{◌≡◌, refl}
use Rattle.wire.specs.Layout.{stop, no_arm, arm, number, one, free}
use Rattle.codes.specs.Codes.{alg, aes, xor, null, rsaes, ecdaa}
use Rattle.format.specs.Kinds.{tpmu_sym_key_bits_arm, tpmu_sym_key_bits, tpmu_sym_mode_arm, tpmu_sym_mode, tpms_scheme_ecdaa, tpmu_asym_scheme_arm, tpmu_asym_scheme, tpmu_sig_scheme_arm, tpmu_sig_scheme, tpmu_sensitive_composite_arm, tpmu_sensitive_composite}

-- key bits and a mode read after a Null cipher: it has neither
pub null_cipher_has_neither : (tpmu_sym_key_bits null ≡ arm null null stop) × (tpmu_sym_mode null ≡ arm null null stop)
unfolding tpmu_sym_key_bits tpmu_sym_key_bits_arm tpmu_sym_mode tpmu_sym_mode_arm
null_cipher_has_neither = (refl, refl)

-- key bits taken for a count of bytes: they are a number, whatever it is, and nothing follows it
pub key_bits_are_a_number : tpmu_sym_key_bits aes ≡ arm aes aes (one 2 free)
unfolding tpmu_sym_key_bits tpmu_sym_key_bits_arm
key_bits_are_a_number = refl

-- a mode read after Xor because the other ciphers have one: it has none, and its arm is the empty one
pub xor_has_no_mode : tpmu_sym_mode xor ≡ arm xor null stop
unfolding tpmu_sym_mode tpmu_sym_mode_arm
xor_has_no_mode = refl

-- Ecdaa read as its neighbours are, with a hash alone: a count follows, whatever number it is
pub ecdaa_has_a_count :
    (tpmu_asym_scheme ecdaa ≡ arm ecdaa ecdaa (number 2 alg (λ hashAlg. one 2 free)))
    × (tpmu_sig_scheme ecdaa ≡ arm ecdaa ecdaa (number 2 alg (λ hashAlg. one 2 free)))
unfolding tpmu_asym_scheme tpmu_asym_scheme_arm tpmu_sig_scheme tpmu_sig_scheme_arm tpms_scheme_ecdaa
ecdaa_has_a_count = (refl, refl)

-- a hash read after RSAES because its neighbours have one: it has none
pub rsaes_has_no_hash : tpmu_asym_scheme rsaes ≡ arm rsaes null stop
unfolding tpmu_asym_scheme tpmu_asym_scheme_arm
rsaes_has_no_hash = refl

-- Null taken for an arm of the sensitive union: it has none there
pub sensitive_has_no_null : tpmu_sensitive_composite null ≡ no_arm null
unfolding tpmu_sensitive_composite tpmu_sensitive_composite_arm
sensitive_has_no_null = refl
