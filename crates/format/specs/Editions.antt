-- What an edition of the format is: its lists of codes, and the rows that its tables have behind ours. Assumes nothing.
use Rattle.std.specs.Prelude.{ℕ, ◌≡◌, Bool, true, List, []}
use Rattle.wire.specs.Unions.{Row}
use Rattle.codes.specs.Codes as codes

-- an edition: the codes that it lists, and of each union the rows that its table has behind ours, with whatever layouts
pub record Edition : Type 0 where
  pub is_algorithm : ℕ → Bool
  pub is_curve : ℕ → Bool
  pub is_attestation : ℕ → Bool
  pub is_cap : ℕ → Bool
  pub is_handle_type : ℕ → Bool
  pub is_hierarchy : ℕ → Bool
  pub tpmu_ha : List Row
  pub tpmu_asym_scheme : List Row
  pub tpmu_sig_scheme : List Row
  pub tpmu_keyedhash_scheme : List Row
  pub tpmu_kdf_scheme : List Row
  pub tpmu_sym_key_bits : List Row
  pub tpmu_sym_mode : List Row
  pub tpmu_public_parms : List Row
  pub tpmu_public_id : List Row
  pub tpmu_sensitive_composite : List Row
  pub tpmu_signature : List Row
  pub tpmu_attest : List Row
  pub tpmu_capabilities : List Row
  pub tpmu_nv_public2 : List Row

-- our own edition: our lists, and no further rows
abbrev pub ours : Edition
ours =
    record {
      is_algorithm = codes.is_algorithm;
      is_curve = codes.is_curve;
      is_attestation = codes.is_attestation;
      is_cap = codes.is_cap;
      is_handle_type = codes.is_handle_type;
      is_hierarchy = codes.is_hierarchy;
      tpmu_ha = [];
      tpmu_asym_scheme = [];
      tpmu_sig_scheme = [];
      tpmu_keyedhash_scheme = [];
      tpmu_kdf_scheme = [];
      tpmu_sym_key_bits = [];
      tpmu_sym_mode = [];
      tpmu_public_parms = [];
      tpmu_public_id = [];
      tpmu_sensitive_composite = [];
      tpmu_signature = [];
      tpmu_attest = [];
      tpmu_capabilities = [];
      tpmu_nv_public2 = [];
    }

-- an edition extends ours if it lists every code that we list
pub record Extends (e : Edition) : Type 0 where
  pub algorithms : (n : ℕ) → codes.is_algorithm n ≡ true → e.is_algorithm n ≡ true
  pub curves : (n : ℕ) → codes.is_curve n ≡ true → e.is_curve n ≡ true
  pub attestations : (n : ℕ) → codes.is_attestation n ≡ true → e.is_attestation n ≡ true
  pub caps : (n : ℕ) → codes.is_cap n ≡ true → e.is_cap n ≡ true
  pub handle_types : (n : ℕ) → codes.is_handle_type n ≡ true → e.is_handle_type n ≡ true
  pub hierarchies : (n : ℕ) → codes.is_hierarchy n ≡ true → e.is_hierarchy n ≡ true
