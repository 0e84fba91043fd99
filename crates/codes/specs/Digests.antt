-- How long the digest of each algorithm is, as the table of the union TPMU_HA. Assumes nothing.
use Rattle.std.specs.Prelude.{Option, ℕ, ◌+◌, ◌-◌, List, [], ◌∷◌}
use Rattle.wire.specs.Layout.{stop, plain}
use Rattle.wire.specs.Unions.{Row, row, own, arm_of}
use Rattle.codes.specs.Codes.{sha1, sha256, sha384, sha512, null, sm3_256, sha3_256, sha3_384, sha3_512, shake256_192, shake256_256, shake256_512}

-- the arm of a digest of n bytes: 256 more than its length, so that no digest, however long, has an algorithm's code
abbrev pub digest_of : ℕ → ℕ
digest_of n = n + 256

-- how long a digest is, by its arm; 0 for an arm that is no digest
abbrev pub digest_size : ℕ → ℕ
digest_size t = t - 256

-- the row of an algorithm whose digest has n bytes
abbrev pub digest_row : (selector n : ℕ) → Row
digest_row v n = row v (digest_of n) (plain n stop)

-- TPMU_HA: a plain digest as long as its algorithm has it, or nothing
abbrev pub tpmu_ha_table : List Row
tpmu_ha_table =
    digest_row sha1 20
    ∷ digest_row shake256_192 24
    ∷ digest_row sha256 32
    ∷ digest_row sm3_256 32
    ∷ digest_row sha3_256 32
    ∷ digest_row shake256_256 32
    ∷ digest_row sha384 48
    ∷ digest_row sha3_384 48
    ∷ digest_row sha512 64
    ∷ digest_row sha3_512 64
    ∷ digest_row shake256_512 64
    ∷ own null stop
    ∷ []

-- the arm of an algorithm's digest
unfoldable pub tpmu_ha_arm : ℕ → Option ℕ
tpmu_ha_arm v = arm_of tpmu_ha_table v
