-- The codes that are listed, and the registry's names of those that are used. Assumes nothing.
use Rattle.std.specs.Prelude.{ℕ, zero, suc, ◌+◌, ◌-◌, Bool, false, ◌||◌, ◌&&◌, List, [], ◌∷◌, ◌++◌, eqb, leb}
use Rattle.wire.specs.Layout.{Rule, listed, fixed}
use Rattle.codes.specs.declared.Ticket.{Ticket}
use Rattle.codes.specs.declared.Ticket.TheVariants.{Creation, Verified, Hashcheck, Auth}

-- ---- the names of handle types, hierarchies and tags

abbrev pub ht_nv_index : ℕ
ht_nv_index = 0x01

abbrev pub ht_external_nv : ℕ
ht_external_nv = 0x11

abbrev pub ht_permanent_nv : ℕ
ht_permanent_nv = 0x12

abbrev pub rh_owner : ℕ
rh_owner = 0x40000001

abbrev pub rh_null : ℕ
rh_null = 0x40000007

abbrev pub rh_endorsement : ℕ
rh_endorsement = 0x4000000B

abbrev pub rh_platform : ℕ
rh_platform = 0x4000000C

abbrev pub st_creation : ℕ
st_creation = 0x8021

abbrev pub st_verified : ℕ
st_verified = 0x8022

abbrev pub st_auth_secret : ℕ
st_auth_secret = 0x8023

abbrev pub st_hashcheck : ℕ
st_hashcheck = 0x8024

abbrev pub st_auth_signed : ℕ
st_auth_signed = 0x8025

-- ---- the lists

-- the numbers from lo to hi
pub record Range : Type 0 where
  pub lo : ℕ
  pub hi : ℕ

abbrev pub range : (lo hi : ℕ) → Range
range l h = record { lo = l; hi = h }

-- n numbers one after the other, from lo on
abbrev pub row : (n lo : ℕ) → List ℕ
row zero lo = []
row (suc n) lo = lo ∷ row n (lo + 1)

-- the numbers of some ranges
abbrev pub numbers : List Range → List ℕ
numbers [] = []
numbers (r ∷ rs) = row (r.hi + 1 - r.lo) r.lo ++ numbers rs

-- whether the number is on the list
abbrev pub member : List ℕ → ℕ → Bool
member [] n = false
member (x ∷ xs) n = eqb n x || member xs n

-- n is one of the numbers from lo to hi
abbrev pub within : (lo hi n : ℕ) → Bool
within l h n = leb l n && leb n h

-- the 44 algorithms
abbrev pub algorithm_ranges : List Range
algorithm_ranges =
    range 0x01 0x01 ∷ range 0x03 0x08 ∷ range 0x0A 0x0D ∷ range 0x10 0x10 ∷ range 0x12 0x1D ∷ range 0x20 0x23 ∷ range 0x25 0x2E ∷ range 0x3F 0x44 ∷ []

unfoldable pub algorithms : List ℕ
algorithms = numbers algorithm_ranges

-- the 14 curves
abbrev pub curve_ranges : List Range
curve_ranges = range 0x00 0x05 ∷ range 0x10 0x11 ∷ range 0x20 0x20 ∷ range 0x30 0x32 ∷ range 0x40 0x41 ∷ []

unfoldable pub curves : List ℕ
curves = numbers curve_ranges

-- the 8 attestation types
abbrev pub attestation_ranges : List Range
attestation_ranges = range 0x8014 0x801A ∷ range 0x801C 0x801C ∷ []

unfoldable pub attestations : List ℕ
attestations = numbers attestation_ranges

-- the 11 capabilities
abbrev pub cap_ranges : List Range
cap_ranges = range 0x00 0x0A ∷ []

unfoldable pub caps : List ℕ
caps = numbers cap_ranges

-- the 3 handle types of NV areas
unfoldable pub handle_types : List ℕ
handle_types = ht_nv_index ∷ ht_external_nv ∷ ht_permanent_nv ∷ []

-- the 4 hierarchies
unfoldable pub hierarchies : List ℕ
hierarchies = rh_owner ∷ rh_null ∷ rh_endorsement ∷ rh_platform ∷ []

-- what a field of each takes
unfoldable pub is_algorithm : ℕ → Bool
is_algorithm n = member algorithms n

unfoldable pub is_curve : ℕ → Bool
is_curve n = member curves n

unfoldable pub is_attestation : ℕ → Bool
is_attestation n = member attestations n

unfoldable pub is_cap : ℕ → Bool
is_cap n = member caps n

unfoldable pub is_handle_type : ℕ → Bool
is_handle_type n = member handle_types n

unfoldable pub is_hierarchy : ℕ → Bool
is_hierarchy n = member hierarchies n

abbrev pub alg : Rule
alg = listed (λ n. is_algorithm n)

abbrev pub curve : Rule
curve = listed (λ n. is_curve n)

abbrev pub attestation : Rule
attestation = listed (λ n. is_attestation n)

abbrev pub cap : Rule
cap = listed (λ n. is_cap n)

abbrev pub handle_type : Rule
handle_type = listed (λ n. is_handle_type n)

abbrev pub hierarchy : Rule
hierarchy = listed (λ n. is_hierarchy n)

-- no, 0, or yes, 1
abbrev pub is_yes_no : ℕ → Bool
is_yes_no n = eqb n 0 || eqb n 1

abbrev pub yes_no : Rule
yes_no = fixed (λ n. is_yes_no n)

-- the magic of what a TPM made itself: FF, and TCG
abbrev pub is_magic : ℕ → Bool
is_magic n = eqb n 0xFF544347

abbrev pub magic : Rule
magic = fixed (λ n. is_magic n)

-- the tags of each ticket: fixed values, on no list of codes
abbrev pub ticket_tags : Ticket → List ℕ
ticket_tags Creation = st_creation ∷ []
ticket_tags Verified = st_verified ∷ []
ticket_tags Hashcheck = st_hashcheck ∷ []
ticket_tags Auth = st_auth_secret ∷ st_auth_signed ∷ []

abbrev pub ticket_tag : Ticket → Rule
ticket_tag t = fixed (λ n. member (ticket_tags t) n)

-- ---- the names of algorithms, attestation types and capabilities

abbrev pub rsa : ℕ
rsa = 0x01

abbrev pub sha1 : ℕ
sha1 = 0x04

abbrev pub hmac : ℕ
hmac = 0x05

abbrev pub aes : ℕ
aes = 0x06

abbrev pub mgf1 : ℕ
mgf1 = 0x07

abbrev pub keyed_hash : ℕ
keyed_hash = 0x08

abbrev pub xor : ℕ
xor = 0x0A

abbrev pub sha256 : ℕ
sha256 = 0x0B

abbrev pub sha384 : ℕ
sha384 = 0x0C

abbrev pub sha512 : ℕ
sha512 = 0x0D

abbrev pub null : ℕ
null = 0x10

abbrev pub sm3_256 : ℕ
sm3_256 = 0x12

abbrev pub sm4 : ℕ
sm4 = 0x13

abbrev pub rsassa : ℕ
rsassa = 0x14

abbrev pub rsaes : ℕ
rsaes = 0x15

abbrev pub rsapss : ℕ
rsapss = 0x16

abbrev pub oaep : ℕ
oaep = 0x17

abbrev pub ecdsa : ℕ
ecdsa = 0x18

abbrev pub ecdh : ℕ
ecdh = 0x19

abbrev pub ecdaa : ℕ
ecdaa = 0x1A

abbrev pub sm2 : ℕ
sm2 = 0x1B

abbrev pub ecschnorr : ℕ
ecschnorr = 0x1C

abbrev pub ecmqv : ℕ
ecmqv = 0x1D

abbrev pub kdf1_sp800_56a : ℕ
kdf1_sp800_56a = 0x20

abbrev pub kdf2 : ℕ
kdf2 = 0x21

abbrev pub kdf1_sp800_108 : ℕ
kdf1_sp800_108 = 0x22

abbrev pub ecc : ℕ
ecc = 0x23

abbrev pub sym_cipher : ℕ
sym_cipher = 0x25

abbrev pub camellia : ℕ
camellia = 0x26

abbrev pub sha3_256 : ℕ
sha3_256 = 0x27

abbrev pub sha3_384 : ℕ
sha3_384 = 0x28

abbrev pub sha3_512 : ℕ
sha3_512 = 0x29

abbrev pub shake256_192 : ℕ
shake256_192 = 0x2C

abbrev pub shake256_256 : ℕ
shake256_256 = 0x2D

abbrev pub shake256_512 : ℕ
shake256_512 = 0x2E

-- all of these, rising
abbrev pub named_algorithms : List ℕ
named_algorithms =
    rsa ∷ sha1 ∷ hmac ∷ aes ∷ mgf1 ∷ keyed_hash ∷ xor ∷ sha256 ∷ sha384
    ∷ sha512 ∷ null ∷ sm3_256 ∷ sm4 ∷ rsassa ∷ rsaes ∷ rsapss ∷ oaep ∷ ecdsa
    ∷ ecdh ∷ ecdaa ∷ sm2 ∷ ecschnorr ∷ ecmqv ∷ kdf1_sp800_56a ∷ kdf2 ∷ kdf1_sp800_108 ∷ ecc
    ∷ sym_cipher ∷ camellia ∷ sha3_256 ∷ sha3_384 ∷ sha3_512 ∷ shake256_192 ∷ shake256_256 ∷ shake256_512
    ∷ []

abbrev pub attest_nv : ℕ
attest_nv = 0x8014

abbrev pub attest_command_audit : ℕ
attest_command_audit = 0x8015

abbrev pub attest_session_audit : ℕ
attest_session_audit = 0x8016

abbrev pub attest_certify : ℕ
attest_certify = 0x8017

abbrev pub attest_quote : ℕ
attest_quote = 0x8018

abbrev pub attest_time : ℕ
attest_time = 0x8019

abbrev pub attest_creation : ℕ
attest_creation = 0x801A

abbrev pub attest_nv_digest : ℕ
attest_nv_digest = 0x801C

abbrev pub cap_algs : ℕ
cap_algs = 0x00

abbrev pub cap_handles : ℕ
cap_handles = 0x01

abbrev pub cap_commands : ℕ
cap_commands = 0x02

abbrev pub cap_pp_commands : ℕ
cap_pp_commands = 0x03

abbrev pub cap_audit_commands : ℕ
cap_audit_commands = 0x04

abbrev pub cap_pcrs : ℕ
cap_pcrs = 0x05

abbrev pub cap_tpm_properties : ℕ
cap_tpm_properties = 0x06

abbrev pub cap_pcr_properties : ℕ
cap_pcr_properties = 0x07

abbrev pub cap_ecc_curves : ℕ
cap_ecc_curves = 0x08

abbrev pub cap_auth_policies : ℕ
cap_auth_policies = 0x09

abbrev pub cap_act : ℕ
cap_act = 0x0A
