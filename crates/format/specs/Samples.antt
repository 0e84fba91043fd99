-- The marked samples of the format: a kind, some bytes, and the whole answer that a reader owes to them. Assumes nothing.
use Rattle.std.specs.Prelude.{ℕ, ◌≡◌, List, [], ◌∷◌, ◌++◌, length, drop}
use Rattle.faults.specs.Faults.{short, unknown_code, no_such_arm, too_long, too_many_items, bad_value, bad_kind}
use Rattle.wire.specs.Records.{Part, num, tag, span, Ans, found, refused, next}
use Rattle.codes.specs.Codes.{null, aes, rsaes, ecc, sha1, cap_algs, cap_ecc_curves, cap_auth_policies, ht_nv_index, ht_external_nv, rh_owner, rh_null, rh_endorsement, rh_platform, st_creation, st_verified, st_hashcheck, st_auth_signed}
use Rattle.format.specs.Kinds.{digest_of, read_kind}

-- what was read of some bytes: the record's parts, how many bytes it consumed, and its tail
pub record Consumed : Type 0 where
  pub parts : List Part
  pub size : ℕ
  pub tail : List ℕ

-- a record was read, with these parts, so many bytes and this tail
abbrev pub consumed : List Part → (size : ℕ) → (tail : List ℕ) → Ans Consumed
consumed ps n rest = found (record { parts = ps; size = n; tail = rest })

-- what a reader of the kind answers to the bytes, read from the first of them on: the tail is what stands behind the record's end
abbrev pub answer_to : (kind : ℕ) → List ℕ → Ans Consumed
answer_to k bs = next (read_kind k bs 0) (λ r. consumed r.parts r.stops (drop r.stops bs))

-- a sample: a kind, the bytes that the input begins with, how many bytes more there are, whichever these are, and the answer
pub record Sample : Type 0 where
  pub kind : ℕ
  pub begins : List ℕ
  pub more : ℕ
  pub answer : Ans Consumed

-- a sample that is these bytes and no more
abbrev pub sample : (kind : ℕ) → List ℕ → Ans Consumed → Sample
sample k bs a = record { kind = k; begins = bs; more = 0; answer = a }

-- a sample that is these bytes and n more
abbrev pub sample_with : (kind : ℕ) → List ℕ → (n : ℕ) → Ans Consumed → Sample
sample_with k bs n a = record { kind = k; begins = bs; more = n; answer = a }

-- the answer is as the sample says, whichever the bytes are that follow those it begins with
abbrev pub Holds : Sample → Type 0
Holds s = (xs : List ℕ) → length xs ≡ s.more → answer_to s.kind (s.begins ++ xs) ≡ s.answer

-- each of some samples does so
abbrev pub AllHold : List Sample → Type 0
AllHold [] = Unit {0}
AllHold (s ∷ ss) = Holds s × AllHold ss

-- the marked samples, a row each
unfoldable pub samples : List Sample
samples =
    sample 1 [] (refused (short 0 2 0))
    ∷ sample 1 (0x00 ∷ []) (refused (short 0 2 1))
    ∷ sample 1 (0x00 ∷ 0x10 ∷ []) (consumed (num null ∷ tag null ∷ []) 2 [])
    ∷ sample_with 1 (0x00 ∷ 0x04 ∷ []) 20 (consumed (num sha1 ∷ tag (digest_of 20) ∷ span 2 20 ∷ []) 22 [])
    ∷ sample_with 1 (0x00 ∷ 0x04 ∷ []) 19 (refused (short 2 20 19))
    ∷ sample 1 (0x00 ∷ 0x02 ∷ []) (refused (unknown_code 0 2))
    ∷ sample 1 (0x00 ∷ 0x01 ∷ []) (refused (no_such_arm 2 1))
    ∷ sample 2 (0x00 ∷ 0x10 ∷ 0x00 ∷ 0x80 ∷ []) (consumed (num null ∷ tag null ∷ tag null ∷ []) 2 (0x00 ∷ 0x80 ∷ []))
    ∷ sample 2 (0x00 ∷ 0x06 ∷ 0x00 ∷ 0x80 ∷ 0x00 ∷ 0x43 ∷ []) (consumed (num aes ∷ tag aes ∷ num 0x80 ∷ tag aes ∷ num 0x43 ∷ []) 6 [])
    ∷ sample 2 (0x00 ∷ 0x06 ∷ 0x00 ∷ 0x80 ∷ []) (refused (short 4 2 0))
    ∷ sample 2 (0x00 ∷ 0x06 ∷ 0x00 ∷ 0x80 ∷ 0x00 ∷ []) (refused (short 4 2 1))
    ∷ sample 6 (0x00 ∷ 0x15 ∷ []) (consumed (num rsaes ∷ tag null ∷ []) 2 [])
    ∷ sample 6 (0x00 ∷ 0x17 ∷ []) (refused (short 2 2 0))
    ∷ sample 11
    (0x00 ∷ 0x23 ∷ 0x00 ∷ 0x0B ∷ 0x00 ∷ 0x00 ∷ 0x00 ∷ 0x00 ∷ 0x00 ∷ 0x00 ∷ 0x00 ∷ 0x10 ∷ 0x00 ∷ 0x10 ∷ 0x00 ∷ 0x03 ∷ 0x00 ∷ 0x10
    ∷ 0x00 ∷ 0x01 ∷ 0xAA ∷ 0x00 ∷ 0x01 ∷ 0xBB ∷ [])
    (consumed
    (num ecc ∷ num 0x0B ∷ num 0 ∷ span 10 0 ∷ tag ecc ∷ num null ∷ tag null ∷ tag null ∷ num null ∷ tag null ∷ num 3 ∷ num null ∷ tag null
    ∷ tag ecc ∷ span 20 1 ∷ span 23 1 ∷ [])
    24
    [])
    ∷ sample 14 (0x00 ∷ 0x00 ∷ 0x00 ∷ 0x11 ∷ []) (refused (too_many_items 0 17))
    ∷ sample 14 (0x00 ∷ 0x00 ∷ 0x00 ∷ 0x10 ∷ []) (refused (short 4 2 0))
    ∷ sample 14 (0x00 ∷ 0x00 ∷ 0x00 ∷ 0x01 ∷ 0x00 ∷ 0x0B ∷ 0x03 ∷ 0x07 ∷ 0x00 ∷ []) (refused (short 7 3 2))
    ∷ sample 14 (0x00 ∷ 0x00 ∷ 0x00 ∷ 0x01 ∷ 0x00 ∷ 0x0B ∷ 0x05 ∷ []) (refused (too_long 6 5))
    ∷ sample 15 (0x00 ∷ 0x00 ∷ 0x00 ∷ 0x08 ∷ 0x00 ∷ 0x00 ∷ 0x00 ∷ 0x02 ∷ 0x00 ∷ 0x03 ∷ 0x00 ∷ 0x04 ∷ []) (consumed (num cap_ecc_curves ∷ tag cap_ecc_curves ∷ span 4 8 ∷ []) 12 [])
    ∷ sample 15 (0x00 ∷ 0x00 ∷ 0x00 ∷ 0x00 ∷ 0x00 ∷ 0x00 ∷ 0x00 ∷ 0x01 ∷ 0x00 ∷ 0x0B ∷ 0x00 ∷ 0x00 ∷ 0x00 ∷ 0x04 ∷ []) (consumed (num cap_algs ∷ tag cap_algs ∷ span 4 10 ∷ []) 14 [])
    ∷ sample 15 (0x00 ∷ 0x00 ∷ 0x00 ∷ 0x09 ∷ 0x00 ∷ 0x00 ∷ 0x00 ∷ 0x01 ∷ 0x40 ∷ 0x00 ∷ 0x00 ∷ 0x0B ∷ 0x00 ∷ 0x10 ∷ []) (consumed (num cap_auth_policies ∷ tag cap_auth_policies ∷ span 4 10 ∷ []) 14 [])
    ∷ sample 15 (0x00 ∷ 0x00 ∷ 0x00 ∷ 0x09 ∷ 0x00 ∷ 0x00 ∷ 0x00 ∷ 0x01 ∷ 0x40 ∷ 0x00 ∷ 0x00 ∷ 0x01 ∷ 0x00 ∷ 0x01 ∷ []) (refused (no_such_arm 14 1))
    ∷ sample 15 (0x00 ∷ 0x00 ∷ 0x00 ∷ 0x07 ∷ []) (refused (no_such_arm 4 7))
    ∷ sample 15 (0x00 ∷ 0x00 ∷ 0x00 ∷ 0x0B ∷ []) (refused (unknown_code 0 11))
    ∷ sample 15 (0x00 ∷ 0x00 ∷ 0x00 ∷ 0x01 ∷ 0x00 ∷ 0x00 ∷ 0x00 ∷ 0x81 ∷ []) (refused (too_many_items 4 129))
    ∷ sample 15 (0x00 ∷ 0x00 ∷ 0x00 ∷ 0x0A ∷ 0x00 ∷ 0x00 ∷ 0x00 ∷ 0x11 ∷ []) (refused (too_many_items 4 17))
    ∷ sample 15 (0x00 ∷ 0x00 ∷ 0x00 ∷ 0x01 ∷ 0x00 ∷ 0x00 ∷ 0x00 ∷ 0x80 ∷ []) (refused (short 8 4 0))
    ∷ sample 15 (0x00 ∷ 0x00 ∷ 0x00 ∷ 0x05 ∷ 0x00 ∷ 0x00 ∷ 0x00 ∷ 0x01 ∷ 0x00 ∷ 0x0B ∷ 0x05 ∷ []) (refused (too_long 10 5))
    ∷ sample 15 (0x00 ∷ 0x00 ∷ 0x00 ∷ 0x08 ∷ 0x00 ∷ 0x00 ∷ 0x00 ∷ 0x01 ∷ 0x00 ∷ 0x06 ∷ []) (refused (unknown_code 8 6))
    ∷ sample 16 (0x01 ∷ 0x01 ∷ 0x80 ∷ 0x00 ∷ 0x01 ∷ 0x00 ∷ 0x0B ∷ 0x00 ∷ 0x00 ∷ 0x00 ∷ 0x04 ∷ 0x00 ∷ 0x00 ∷ 0x00 ∷ 0x08 ∷ []) (consumed (num ht_nv_index ∷ tag ht_nv_index ∷ num 25165825 ∷ num 0x0B ∷ num 4 ∷ span 13 0 ∷ num 8 ∷ []) 15 [])
    ∷ sample 16 (0x11 ∷ 0x01 ∷ 0x80 ∷ 0x00 ∷ 0x01 ∷ 0x00 ∷ 0x0B ∷ 0x00 ∷ 0x00 ∷ 0x00 ∷ 0x01 ∷ 0x00 ∷ 0x00 ∷ 0x00 ∷ 0x04 ∷ 0x00 ∷ 0x00 ∷ 0x00 ∷ 0x08 ∷ []) (consumed (num ht_external_nv ∷ tag ht_external_nv ∷ num 25165825 ∷ num 0x0B ∷ num 4294967300 ∷ span 17 0 ∷ num 8 ∷ []) 19 [])
    ∷ sample 16 [] (refused (short 0 1 0))
    ∷ sample 16 (0x02 ∷ []) (refused (unknown_code 0 2))
    ∷ sample 16 (0x11 ∷ 0x01 ∷ 0x80 ∷ 0x00 ∷ 0x01 ∷ 0x00 ∷ 0x0B ∷ 0x00 ∷ 0x00 ∷ 0x00 ∷ 0x04 ∷ []) (refused (short 7 8 4))
    ∷ sample 16 (0x01 ∷ 0x01 ∷ 0x80 ∷ 0x00 ∷ 0x01 ∷ 0x00 ∷ 0x0B ∷ 0x00 ∷ 0x00 ∷ 0x00 ∷ 0x04 ∷ 0x00 ∷ 0x41 ∷ []) (refused (too_long 11 65))
    ∷ sample 17 (0x80 ∷ 0x21 ∷ 0x40 ∷ 0x00 ∷ 0x00 ∷ 0x01 ∷ 0x00 ∷ 0x00 ∷ []) (consumed (num st_creation ∷ num rh_owner ∷ span 8 0 ∷ []) 8 [])
    ∷ sample 17 (0x80 ∷ 0x22 ∷ 0x40 ∷ 0x00 ∷ 0x00 ∷ 0x01 ∷ 0x00 ∷ 0x00 ∷ []) (refused (bad_value 0 32802))
    ∷ sample 17 (0x80 ∷ 0x21 ∷ 0x40 ∷ 0x00 ∷ 0x00 ∷ 0x02 ∷ 0x00 ∷ 0x00 ∷ []) (refused (unknown_code 2 1073741826))
    ∷ sample 18 (0x80 ∷ 0x22 ∷ 0x40 ∷ 0x00 ∷ 0x00 ∷ 0x0B ∷ 0x00 ∷ 0x00 ∷ []) (consumed (num st_verified ∷ num rh_endorsement ∷ span 8 0 ∷ []) 8 [])
    ∷ sample 19 (0x80 ∷ 0x24 ∷ 0x40 ∷ 0x00 ∷ 0x00 ∷ 0x07 ∷ 0x00 ∷ 0x00 ∷ []) (consumed (num st_hashcheck ∷ num rh_null ∷ span 8 0 ∷ []) 8 [])
    ∷ sample 19 (0x80 ∷ 0x22 ∷ 0x40 ∷ 0x00 ∷ 0x00 ∷ 0x01 ∷ 0x00 ∷ 0x00 ∷ []) (refused (bad_value 0 32802))
    ∷ sample 20 (0x80 ∷ 0x25 ∷ 0x40 ∷ 0x00 ∷ 0x00 ∷ 0x0C ∷ 0x00 ∷ 0x01 ∷ 0xAA ∷ []) (consumed (num st_auth_signed ∷ num rh_platform ∷ span 8 1 ∷ []) 9 [])
    ∷ sample 20 (0x80 ∷ 0x24 ∷ 0x40 ∷ 0x00 ∷ 0x00 ∷ 0x07 ∷ 0x00 ∷ 0x00 ∷ []) (refused (bad_value 0 32804))
    ∷ sample 21 [] (refused (bad_kind 21))
    ∷ []
