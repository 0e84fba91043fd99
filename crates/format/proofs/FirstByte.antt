-- What a legal record begins with: one of kind 16 with its handle type, which is a kind's number too; one of any other kind with the byte 0, 128 or 255,
-- and none of these is a kind's number. Assumes nothing.
use Prim.Native.Nat.{ℕ, zero, suc, ◌+◌, ◌/◌, ◌%◌, ◌^◌, ◌≤◌, ◌<◌, max}
use native.Mathlib.Nat.{pow-suc}
use native.Mathlib.Omega.{arith}
use mathlib.Core.Path.{◌≡◌, refl, sym, ap, ◌∙◌, subst}
use mathlib.Core.Logic.{◌⊎◌, inl, inr}
use mathlib.Core.Bool.{Bool, true, false, ◌||◌, false≢true}
use mathlib.Core.List.{List, [], ◌∷◌, ◌++◌}
use lib.ListN.{get_or}
use lib.Dec.{eqb}
use borrow.Author.Tests.{eqb-true, ne_eqb}
use Rattle.wire.specs.Bytes.{digits}
use Rattle.wire.specs.Layout.{Layout, no_arm, number, counted}
use Rattle.wire.specs.Grammar.{Token, Spells, says, counts}
use Rattle.wire.proofs.Split.{no_arm_no_record}
use Rattle.codes.specs.declared.Ticket.{Ticket}
use Rattle.codes.specs.declared.Ticket.TheVariants.{Creation, Verified, Hashcheck, Auth}
use Rattle.codes.specs.Codes.{member, algorithms, caps, handle_types, is_algorithm, is_cap, is_handle_type, alg, cap, handle_type, magic, ticket_tags, ticket_tag}
use Rattle.format.specs.Kinds.{tpmt_ha, tpmt_sym_def, tpmt_kdf_scheme, tpmt_keyedhash_scheme, tpmt_sig_scheme, tpmt_asym_scheme, tpmt_public_parms, tpmt_signature, tpmt_public, tpmt_sensitive, tpms_attest, tpml_pcr_selection, tpms_capability_data, tpmt_nv_public2, tpmt_tk_creation, tpmt_tk_verified, tpmt_tk_hashcheck, tpmt_tk_auth, kinds, is_kind, layout_of}
use Rattle.format.proofs.Tables.{◌&◌}
use Rattle.format.proofs.Numbered.{how_many_kinds, outside}

-- ---- which numbers begin with the byte 0

-- those for which a byte fewer would do
leading_zero : (w n : ℕ) → n < 256 ^ w → digits (suc w) n ≡ 0 ∷ digits w n
unfolding digits
leading_zero zero n h = let none : n ≡ 0 = omega arith in rw none
leading_zero (suc w) n h = ap (λ ds. ds ++ (n % 256 ∷ [])) (leading_zero w (n / 256) (omega (arith, pow-suc 256 w)))

-- the greatest number on a list
abbrev most : List ℕ → ℕ
most [] = 0
most (x ∷ xs) = max x (most xs)

member_most : (xs : List ℕ) (n : ℕ) → member xs n ≡ true → n ≤ most xs
member_most [] n m = absurd (false≢true m)
member_most (x ∷ xs) n m = go (eqb n x) refl m (member_most xs n)
  where
    go : (b : Bool) → eqb n x ≡ b → b || member xs n ≡ true → (member xs n ≡ true → n ≤ most xs) → n ≤ max x (most xs)
    go true e q rest = omega (arith, eqb-true n x e)
    go false e q rest = omega (arith, rest q)

-- for an algorithm's code one byte would do
algorithm_small : (n : ℕ) → is_algorithm n ≡ true → n < 256 ^ 1
unfolding is_algorithm algorithms
algorithm_small n a = omega (arith, member_most algorithms n a)

-- ---- what holds of each number on a list holds of every number that is on it

abbrev AllOf : (ℕ → Type 0) → List ℕ → Type 0
AllOf P [] = Unit {0}
AllOf P (x ∷ xs) = P x × AllOf P xs

member_has : (P : ℕ → Type 0) (xs : List ℕ) → AllOf P xs → (n : ℕ) → member xs n ≡ true → P n
member_has P [] h n m = absurd (false≢true m)
member_has P (x ∷ xs) h n m = go (eqb n x) refl m (member_has P xs h.1 n)
  where
    go : (b : Bool) → eqb n x ≡ b → b || member xs n ≡ true → (member xs n ≡ true → P n) → P n
    go true e q rest = subst P (sym (eqb-true n x e)) h.0
    go false e q rest = rest q

-- ---- what the kinds begin with: an algorithm's or a capability's code, the magic, the list's count, a ticket's tag; and a handle type

-- the first byte of a record that is no area
abbrev pub Plain : ℕ → Type 0
Plain b = (b ≡ 0) ⊎ ((b ≡ 128) ⊎ (b ≡ 255))

-- that of an area
abbrev pub Area : ℕ → Type 0
Area b = (b ≡ 0x01) ⊎ ((b ≡ 0x11) ⊎ (b ≡ 0x12))

-- every record of the layout has a first byte, of which this holds
abbrev First : (ℕ → Type 0) → Layout → Type 0
First P l = (ts : List Token) (bs : List ℕ) → Spells l ts bs → (b : ℕ) × (rest : List ℕ) × (bs ≡ b ∷ rest) × P b

code_first : {k : ℕ → Layout} → First Plain (number 2 alg k)
code_first ts bs (says {cs = cs} n h a e d) = (0, _, e ∙ ap (λ ds. ds ++ cs) (leading_zero 1 n (algorithm_small n a)), inl refl)

-- and for a capability's
cap_first : {k : ℕ → Layout} → First Plain (number 4 cap k)
unfolding is_cap caps
cap_first ts bs (says {cs = cs} n h a e d) = (0, _, e ∙ ap (λ ds. ds ++ cs) (leading_zero 3 n (omega (arith, member_most caps n a))), inl refl)

magic_first : {k : ℕ → Layout} → First Plain (number 4 magic k)
unfolding digits
magic_first ts bs (says {cs = cs} n h a e d) = (255, _, e ∙ ap (λ m. digits 4 m ++ cs) (eqb-true n 0xFF544347 a), inr (inr refl))

count_first : {m : ℕ} {i l : Layout} → m < 256 ^ 3 → First Plain (counted m i l)
count_first few ts bs (counts {ys = ys} {cs} n h le c is e d) =
    (0, _, e ∙ ap (λ xs. xs ++ cs) (c ∙ ap (λ ds. ds ++ ys) (leading_zero 3 n (omega arith))), inl refl)

-- a tag's first byte is 80, whichever the ticket is
tag_high : (t : Ticket) → AllOf (λ n. digits 2 n ≡ 128 ∷ digits 1 n) (ticket_tags t)
unfolding digits
tag_high Creation = refl & tt
tag_high Verified = refl & tt
tag_high Hashcheck = refl & tt
tag_high Auth = refl & refl & tt

tag_first : (t : Ticket) {k : ℕ → Layout} → First Plain (number 2 (ticket_tag t) k)
tag_first t ts bs (says {cs = cs} n h a e d) =
    (128, _, e ∙ ap (λ ds. ds ++ cs) (member_has (λ n. digits 2 n ≡ 128 ∷ digits 1 n) (ticket_tags t) (tag_high t) n a), inr (inl refl))

-- a handle type is the first byte itself
type_first : {k : ℕ → Layout} → First Area (number 1 handle_type k)
unfolding is_handle_type handle_types digits
type_first ts bs (says {cs = cs} n h a e d) =
    let (one, which) = member_has (λ n. (digits 1 n ≡ n ∷ []) × Area n) handle_types ((refl, inl refl) & (refl, inr (inl refl)) & (refl, inr (inr refl)) & tt) n a in
    (n, cs, e ∙ ap (λ ds. ds ++ cs) one, which)

-- ---- by number

-- what holds of the first byte of a record of kind k
abbrev Begins : Bool → ℕ → Type 0
Begins true b = Area b
Begins false b = Plain b

-- each layout of a list, counted from k on, begins so; and so the one with that index
abbrev AllFirst : (k : ℕ) → List Layout → Type 0
AllFirst k [] = Unit {0}
AllFirst k (l ∷ ls) = First (λ b. Begins (eqb k 16) b) l × AllFirst (k + 1) ls

first_at : (k : ℕ) (ls : List Layout) → AllFirst k ls → (j : ℕ) → First (λ b. Begins (eqb (k + j) 16) b) (get_or ls j (no_arm 0))
first_at k [] h j ts bs d = absurd (no_arm_no_record d)
first_at k (l ∷ ls) h zero ts bs d = let same : k + zero ≡ k = omega arith in rw same (h.0 ts bs d)
first_at k (l ∷ ls) h (suc j) ts bs d = let same : k + suc j ≡ k + 1 + j = omega arith in rw same (first_at (k + 1) ls h.1 j ts bs d)

kinds_first : AllFirst 1 kinds
unfolding kinds tpmt_ha tpmt_sym_def tpmt_kdf_scheme tpmt_keyedhash_scheme tpmt_sig_scheme tpmt_asym_scheme tpmt_public_parms tpmt_signature tpmt_public tpmt_sensitive tpms_attest tpml_pcr_selection tpms_capability_data tpmt_nv_public2 tpmt_tk_creation tpmt_tk_verified tpmt_tk_hashcheck tpmt_tk_auth
kinds_first =
    code_first & code_first & code_first & code_first & code_first & code_first & code_first & code_first
    & code_first & code_first & code_first & code_first & magic_first & count_first (omega arith)
    & cap_first & type_first & tag_first Creation & tag_first Verified & tag_first Hashcheck & tag_first Auth & tt

-- a legal record has a first byte
pub first_byte : (k : ℕ) {ts : List Token} {bs : List ℕ} → Spells (layout_of k) ts bs → (b : ℕ) × (rest : List ℕ) × (bs ≡ b ∷ rest) × Begins (eqb k 16) b
unfolding layout_of
first_byte zero d = absurd (no_arm_no_record d)
first_byte (suc k) {ts} {bs} d = let same : suc k ≡ 1 + k = omega arith in rw same (first_at 1 kinds kinds_first k ts bs d)

no_kind : (b : ℕ) → Plain b → is_kind b ≡ false
no_kind b (inl e) = outside b (λ p. omega arith)
no_kind b (inr (inl e)) = outside b (λ p. omega arith)
no_kind b (inr (inr e)) = outside b (λ p. omega arith)

-- of every kind but 16 it is 0, 128 or 255, which is no kind's number
pub first_byte_is_no_kind : (k : ℕ) → (k ≡ 16 → ⊥) → {ts : List Token} {bs : List ℕ} → Spells (layout_of k) ts bs
    → (b : ℕ) × (rest : List ℕ) × (bs ≡ b ∷ rest) × Plain b × (is_kind b ≡ false)
first_byte_is_no_kind k other d =
    let (b, rest, e, begins) = first_byte k d in
    let which : Plain b = rw (ne_eqb k 16 other) at begins in
    (b, rest, e, which, no_kind b which)

a_kind : (b : ℕ) → Area b → is_kind b ≡ true
a_kind b (inl e) = rw (how_many_kinds, e)
a_kind b (inr (inl e)) = rw (how_many_kinds, e)
a_kind b (inr (inr e)) = rw (how_many_kinds, e)

-- of kind 16 it is the handle type, 1, 17 or 18, and each of these is a kind's number
pub area_begins_with_a_kind : {ts : List Token} {bs : List ℕ} → Spells (layout_of 16) ts bs → (b : ℕ) × (rest : List ℕ) × (bs ≡ b ∷ rest) × Area b × (is_kind b ≡ true)
area_begins_with_a_kind d =
    let (b, rest, e, which) = first_byte 16 d in
    (b, rest, e, which, a_kind b which)
