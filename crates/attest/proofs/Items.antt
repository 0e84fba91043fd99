-- The items that the calls of a kind hand out are those of the legal list that was read. Of kinds 13 and 14: the list that a record keeps is the one
-- that its layout has there, since what an attestation holds is what its type chooses. Assumes nothing.
use Prim.Native.Nat.{ℕ, zero, suc, ◌≤◌, ◌<◌}
use native.Mathlib.Omega.{arith}
use mathlib.Core.Path.{◌≡◌, refl, sym, ap, ◌∙◌}
use mathlib.Core.Bool.{Bool, true, false, cond}
use mathlib.Core.List.{List, [], ◌∷◌}
use lib.ListN.{length}
use lib.Dec.{eqb}
use borrow.Author.Tests.{eqb-true}
use Rattle.std.specs.Prelude.{None, Option, Some, Err, Ok, Result}
use Rattle.faults.specs.declared.Refusal.{Refusal}
use Rattle.faults.specs.Faults.{no_field}
use Rattle.wire.specs.Answers.{measure_answer}
use Rattle.wire.specs.Bytes.{Bytes}
use Rattle.wire.specs.Layout.{Rule, Layout, arm, number, buffer, ◌then◌}
use Rattle.wire.specs.Records.{Part, num, tag, span, found, refused, parsed}
use Rattle.wire.specs.Reading.{read, read_whole}
use Rattle.wire.specs.Grammar.{Token, value, bytes, Spells, holds, says, sizes, placed, shown}
use Rattle.wire.specs.Unions.{Row, arm_of, union}
use Rattle.wire.specs.Unions as unions
use Rattle.wire.specs.Fields.{part_of, size_of}
use Rattle.wire.specs.Items.{item_of, joined, here, past_arm, past_number, past_buffer}
use Rattle.wire.proofs.Answers.{measure_answer_once}
use Rattle.wire.proofs.Steps.{clash}
use Rattle.wire.proofs.Split.{no_arm_no_record}
use Rattle.wire.proofs.Prefix.{accepted_is_legal}
use Rattle.wire.proofs.Whole.{whole_is_read}
use Rattle.wire.proofs.ListsKept.{read_records_list_is_legal}
use Rattle.wire.proofs.ItemsSpelled as spelled
use Rattle.codes.specs.Codes.{attest_quote}
use Rattle.format.specs.declared.list.ListOf.{ListOf}
use Rattle.format.specs.declared.list.ListOf.TheVariants.{PcrSelection}
use Rattle.format.specs.Kinds.{item_layout, most_items, tpml_pcr_selection, tpms_clock_info, tpms_quote_info, tpmu_attest_table, tpmu_attest_arm, tpmu_attest_body, tpmu_attest, tpms_attest}
use Rattle.attest.specs.declared.list.TpmlPcrSelection.{TpmlPcrSelection}
use Rattle.attest.specs.declared.tpmu.TpmuAttest.{TpmuAttest}
use Rattle.attest.specs.declared.attestation.TpmsAttest.{TpmsAttest}
use Rattle.attest.specs.Parts.{tpml_pcr_selection_parts, tpms_quote_info_parts, tpmu_attest_parts, tpmu_attest_lists, tpms_attest_parts}
use Rattle.attest.specs.Items.{ListsOf, no_list, one_list, LegalLists, without, with_one, item_count, list_items, ReadWithLists, attestation, selections}

-- ---- the lists of a record are those of its layout

-- ls are the PCR selection lists of the parts ps, of the layout l
abbrev Selections : Layout → List Part → List Part → Type 0
Selections l ps ls = ListsOf (most_items PcrSelection) (item_layout PcrSelection) l ps ls

-- kind 14 is a list
pub lists_of_a_selection_list : (x : TpmlPcrSelection) → ListsOf (most_items PcrSelection) (item_layout PcrSelection) tpml_pcr_selection (tpml_pcr_selection_parts x) (tpml_pcr_selection_parts x)
unfolding tpml_pcr_selection
lists_of_a_selection_list x = one_list here

-- the arm that a legal union holds is the one that its selector chooses
pub held_is_chosen : (c : Option ℕ) (body : ℕ → Layout) (v : ℕ) (src : List ℕ) (ps : List Part) {ts : List Token} {bs : List ℕ} → Spells (union c body v) ts bs → ts ≡ shown src ps → c ≡ Some (unions.held ps)
held_is_chosen None body v src ps d same = absurd (no_arm_no_record d)
held_is_chosen (Some u) body v src [] (holds d) same = absurd (clash (cc))
held_is_chosen (Some u) body v src (num n ∷ ps) (holds d) same = absurd (clash (cc))
held_is_chosen (Some u) body v src (tag t ∷ ps) (holds d) same = cc
held_is_chosen (Some u) body v src (span start len ∷ ps) (holds d) same = absurd (clash (cc))

-- so where one holds a quote, the layout has a quote there
quote_is_due : (v : ℕ) (src : List ℕ) (ps : List Part) {ts : List Token} {bs : List ℕ} → Spells (tpmu_attest v) ts bs → ts ≡ shown src (tag attest_quote ∷ ps) → tpmu_attest v ≡ arm v attest_quote tpms_quote_info
unfolding tpmu_attest
quote_is_due v src ps d same = rw (held_is_chosen (tpmu_attest_arm v) (λ t. tpmu_attest_body t) v src (tag attest_quote ∷ ps) d same)

-- and of what is attested only a quote has a list
lists_of_the_attested : (v : ℕ) (u : TpmuAttest) (src : List ℕ) {ts : List Token} {bs : List ℕ} → Spells (tpmu_attest v) ts bs → ts ≡ shown src (tpmu_attest_parts u)
    → Selections (tpmu_attest v) (tpmu_attest_parts u) (tpmu_attest_lists u)
unfolding tpms_quote_info tpml_pcr_selection ◌then◌
lists_of_the_attested v (TpmuAttest.Certify i) src d same = no_list
lists_of_the_attested v (TpmuAttest.Creation i) src d same = no_list
lists_of_the_attested v (TpmuAttest.Quote i) src d same = rw (quote_is_due v src (tpms_quote_info_parts i) d same) (one_list (past_arm here))
lists_of_the_attested v (TpmuAttest.CommandAudit i) src d same = no_list
lists_of_the_attested v (TpmuAttest.SessionAudit i) src d same = no_list
lists_of_the_attested v (TpmuAttest.Time i) src d same = no_list
lists_of_the_attested v (TpmuAttest.Nv i) src d same = no_list
lists_of_the_attested v (TpmuAttest.NvDigest i) src d same = no_list

-- behind the first number of a legal record stands what the layout has there for that number
pub behind_number : {w : ℕ} {r : Rule} {k : ℕ → Layout} {n : ℕ} {ts us : List Token} {bs : List ℕ} → Spells (number w r k) ts bs → ts ≡ value n ∷ us → (cs : List ℕ) × Spells (k n) us cs
behind_number {k = k} {n} {us = us} (says {ts = ts'} {cs = cs} n' fits a e d) same =
    let said : n' ≡ n = cc in
    let rest : ts' ≡ us = cc in
    let there : Spells (k n) ts' cs = rw said at d in
    let behind : Spells (k n) us cs = rw rest at there in
    (cs, behind)

-- and behind its first buffer what the layout has behind a buffer
behind_buffer : {w m : ℕ} {l : Layout} {xs : List ℕ} {ts us : List Token} {bs : List ℕ} → Spells (buffer w m l) ts bs → ts ≡ bytes xs ∷ us → (cs : List ℕ) × Spells l us cs
behind_buffer {l = l} {us = us} (sizes {ts = ts'} {cs = cs} ys fits most b e d) same =
    let rest : ts' ≡ us = cc in
    let behind : Spells l us cs = rw rest at d in
    (cs, behind)

-- last in a legal attestation stands what is attested, as its type chooses
attested_is_legal : (x : TpmsAttest) (src : List ℕ) {ts : List Token} {bs : List ℕ} → Spells tpms_attest ts bs → ts ≡ shown src (tpms_attest_parts x)
    → (cs : List ℕ) × Spells (tpmu_attest x.attest_type.0) (shown src (tpmu_attest_parts x.attested)) cs
unfolding tpms_attest tpms_clock_info ◌then◌
attested_is_legal x src d same =
    let (c₁, magic) = behind_number d same in
    let (c₂, type) = behind_number magic refl in
    let (c₃, signer) = behind_buffer type refl in
    let (c₄, extra) = behind_buffer signer refl in
    let (c₅, clock) = behind_number extra refl in
    let (c₆, resets) = behind_number clock refl in
    let (c₇, restarts) = behind_number resets refl in
    let (c₈, safe) = behind_number restarts refl in
    behind_number safe refl

-- its list, if it has one, is the attestation's
behind_the_firmware : (x : TpmsAttest) {ls : List Part} → Selections (tpmu_attest x.attest_type.0) (tpmu_attest_parts x.attested) ls → Selections tpms_attest (tpms_attest_parts x) ls
unfolding tpms_attest tpms_clock_info ◌then◌
behind_the_firmware x no_list = no_list
behind_the_firmware x (one_list p) = one_list (past_number (past_number (past_buffer (past_buffer (past_number (past_number (past_number (past_number (past_number p)))))))))

-- kind 13, if it was read: a record made by hand may hold another arm than its type chooses
pub lists_of_a_read_attestation : (x : TpmsAttest) (src : List ℕ) (at : ℕ) {e : ℕ} → Bytes src → read tpms_attest src at ≡ parsed (tpms_attest_parts x) e
    → ListsOf (most_items PcrSelection) (item_layout PcrSelection) tpms_attest (tpms_attest_parts x) (tpmu_attest_lists x.attested)
lists_of_a_read_attestation x src at b there =
    let (d, same, showing) = accepted_is_legal tpms_attest src at b there in
    let (cs, attested) = attested_is_legal x src d.spells (sym showing) in
    behind_the_firmware x (lists_of_the_attested x.attest_type.0 x.attested src attested refl)

-- ---- an attestation that was read holds the arm of its type

-- each row's arm has its selector's code for a number
abbrev pub Own : List Row → Type 0
Own [] = Unit {0}
Own (r ∷ rs) = (r.selector ≡ r.chooses) × Own rs

pub own_arm_is_its_selector : (rs : List Row) → Own rs → (v t : ℕ) → arm_of rs v ≡ Some t → v ≡ t
own_arm_is_its_selector [] o v t e = absurd (clash (cc))
own_arm_is_its_selector (r ∷ rs) o v t e = go (eqb v r.selector) refl e (λ later. own_arm_is_its_selector rs o.1 v t later)
  where
    go : (s : Bool) → eqb v r.selector ≡ s → cond s (Some r.chooses) (arm_of rs v) ≡ Some t → (arm_of rs v ≡ Some t → v ≡ t) → v ≡ t
    go true q e rest = let same = eqb-true v r.selector q in let own = o.0 in cc
    go false q e rest = rest e

-- so a record of another type than a quote's has no list
pub read_attestation_holds_the_arm_of_its_type : (x : TpmsAttest) (src : List ℕ) (at : ℕ) {e : ℕ} → Bytes src → read tpms_attest src at ≡ parsed (tpms_attest_parts x) e
    → x.attest_type.0 ≡ unions.held (tpmu_attest_parts x.attested)
unfolding tpmu_attest tpmu_attest_arm
read_attestation_holds_the_arm_of_its_type x src at b there =
    let v = x.attest_type.0 in
    let ps = tpmu_attest_parts x.attested in
    let (d, same, showing) = accepted_is_legal tpms_attest src at b there in
    let (cs, attested) = attested_is_legal x src d.spells (sym showing) in
    own_arm_is_its_selector tpmu_attest_table (refl, (refl, (refl, (refl, (refl, (refl, (refl, (refl, tt)))))))) v (unions.held ps)
    (held_is_chosen (tpmu_attest_arm v) (λ t. tpmu_attest_body t) v src ps attested refl)

-- ---- the lists of a record that was read are legal

-- over every layout, parts and lists
pub read_records_lists_are_legal : (l : Layout) (src : List ℕ) (at : ℕ) {m e : ℕ} {item : Layout} {ps ls : List Part} → Bytes src → read l src at ≡ parsed ps e
    → ListsOf m item l ps ls → LegalLists src m item ls
read_records_lists_are_legal l src at b there no_list = without
read_records_lists_are_legal l src at b there (one_list p) = with_one (read_records_list_is_legal src l at b there p)

-- of kinds 13 and 14, where the kind's own reader found the record
pub lists_that_were_read_are_legal : {src : List ℕ} {ls : List Part} → Bytes src → ReadWithLists src ls → LegalLists src (most_items PcrSelection) (item_layout PcrSelection) ls
lists_that_were_read_are_legal {src} b (attestation x at e told) = read_records_lists_are_legal tpms_attest src at b (sym told) (lists_of_a_read_attestation x src at b (sym told))
lists_that_were_read_are_legal {src} b (selections x at e told) = read_records_lists_are_legal tpml_pcr_selection src at b (sym told) (lists_of_a_selection_list x)

-- ---- the items of such lists

module _ {src : List ℕ} {m : ℕ} {item : Layout} where
  -- below the count there is an item, a legal record of the item's layout, which that layout's reader reads to its end
  item_is_legal : {ls : List Part} (x : LegalLists src m item ls) (i : ℕ) → i < item_count x
      → (zs : List ℕ) × (ts : List Token) × (d : Spells item ts zs) × (item_of m item ls i src ≡ found zs) × (read item zs 0 ≡ parsed (placed d 0) (length zs))
  item_is_legal without i h = absurd (omega arith)
  item_is_legal (with_one x) i h = spelled.item_of_a_legal_list_is_legal x i h

  -- from the count on there is none
  no_item : {ls : List Part} (x : LegalLists src m item ls) (i : ℕ) → item_count x ≤ i → item_of m item ls i src ≡ refused (no_field i)
  unfolding item_of
  no_item without i h = refl
  no_item (with_one x) i h = spelled.from_the_count_on_no_item x i h

  -- one behind the other, they are the list after its count
  items_joined : {ls : List Part} (x : LegalLists src m item ls) → joined (λ i. part_of (item_of m item ls i src)) (item_count x) ≡ list_items x
  items_joined without = refl
  items_joined (with_one x) = spelled.items_joined_are_the_list x

-- what is joined is as many values as are joined, and no more
joined_alike : (f g : ℕ → List ℕ) (n : ℕ) → ((i : ℕ) → i < n → f i ≡ g i) → joined f n ≡ joined g n
joined_alike f g zero h = refl
joined_alike f g (suc n) h = rw (h zero (omega arith), joined_alike (λ i. f (suc i)) (λ i. g (suc i)) n (λ i lt. h (suc i) (omega arith)))

-- ---- what the calls hand out

-- The lists ls of a record of src are legal, as they are where the record was read (`lists_that_were_read_are_legal`). `part` is what `item`
-- hands out for an index, and `size` what `item_size` answers
module _ (which : ListOf) {src : List ℕ} {ls : List Part} (x : LegalLists src (most_items which) (item_layout which) ls) where
  module _ (i : ℕ) {part : List ℕ} {size : Result ℕ Refusal}
      (handed : part ≡ part_of (item_of (most_items which) (item_layout which) ls i src))
      (measured : measure_answer size ≡ size_of (item_of (most_items which) (item_layout which) ls i src)) where
    -- below the count it is an item's bytes, spelled as its layout says, which the item's own reader reads to their end; and their length
    pub item_handed_out_is_legal : i < item_count x
        → (ts : List Token) × (d : Spells (item_layout which) ts part) × (size ≡ Ok (length part)) × (read (item_layout which) part 0 ≡ parsed (placed d 0) (length part))
    item_handed_out_is_legal h =
        let (zs, ts, d, there, whole) = item_is_legal x i h in
        let same : zs ≡ part = sym (handed ∙ ap part_of there) in
        let answered : measure_answer size ≡ found (length part) = measured ∙ ap size_of there ∙ ap (λ ys. found (length ys)) same in
        let d' : Spells (item_layout which) ts part = rw same at d in
        (ts, d', measure_answer_once size (Ok (length part)) answered, spelled.spelled_is_read_to_its_end d')

    -- from the count on it is nothing, refused with the index; so it is for every index of a record without a list
    pub past_the_count_nothing_is_handed_out : item_count x ≤ i → (part ≡ []) × (size ≡ Err (no_field i))
    past_the_count_nothing_is_handed_out h =
        let there = no_item x i h in
        (handed ∙ ap part_of there, measure_answer_once size (Err (no_field i)) (measured ∙ ap size_of there))

  -- what is handed out for the indices below the count, one behind the other, is the list after its count
  pub items_handed_out_are_the_list : (parts : ℕ → List ℕ)
      → ((i : ℕ) → i < item_count x → parts i ≡ part_of (item_of (most_items which) (item_layout which) ls i src))
      → joined parts (item_count x) ≡ list_items x
  items_handed_out_are_the_list parts handed =
      joined_alike parts (λ i. part_of (item_of (most_items which) (item_layout which) ls i src)) (item_count x) handed ∙ items_joined x
