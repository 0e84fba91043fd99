-- The lists that a record keeps, by the grammar: there is none, or one; and which records of kinds 13 and 14 were read. Assumes nothing.
use Rattle.std.specs.Prelude.{ℕ, ◌≡◌, List, [], ◌∷◌}
use Rattle.wire.specs.Layout.{Layout}
use Rattle.wire.specs.Records.{Part, parsed}
use Rattle.wire.specs.Reading.{read}
use Rattle.wire.specs.Items.{ShowsList, ListPart}
use Rattle.format.specs.Kinds.{tpms_attest, tpml_pcr_selection}
use Rattle.attest.specs.declared.list.TpmlPcrSelection.{TpmlPcrSelection}
use Rattle.attest.specs.declared.attestation.TpmsAttest.{TpmsAttest}
use Rattle.attest.specs.Parts.{tpml_pcr_selection_parts, tpms_attest_parts, tpmu_attest_lists}

-- of the parts ps of a record of the layout l, ls are its lists: none, or one that the layout has a list for, of at most m items
pub data ListsOf (m : ℕ) (item l : Layout) (ps : List Part) : List Part → Type 0 where
  no_list : ListsOf m item l ps []
  one_list : {p : Part} → ListPart m item p l ps → ListsOf m item l ps (p ∷ [])

-- the lists ls that a record of src keeps are legal: there is none, or one, and it shows a legal list
pub data LegalLists (src : List ℕ) (m : ℕ) (item : Layout) : List Part → Type 0 where
  without : LegalLists src m item []
  with_one : {p : Part} → ShowsList src m item p → LegalLists src m item (p ∷ [])

-- how many items such a record has: as many as its list's count says, and without a list none
abbrev pub item_count : {src : List ℕ} {m : ℕ} {item : Layout} {ls : List Part} → LegalLists src m item ls → ℕ
item_count without = 0
item_count (with_one x) = x.legal.count

-- the bytes of its list after the count; without a list none
abbrev pub list_items : {src : List ℕ} {m : ℕ} {item : Layout} {ls : List Part} → LegalLists src m item ls → List ℕ
list_items without = []
list_items (with_one x) = x.legal.items

-- a record that the reader of its kind found in src, of kind 13 or 14; ls is what it has for lists
pub data ReadWithLists (src : List ℕ) : List Part → Type 0 where
  attestation : (x : TpmsAttest) (at e : ℕ) → parsed (tpms_attest_parts x) e ≡ read tpms_attest src at → ReadWithLists src (tpmu_attest_lists x.attested)
  selections : (x : TpmlPcrSelection) (at e : ℕ) → parsed (tpml_pcr_selection_parts x) e ≡ read tpml_pcr_selection src at → ReadWithLists src (tpml_pcr_selection_parts x)
