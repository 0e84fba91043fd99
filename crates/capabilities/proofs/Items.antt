-- A record of kind 15 that was read holds the arm of its capability, and its list is that arm's: the items that its calls hand out are those of a legal
-- list (`item_handed_out_is_legal` and its neighbours in attest, over every list). Assumes nothing.
use Prim.Native.Nat.{ℕ}
use mathlib.Core.Path.{◌≡◌, refl, sym}
use mathlib.Core.Bool.{true}
use mathlib.Core.List.{List}
use lib.Dec.{leb}
use lib.ListN.{length}
use Rattle.std.specs.Prelude.{Some}
use Rattle.wire.specs.Answers.{span_part}
use Rattle.wire.specs.Bytes.{Bytes}
use Rattle.wire.specs.Layout.{Layout, arm}
use Rattle.wire.specs.Records.{parsed}
use Rattle.wire.specs.Reading.{read}
use Rattle.wire.specs.Items.{ListPart, here, past_arm, past_number}
use Rattle.wire.proofs.Prefix.{accepted_is_legal}
use Rattle.format.specs.Kinds.{item_layout, most_items, tpml, tpmu_capabilities_arm, tpmu_capabilities_body, tpmu_capabilities, tpms_capability_data}
use Rattle.attest.specs.Items.{ListsOf, one_list, LegalLists}
use Rattle.attest.proofs.Items.{held_is_chosen, behind_number, read_records_lists_are_legal}
use Rattle.capabilities.specs.declared.tpmu.TpmuCapabilities.{TpmuCapabilities}
use Rattle.capabilities.specs.declared.tpms.TpmsCapabilityData.{TpmsCapabilityData}
use Rattle.capabilities.specs.Parts.{code_of, list_of, items_of, tpmu_capabilities_parts, tpmu_capabilities_lists, tpms_capability_data_parts}
use Rattle.capabilities.proofs.Arms.{chosen_own, body_of_arm}

module _ (x : TpmsCapabilityData) (src : List ℕ) (at : ℕ) {e : ℕ} (b : Bytes src) (there : read tpms_capability_data src at ≡ parsed (tpms_capability_data_parts x) e) where
  abbrev asked : ℕ
  asked = x.capability.0

  -- the arm that it holds is the one that its capability chooses
  chosen : tpmu_capabilities_arm asked ≡ Some (code_of x.data)
  unfolding tpms_capability_data tpmu_capabilities
  chosen =
      let (d, same, showing) = accepted_is_legal tpms_capability_data src at b there in
      let (cs, rest) = behind_number d.spells (sym showing) in
      held_is_chosen (tpmu_capabilities_arm asked) (λ t. tpmu_capabilities_body t) asked src (tpmu_capabilities_parts x.data) rest refl

  pub read_data_holds_the_arm_of_its_capability : asked ≡ code_of x.data
  read_data_holds_the_arm_of_its_capability = chosen_own asked chosen

  -- so its list is the one that the layout has there
  arm_is : tpmu_capabilities asked ≡ arm asked (code_of x.data) (tpml (list_of x.data))
  unfolding tpmu_capabilities
  arm_is = rw (chosen, body_of_arm x.data) refl

  pub list_of_read_data : ListsOf (most_items (list_of x.data)) (item_layout (list_of x.data)) tpms_capability_data (tpms_capability_data_parts x) (tpmu_capabilities_lists x.data)
  unfolding tpms_capability_data
  list_of_read_data = one_list (past_number (behind (tpmu_capabilities asked) arm_is))
    where
      behind : (l : Layout) → l ≡ arm asked (code_of x.data) (tpml (list_of x.data))
          → ListPart (most_items (list_of x.data)) (item_layout (list_of x.data)) (span_part (items_of x.data)) l (tpmu_capabilities_parts x.data)
      behind l is = rw is (past_arm here)

  -- and it is legal
  pub list_of_read_data_is_legal : LegalLists src (most_items (list_of x.data)) (item_layout (list_of x.data)) (tpmu_capabilities_lists x.data)
  list_of_read_data_is_legal = read_records_lists_are_legal tpms_capability_data src at b there list_of_read_data
