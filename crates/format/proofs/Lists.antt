-- What the items of a list owe, a line a list: their greatest size, a byte at least; and how many there are at most. Assumes nothing.
use Prim.Native.Nat.{ℕ, ◌+◌, ◌*◌, ◌^◌, ◌≤◌, ◌<◌}
use native.Mathlib.Omega.{arith}
use mathlib.Core.Path.{◌≡◌, refl}
use mathlib.Core.Bool.{true}
use mathlib.Core.List.{List}
use lib.ListN.{length}
use Rattle.wire.specs.Layout.{free}
use Rattle.wire.specs.Grammar.{Token, Spells}
use Rattle.wire.specs.Sizes.{AtMost, Reaches, Greatest}
use Rattle.wire.proofs.Begun.{begins, begins_some}
use Rattle.wire.proofs.Sizes.{stop_most, buffer_most, counted_most, stop_reaches, number_reaches, buffer_reaches, counted_reaches}
use Rattle.format.specs.declared.list.ListOf.{ListOf}
use Rattle.format.specs.declared.list.ListOf.TheVariants.{AlgProperty, Handle, Cca, Cc, PcrSelection, TaggedTpmProperty, EccCurve, TaggedPolicy, ActData}
use Rattle.codes.specs.Codes.{algorithms, is_algorithm, curves, is_curve, alg, curve, sha256}
use Rattle.format.specs.Kinds.{tpms_pcr_selection, tpms_alg_property, tpms_tagged_property, tpms_tagged_policy, tpms_act_data, item_layout, most_items, tpml}
use Rattle.format.proofs.Bounds.{one_most, follows, free_reaches, ha_most, ha_reaches}

-- ---- a line a list

-- the greatest item
abbrev pub greatest_item : ListOf → ℕ
greatest_item AlgProperty = 6
greatest_item Handle = 4
greatest_item Cca = 4
greatest_item Cc = 4
greatest_item PcrSelection = 7
greatest_item TaggedTpmProperty = 8
greatest_item EccCurve = 2
greatest_item TaggedPolicy = 70
greatest_item ActData = 12

item_most : (which : ListOf) → AtMost (item_layout which) (greatest_item which)
unfolding tpms_pcr_selection tpms_alg_property tpms_tagged_property tpms_tagged_policy tpms_act_data
item_most AlgProperty = follows 2 4 alg (λ n. one_most 4 free)
item_most Handle = one_most 4 free
item_most Cca = one_most 4 free
item_most Cc = one_most 4 free
item_most PcrSelection = follows 2 5 alg (λ n. buffer_most 1 4 0 stop_most)
item_most TaggedTpmProperty = follows 4 4 free (λ n. one_most 4 free)
item_most EccCurve = one_most 2 curve
item_most TaggedPolicy = follows 4 66 free (λ n. ha_most)
item_most ActData = follows 4 8 free (λ n. follows 4 4 free (λ n. one_most 4 free))

item_reaches : (which : ListOf) → Reaches (item_layout which) (greatest_item which)
unfolding tpms_pcr_selection tpms_alg_property tpms_tagged_property tpms_tagged_policy tpms_act_data is_algorithm algorithms is_curve curves
item_reaches AlgProperty = number_reaches 2 alg sha256 (omega arith) refl free_reaches
item_reaches Handle = free_reaches
item_reaches Cca = free_reaches
item_reaches Cc = free_reaches
item_reaches PcrSelection = number_reaches 2 alg sha256 (omega arith) refl (buffer_reaches 1 4 (omega arith) stop_reaches)
item_reaches TaggedTpmProperty = number_reaches 4 free 0 (omega arith) refl free_reaches
item_reaches EccCurve = number_reaches 2 curve 0x03 (omega arith) refl stop_reaches
item_reaches TaggedPolicy = number_reaches 4 free 0 (omega arith) refl ha_reaches
item_reaches ActData = number_reaches 4 free 0 (omega arith) refl (number_reaches 4 free 0 (omega arith) refl free_reaches)

-- an item begins with a number or a count
pub item_begins : (which : ListOf) → begins (item_layout which) ≡ true
unfolding tpms_pcr_selection tpms_alg_property tpms_tagged_property tpms_tagged_policy tpms_act_data
item_begins AlgProperty = refl
item_begins Handle = refl
item_begins Cca = refl
item_begins Cc = refl
item_begins PcrSelection = refl
item_begins TaggedTpmProperty = refl
item_begins EccCurve = refl
item_begins TaggedPolicy = refl
item_begins ActData = refl

-- at most 128 items
pub few_items : (which : ListOf) → most_items which ≤ 128
few_items AlgProperty = omega arith
few_items Handle = omega arith
few_items Cca = omega arith
few_items Cc = omega arith
few_items PcrSelection = omega arith
few_items TaggedTpmProperty = omega arith
few_items EccCurve = omega arith
few_items TaggedPolicy = omega arith
few_items ActData = omega arith

-- the greatest list
abbrev pub greatest_list : ListOf → ℕ
greatest_list which = 4 + most_items which * greatest_item which + 0

-- the greatest of all is one of policies
pub list_small : (which : ListOf) → greatest_list which ≤ 1124
list_small AlgProperty = omega arith
list_small Handle = omega arith
list_small Cca = omega arith
list_small Cc = omega arith
list_small PcrSelection = omega arith
list_small TaggedTpmProperty = omega arith
list_small EccCurve = omega arith
list_small TaggedPolicy = omega arith
list_small ActData = omega arith

-- ---- and so, of every list

-- an item has a byte
pub item_some : (which : ListOf) {ts : List Token} {bs : List ℕ} → Spells (item_layout which) ts bs → 0 < length bs
item_some which d = begins_some (item_layout which) (item_begins which) d

-- the count of the most items takes 4 bytes
pub most_fits : (which : ListOf) → most_items which < 256 ^ 4
most_fits which = omega (arith, few_items which)

pub list_greatest : (which : ListOf) → Greatest (tpml which) (greatest_list which)
list_greatest which =
    record {
      most = counted_most (most_items which) (greatest_item which) 0 (item_most which) stop_most;
      reached = counted_reaches (most_items which) (most_fits which) (item_reaches which) stop_reaches;
    }

-- the greatest sizes of the lists, in the order of their capabilities
pub greatest_lists :
    (greatest_list AlgProperty ≡ 772) × (greatest_list Handle ≡ 516) × (greatest_list Cca ≡ 516) × (greatest_list Cc ≡ 516) × (greatest_list PcrSelection ≡ 116)
    × (greatest_list TaggedTpmProperty ≡ 1028) × (greatest_list EccCurve ≡ 260) × (greatest_list TaggedPolicy ≡ 1124) × (greatest_list ActData ≡ 196)
greatest_lists = (refl, refl, refl, refl, refl, refl, refl, refl, refl)
