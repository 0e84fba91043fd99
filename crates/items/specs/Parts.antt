-- The parts of the items of lists, in wire order. Assumes nothing.
use Rattle.std.specs.Prelude.{List, [], ◌∷◌}
use Rattle.wire.specs.Answers.{span_part}
use Rattle.wire.specs.Records.{Part, num}
use Rattle.ciphers.specs.Parts.{tpmt_ha_parts}
use Rattle.items.specs.declared.tpms.TpmsPcrSelection.{TpmsPcrSelection}
use Rattle.items.specs.declared.tpms.TpmsAlgProperty.{TpmsAlgProperty}
use Rattle.items.specs.declared.tpms.TpmsTaggedProperty.{TpmsTaggedProperty}
use Rattle.items.specs.declared.tpms.TpmsTaggedPolicy.{TpmsTaggedPolicy}
use Rattle.items.specs.declared.tpms.TpmsActData.{TpmsActData}

abbrev pub tpms_pcr_selection_parts : TpmsPcrSelection → List Part
tpms_pcr_selection_parts x = num x.hash.0 ∷ span_part x.pcr_select ∷ []

abbrev pub tpms_alg_property_parts : TpmsAlgProperty → List Part
tpms_alg_property_parts x = num x.alg.0 ∷ num x.alg_properties ∷ []

abbrev pub tpms_tagged_property_parts : TpmsTaggedProperty → List Part
tpms_tagged_property_parts x = num x.property ∷ num x.value ∷ []

abbrev pub tpms_tagged_policy_parts : TpmsTaggedPolicy → List Part
tpms_tagged_policy_parts x = num x.handle ∷ tpmt_ha_parts x.policy_hash

abbrev pub tpms_act_data_parts : TpmsActData → List Part
tpms_act_data_parts x = num x.handle ∷ num x.timeout ∷ num x.attributes ∷ []
