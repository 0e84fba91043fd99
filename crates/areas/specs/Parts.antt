-- The parts of NV areas and of tickets, in wire order; of the union the arm that it holds comes first. Assumes nothing.
use Rattle.std.specs.Prelude.{List, [], ◌∷◌}
use Rattle.wire.specs.Answers.{span_part}
use Rattle.wire.specs.Records.{Part, num, tag}
use Rattle.codes.specs.Codes.{ht_nv_index, ht_external_nv, ht_permanent_nv}
use Rattle.areas.specs.declared.ticket.TicketBody.{TicketBody}
use Rattle.areas.specs.declared.tpms.NvPublicTail.{NvPublicTail}
use Rattle.areas.specs.declared.tpms.TpmsNvPublic.{TpmsNvPublic}
use Rattle.areas.specs.declared.tpms.TpmsNvPublicExpAttr.{TpmsNvPublicExpAttr}
use Rattle.areas.specs.declared.tpmu.TpmuNvPublic2.{TpmuNvPublic2}
use Rattle.areas.specs.declared.tpmt.TpmtNvPublic2.{TpmtNvPublic2}
use Rattle.areas.specs.declared.tpmt.TpmtTkCreation.{TpmtTkCreation}
use Rattle.areas.specs.declared.tpmt.TpmtTkVerified.{TpmtTkVerified}
use Rattle.areas.specs.declared.tpmt.TpmtTkHashcheck.{TpmtTkHashcheck}
use Rattle.areas.specs.declared.tpmt.TpmtTkAuth.{TpmtTkAuth}

-- what both areas end with
abbrev pub nv_public_tail_parts : NvPublicTail → List Part
nv_public_tail_parts x = span_part x.auth_policy ∷ num x.data_size ∷ []

abbrev pub tpms_nv_public_parts : TpmsNvPublic → List Part
tpms_nv_public_parts x = num x.nv_index ∷ num x.name_alg.0 ∷ num x.attributes.0 ∷ span_part x.auth_policy ∷ num x.data_size ∷ []

abbrev pub tpms_nv_public_exp_attr_parts : TpmsNvPublicExpAttr → List Part
tpms_nv_public_exp_attr_parts x = num x.nv_index ∷ num x.name_alg.0 ∷ num x.attributes.0 ∷ span_part x.auth_policy ∷ num x.data_size ∷ []

abbrev pub tpmu_nv_public2_parts : TpmuNvPublic2 → List Part
tpmu_nv_public2_parts (TpmuNvPublic2.NvIndex x) = tag ht_nv_index ∷ tpms_nv_public_parts x
tpmu_nv_public2_parts (TpmuNvPublic2.ExternalNv x) = tag ht_external_nv ∷ tpms_nv_public_exp_attr_parts x
tpmu_nv_public2_parts (TpmuNvPublic2.PermanentNv x) = tag ht_permanent_nv ∷ tpms_nv_public_parts x

abbrev pub tpmt_nv_public2_parts : TpmtNvPublic2 → List Part
tpmt_nv_public2_parts x = num x.handle_type.0 ∷ tpmu_nv_public2_parts x.public_area

-- what every ticket has behind its tag
abbrev pub ticket_body_parts : TicketBody → List Part
ticket_body_parts x = num x.hierarchy.0 ∷ span_part x.digest ∷ []

abbrev pub tpmt_tk_creation_parts : TpmtTkCreation → List Part
tpmt_tk_creation_parts x = num x.tag.0 ∷ num x.hierarchy.0 ∷ span_part x.digest ∷ []

abbrev pub tpmt_tk_verified_parts : TpmtTkVerified → List Part
tpmt_tk_verified_parts x = num x.tag.0 ∷ num x.hierarchy.0 ∷ span_part x.digest ∷ []

abbrev pub tpmt_tk_hashcheck_parts : TpmtTkHashcheck → List Part
tpmt_tk_hashcheck_parts x = num x.tag.0 ∷ num x.hierarchy.0 ∷ span_part x.digest ∷ []

abbrev pub tpmt_tk_auth_parts : TpmtTkAuth → List Part
tpmt_tk_auth_parts x = num x.tag.0 ∷ num x.hierarchy.0 ∷ span_part x.digest ∷ []
