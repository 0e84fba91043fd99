-- One list is read, that of the row which the capability chooses. Assumes nothing.
use mathlib.Core.Path.{sym, ap, ◌∙◌}
use Rattle.faults.specs.Faults.{no_such_arm}
use Rattle.wire.specs.Records.{refused}
use Rattle.wire.proofs.Search.{leaves}
use Rattle.capabilities.specs.Parts.{tpmu_capabilities_parts}
use Rattle.capabilities.proofs.Arms.{capability_found, capability_refused, no_capability_arm}
use Rattle.capabilities.proofs.tpmu.TpmuCapabilitiesTpmTagged.unmarshal_tagged.Goals as goal

pub returns-in_err-items-in-Some : goal.returns-in_err-items-in-Some
returns-in_err-items-in-Some c =
    leaves tpmu_capabilities_parts _ _ c.from_residual.ensures
    (capability_refused c.args.tag.0 c.args.at c.args.s.now _ (sym c.capabilities_arm.ensures ∙ c.in-Some.is) c.of-arm.ensures c.list_of.ensures c.in_err-items-in-Some.ensures)

pub returns-in_ok-items-in-Some : goal.returns-in_ok-items-in-Some
returns-in_ok-items-in-Some c = capability_found c.args.tag.0 c.args.at c.args.s.now _ (sym c.capabilities_arm.ensures ∙ c.in-Some.is) c.of-arm.ensures c.list_of.ensures c.in_ok-items-in-Some.ensures c.of.ensures

pub returns-in-None : goal.returns-in-None
returns-in-None c = ap refused (c.no_arm.ensures ∙ ap (λ v. no_such_arm c.args.at v) c.from.ensures)
    ∙ no_capability_arm c.args.tag.0 c.args.at c.args.s.now (sym c.in-None.is ∙ c.capabilities_arm.ensures)
