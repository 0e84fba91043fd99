-- The arm that is held is chosen by its own code alone. Assumes nothing.
use Rattle.capabilities.proofs.Arms.{is_own_arm}
use Rattle.capabilities.proofs.tpmu.TpmuCapabilitiesTpmTagged.matches_tag.Goals as goal

pub returns : goal.returns
returns c = is_own_arm _ c.args.self c.code.ensures
