-- A line a list. Assumes nothing.
use mathlib.Core.Path.{sym, ap}
use Rattle.format.specs.Kinds.{most_items}
use Rattle.format.proofs.list.ListOf.most.Goals as goal

pub returns-in-AlgProperty : goal.returns-in-AlgProperty
returns-in-AlgProperty c = sym (ap most_items c.in-AlgProperty.is)

pub returns-in-Handle : goal.returns-in-Handle
returns-in-Handle c = sym (ap most_items c.in-Handle.is)

pub returns-in-Cca : goal.returns-in-Cca
returns-in-Cca c = sym (ap most_items c.in-Cca.is)

pub returns-in-Cc : goal.returns-in-Cc
returns-in-Cc c = sym (ap most_items c.in-Cc.is)

pub returns-in-PcrSelection : goal.returns-in-PcrSelection
returns-in-PcrSelection c = sym (ap most_items c.in-PcrSelection.is)

pub returns-in-TaggedTpmProperty : goal.returns-in-TaggedTpmProperty
returns-in-TaggedTpmProperty c = sym (ap most_items c.in-TaggedTpmProperty.is)

pub returns-in-EccCurve : goal.returns-in-EccCurve
returns-in-EccCurve c = sym (ap most_items c.in-EccCurve.is)

pub returns-in-TaggedPolicy : goal.returns-in-TaggedPolicy
returns-in-TaggedPolicy c = sym (ap most_items c.in-TaggedPolicy.is)

pub returns-in-ActData : goal.returns-in-ActData
returns-in-ActData c = sym (ap most_items c.in-ActData.is)
