-- It is measured, and then put: said of this type alone too. Assumes nothing.
use Rattle.steps.proofs.Marshalled.{marshalled}
use Rattle.sensitive.proofs.tpmt.TpmtSensitiveTpmMarshal.marshal.Goals as goal

pub returns : goal.returns
returns c = search marshalled
