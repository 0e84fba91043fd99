-- It is judged: said of this type alone too, so that another body here falls at what it makes false. Assumes nothing.
use Rattle.steps.proofs.Marshalled.{measured}
use Rattle.signatures.proofs.tpmt.TpmtSignatureTpmMarshal.measure.Goals as goal

pub returns : goal.returns
returns c = search measured
