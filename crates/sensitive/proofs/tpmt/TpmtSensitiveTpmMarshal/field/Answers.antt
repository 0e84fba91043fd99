-- The field that was sought: said of this type alone too. Assumes nothing.
use Rattle.steps.proofs.Found.{sought_bytes, sought_place}
use Rattle.sensitive.proofs.tpmt.TpmtSensitiveTpmMarshal.field.Goals as goal

pub returns : goal.returns
returns c = record { part = search sought_bytes; place = search sought_place }
