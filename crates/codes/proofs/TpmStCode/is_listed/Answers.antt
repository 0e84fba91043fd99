-- The ranges tested are the list's. Assumes nothing.
use Rattle.codes.proofs.Ranges.{attestation_tests}
use Rattle.codes.proofs.TpmStCode.is_listed.Goals as goal

pub returns : goal.returns
returns c = search attestation_tests
