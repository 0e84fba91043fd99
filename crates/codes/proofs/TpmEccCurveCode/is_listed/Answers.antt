-- The ranges tested are the list's. Assumes nothing.
use Rattle.codes.proofs.Ranges.{curve_tests}
use Rattle.codes.proofs.TpmEccCurveCode.is_listed.Goals as goal

pub returns : goal.returns
returns c = search curve_tests
