-- The numbers up to the last are the list. Assumes nothing.
use Rattle.codes.proofs.Ranges.{cap_test}
use Rattle.codes.proofs.TpmCapCode.is_listed.Goals as goal

pub returns : goal.returns
returns c = cap_test c.args.self.0
