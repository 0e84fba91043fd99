-- What was read is walked over. Assumes nothing.
use Rattle.copies.proofs.Walked.{as_walked, not_walked}
use Rattle.copies.proofs.walk.walk_of.Goals as goal

pub returns-in-Ok : goal.returns-in-Ok
returns-in-Ok g c = as_walked _ _ c.in-Ok.ensures c.walk.ensures g.T.TpmMarshal.few (g.T.TpmMarshal.one_list _)

pub returns-in-Err : goal.returns-in-Err
returns-in-Err g c = not_walked _ _ c.in-Err.ensures c.refusing.ensures
