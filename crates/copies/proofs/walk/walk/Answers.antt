-- The kind's own record is walked over; or there is no such kind. Assumes nothing.
use mathlib.Core.Path.{sym}
use Rattle.format.proofs.Numbered.{numbered_is_kind}
use Rattle.copies.proofs.Walked.{kind_walked, no_kind_walked}
use Rattle.copies.proofs.walk.walk.Goals as goal

pub returns-in-Ok : goal.returns-in-Ok
returns-in-Ok c = kind_walked _ _ _ _ _ (sym c.in-Ok.ensures) (numbered_is_kind c.in-Ok.of) c.walk_by_kind.ensures

pub returns-in-Err : goal.returns-in-Err
returns-in-Err c = let (told, none) = c.in-Err.ensures in no_kind_walked _ _ c.refusing.ensures told none
