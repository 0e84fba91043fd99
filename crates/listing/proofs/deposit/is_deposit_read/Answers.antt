-- As the record is, or no byte at all. Assumes nothing.
use native.Mathlib.Omega.{arith}
use mathlib.Core.Path.{ap, ◌∙◌}
use Rattle.listing.specs.Listing.{is_found}
use Rattle.listing.proofs.Deposits.{nothing_answered, kind_answered}
use Rattle.listing.proofs.deposit.is_deposit_read.Goals as goal

pub returns-in-empty : goal.returns-in-empty
returns-in-empty c = nothing_answered _ (omega arith)

pub returns-in-len1-up : goal.returns-in-len1-up
returns-in-len1-up c = c.is_record_read.ensures ∙ ap is_found (kind_answered _ (omega arith))
