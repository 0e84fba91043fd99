-- The first byte is the kind, or the deposit is empty. Assumes nothing.
use native.Mathlib.Omega.{arith}
use Rattle.listing.proofs.Deposits.{empty_listing, kind_listing, deposit_listed}
use Rattle.listing.proofs.deposit.list_deposit.Goals as goal

pub returns-in-empty : goal.returns-in-empty
returns-in-empty c = deposit_listed _ (empty_listing _ (omega arith)) c.list_record.ensures

pub returns-in-len1-up : goal.returns-in-len1-up
returns-in-len1-up c = deposit_listed _ (kind_listing _ (omega arith)) c.list_record-in-len1-up.ensures
