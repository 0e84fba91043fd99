-- There is room for any, or for this one; or it is refused. Assumes nothing.
use native.Mathlib.Omega.{arith}
use Rattle.listing.proofs.Deposits.{listed, not_listed}
use Rattle.listing.proofs.deposit.list_record.Goals as goal
use Rattle.listing.proofs.deposit.list_record.Goals.{then-out-lt-LISTING_ROOM+else-out-need, else-out-lt-LISTING_ROOM}

pub returns-then-out-need : goal.returns-then-out-need
returns-then-out-need c = not_listed c.no_room.ensures c.record_size-need.ensures c.if-out-need.true

pub returns : goal.returns
returns c =
    let counts = c.put_record.ensures in
    listed (elim c.if-out-lt-LISTING_ROOM.branch [ then-out-lt-LISTING_ROOM+else-out-need w ↦ omega (arith, w.record_size-need.ensures) | else-out-lt-LISTING_ROOM w ↦ omega (arith, counts.most) ]) counts
