-- Too many bytes are not read. Assumes nothing.
use native.Mathlib.Omega.{arith}
use Rattle.wire.proofs.Search.{leaves_measure}
use Rattle.format.proofs.Numbered.{decoded_kind}
use Rattle.listing.proofs.Deposits.{no_kind_unread, kind_unread, end_judged, end_unread}
use Rattle.listing.proofs.deposit.judge.Goals as goal

pub returns-in_err-try_from : goal.returns-in_err-try_from
returns-in_err-try_from c =
    let (told, none) = c.in_err-try_from.ensures in
    leaves_measure _ _ c.from_residual.ensures (end_unread _ _ (omega arith) (no_kind_unread _ told none))

pub returns-then-bytes-gt-RECORD_MOST : goal.returns-then-bytes-gt-RECORD_MOST
returns-then-bytes-gt-RECORD_MOST c = end_unread _ _ (omega arith) (kind_unread _ c.oversize.ensures (decoded_kind _ _ c.in_ok-try_from.ensures))

pub returns : goal.returns
returns c = end_judged _ _ (omega arith) c.record_end.ensures.answer
