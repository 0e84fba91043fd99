-- The one line of a refusal, or the first line of a record and those that a walk over it puts. Assumes nothing.
use Rattle.wire.proofs.Stand.{bytes_of}
use Rattle.listing.proofs.Deposits.{judged_refused, refusal_listed, read_as, record_listed}
use Rattle.listing.proofs.deposit.put_record.Goals as goal

pub overflow_sub-tail : goal.overflow_sub-tail
overflow_sub-tail c = (read_as _ _ (bytes_of c.args.bytes.now (λ i. (c.type_inv.bytes i).fits)) c.judge.ensures c.in-Ok.is).inside

pub returns-in-Ok : goal.returns-in-Ok
returns-in-Ok c =
    let bytes = bytes_of c.args.bytes.now (λ i. (c.type_inv.bytes i).fits) in
    let read = read_as _ _ bytes c.judge.ensures c.in-Ok.is in
    record_listed read bytes c.fit_answer-first.ensures c.lining.ensures c.walk-lines.ensures

pub returns-in-Err : goal.returns-in-Err
returns-in-Err c = refusal_listed _ _ (judged_refused _ _ c.judge.ensures c.in-Err.is) c.fit_answer.ensures
