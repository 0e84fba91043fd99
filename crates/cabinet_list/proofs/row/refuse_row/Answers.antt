-- The line of a refusal lies in the room for it.
use Rattle.std.proofs.Common.{sym, arith}
use Rattle.std.proofs.lemmas.List.{length-take-le}
use Rattle.cabinet_list.proofs.Rows.{refusal_inside}
use Rattle.cabinet_list.proofs.row.refuse_row.Goals as goal

pub slice_bounds-line-end : goal.slice_bounds-line-end
slice_bounds-line-end c = refusal_inside _ c.args.refusal (omega arith) c.fit_answer-n.ensures

pub slice_bounds-write_listing-end : goal.slice_bounds-write_listing-end
slice_bounds-write_listing-end c = sym (length-take-le _ _ (refusal_inside _ c.args.refusal (omega arith) c.fit_answer-n.ensures))
