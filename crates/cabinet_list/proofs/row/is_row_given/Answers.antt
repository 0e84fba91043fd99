-- The next record of the row is there, and is listed.
use Rattle.cabinet_list.proofs.Rows.{listed_none, listed_more, next_is_numbered, next_is_read}
use Rattle.cabinet_list.proofs.row.is_row_given.Goals as goal

pub loop-before-init : goal.loop-before-init
loop-before-init c = listed_none _ _ c.requires

pub unwrap-end-requires : goal.unwrap-end-requires
unwrap-end-requires c = next_is_read c.loop-before.invariant c.requires c.loop-before-test.true _ c.record_end.ensures

pub is_entry_given-requires : goal.is_entry_given-requires
is_entry_given-requires c = next_is_numbered c.loop-before.invariant c.requires c.loop-before-test.true c.record_end.ensures c.unwrap-end.ensures

pub loop-before-preserved : goal.loop-before-preserved
loop-before-preserved c = listed_more c.loop-before.invariant c.requires c.loop-before-test.true c.record_end.ensures c.unwrap-end.ensures
