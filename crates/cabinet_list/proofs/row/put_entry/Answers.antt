-- The line fits at once, and every listing fits behind it.
use Rattle.cabinet_list.proofs.Rows.{line_inside, entry_is_listed, entry_puts}
use Rattle.cabinet_list.proofs.row.put_entry.Goals as goal

pub slice_bounds-list_record-count-2 : goal.slice_bounds-list_record-count-2
slice_bounds-list_record-count-2 c = line_inside _ _ c.requires.1 c.fit_answer-n.ensures

pub slice_bounds-list_record-start-2 : goal.slice_bounds-list_record-start-2
slice_bounds-list_record-start-2 c = line_inside _ _ c.requires.1 c.fit_answer-n.ensures

pub unwrap-m-requires : goal.unwrap-m-requires
unwrap-m-requires c = entry_is_listed _ _ c.requires.1 c.fit_answer-n.ensures _ _ c.list_record.ensures

pub returns : goal.returns
returns c = entry_puts _ _ c.requires.1 c.fit_answer-n.ensures _ _ c.list_record.ensures c.unwrap-m.ensures
