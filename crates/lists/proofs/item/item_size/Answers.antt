-- The item of the list that was found. Assumes nothing.
use Rattle.wire.specs.Fields.{size_of}
use Rattle.wire.proofs.Search.{leaves_measure}
use Rattle.lists.proofs.Items.{list_item, no_item}
use Rattle.lists.proofs.item.item_size.Goals as goal

pub returns-in_err-item : goal.returns-in_err-item
returns-in_err-item c ls told = leaves_measure _ _ c.from_residual.ensures (search (list_item size_of, c.in_err-item.ensures.s_value))

pub returns-then-w-eq-FOUND : goal.returns-then-w-eq-FOUND
returns-then-w-eq-FOUND c ls told = search (list_item size_of, c.in_ok-item.ensures.s_value)

pub returns : goal.returns
returns c ls told = search (no_item size_of)
