-- Field by field, what is left to read is the rest of the layout. Assumes nothing.
use Rattle.wire.proofs.Search.{finds, refuses, leaves, reading}
use Rattle.format.specs.Kinds.{ticket_body}
use Rattle.areas.specs.Parts.{ticket_body_parts}
use Rattle.areas.proofs.ticket.TicketBodyTpmUnmarshal.unmarshal.Goals as goal

pub returns-in_err-hierarchy : goal.returns-in_err-hierarchy
unfolding ticket_body
returns-in_err-hierarchy c = leaves ticket_body_parts _ _ c.from_residual.ensures (refuses (search (reading, c.in_err-hierarchy.ensures)))

pub returns-in_err-digest : goal.returns-in_err-digest
unfolding ticket_body
returns-in_err-digest c = leaves ticket_body_parts _ _ c.from_residual-in_err-digest.ensures (refuses (search (reading, c.in_ok-hierarchy.ensures, c.in_err-digest.ensures)))

pub returns : goal.returns
unfolding ticket_body
returns c = finds (search (reading, c.in_ok-hierarchy.ensures, c.in_ok-digest.ensures))
