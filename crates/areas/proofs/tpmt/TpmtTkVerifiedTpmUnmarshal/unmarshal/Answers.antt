-- Field by field, what is left to read is the rest of the layout. Assumes nothing.
use Rattle.wire.proofs.Search.{finds, refuses, leaves, reading}
use Rattle.format.specs.Kinds.{tpmt_tk_verified}
use Rattle.areas.specs.Parts.{tpmt_tk_verified_parts}
use Rattle.areas.proofs.tpmt.TpmtTkVerifiedTpmUnmarshal.unmarshal.Goals as goal

pub returns-in_err-tag : goal.returns-in_err-tag
unfolding tpmt_tk_verified
returns-in_err-tag c = leaves tpmt_tk_verified_parts _ _ c.from_residual.ensures (refuses (search (reading, c.in_err-tag.ensures)))

pub returns-in_err-body : goal.returns-in_err-body
unfolding tpmt_tk_verified
returns-in_err-body c = leaves tpmt_tk_verified_parts _ _ c.from_residual-in_err-body.ensures (refuses (search (reading, c.in_ok-tag.ensures, c.in_err-body.ensures)))

pub returns : goal.returns
unfolding tpmt_tk_verified
returns c = finds (search (reading, c.in_ok-tag.ensures, c.in_ok-body.ensures))
