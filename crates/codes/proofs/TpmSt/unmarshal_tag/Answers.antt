-- The tag is judged by its ticket. Assumes nothing.
use Rattle.wire.proofs.Search.{finds, refuses, leaves}
use Rattle.wire.proofs.Judged.{by_rule, judgements}
use Rattle.codes.specs.Answers.{tpm_st_parts}
use Rattle.codes.proofs.TpmSt.unmarshal_tag.Goals as goal

pub returns-then-is_tag_of : goal.returns-then-is_tag_of
returns-then-is_tag_of c = finds (search (by_rule, judgements, c.in_ok-t.ensures))

pub returns-else-is_tag_of : goal.returns-else-is_tag_of
returns-else-is_tag_of c = refuses (search (by_rule, judgements, c.in_ok-t.ensures))

pub returns-in_err-t : goal.returns-in_err-t
returns-in_err-t c = leaves tpm_st_parts _ _ c.from_residual.ensures (refuses (search (by_rule, judgements, c.in_err-t.ensures)))
