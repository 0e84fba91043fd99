-- The code is judged by its list. Assumes nothing.
use mathlib.Core.List.{[], ◌∷◌}
use Rattle.wire.specs.Records.{num}
use Rattle.wire.proofs.Search.{finds, refuses, leaves}
use Rattle.wire.proofs.Judged.{by_rule, judgements}
use Rattle.codes.proofs.code.read_code.Goals as goal

pub returns-then-is_listed : goal.returns-then-is_listed
returns-then-is_listed g c = finds (search (by_rule, judgements, c.in_ok-c.ensures))

pub returns-else-is_listed : goal.returns-else-is_listed
returns-else-is_listed g c = refuses (search (by_rule, judgements, c.in_ok-c.ensures))

pub returns-in_err-c : goal.returns-in_err-c
returns-in_err-c g c = leaves (λ x. num (g.C.Number.number x) ∷ []) _ _ c.from_residual.ensures (refuses (search (by_rule, judgements, c.in_err-c.ensures)))
