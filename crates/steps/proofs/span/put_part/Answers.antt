-- The bytes are put, and the place is behind them. Assumes nothing.
use native.Mathlib.Omega.{arith}
use mathlib.Core.Path.{refl}
use Rattle.wire.specs.Answers.{start_of, len_of}
use Rattle.wire.specs.Writing.{cut}
use Rattle.steps.proofs.Leaves.{put_room, put_by, put_none}
use Rattle.steps.proofs.span.put_part.Goals as goal

pub overflow_add-result : goal.overflow_add-result
overflow_add-result c = omega (arith, put_room (cut c.args.src.now (start_of c.args.span) (len_of c.args.span) c.args.at) c.args.at c.args.out.now _ c.in-Ok.is c.put_span.ensures refl)

pub returns-in-Ok : goal.returns-in-Ok
returns-in-Ok c = search put_by

pub returns-in-Err : goal.returns-in-Err
returns-in-Err c = search put_none
