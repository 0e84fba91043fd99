-- The digits are put, and the place is behind them. Assumes nothing.
use native.Mathlib.Omega.{arith}
use mathlib.Core.Path.{refl}
use Rattle.wire.specs.Answers.{width_of}
use Rattle.wire.specs.Bytes.{digits}
use Rattle.wire.specs.Records.{found}
use Rattle.steps.proofs.Leaves.{put_room, put_by, put_none}
use Rattle.steps.proofs.number.put_digits.Goals as goal

pub overflow_add-result : goal.overflow_add-result
overflow_add-result c = omega (arith, put_room (found (digits (width_of c.args.w) c.args.n)) c.args.at c.args.out.now _ c.in-Ok.is c.put_number.ensures refl)

pub returns-in-Ok : goal.returns-in-Ok
returns-in-Ok c = search put_by

pub returns-in-Err : goal.returns-in-Err
returns-in-Err c = search put_none
