-- The digits fit if their number is no more than the bytes that are left there. Assumes nothing.
use native.Mathlib.Omega.{arith}
use mathlib.Core.Path.{sym}
use Rattle.wire.specs.Bytes.{digits}
use Rattle.wire.proofs.Digits.{length_digits}
use Rattle.wire.proofs.Widths.{width_range}
use Rattle.wire.proofs.Filling.{fits_put, fits_not}
use Rattle.puts.proofs.write.put_number.Goals as goal

pub put_digits-requires : goal.put_digits-requires
put_digits-requires c = omega (arith, width_range c.args.w)

pub returns-then-count-left : goal.returns-then-count-left
returns-then-count-left c =
    let a = c.args in
    rw (← c.bytes-count.ensures)
    (fits_put a.at (digits c.bytes-count.result a.n) a.out.now (sym (length_digits c.bytes-count.result a.n)) (omega arith) c.put_digits.ensures)

pub returns : goal.returns
returns c =
    let a = c.args in
    rw (c.no_room.ensures, ← c.bytes-count.ensures)
    (fits_not a.at (digits c.bytes-count.result a.n) a.out.now (sym (length_digits c.bytes-count.result a.n)) (omega arith))
