-- After i turns n is what the first i bytes spell; a turn takes one byte more. Assumes nothing.
use Prim.Native.Nat.{◌+◌}
use native.Mathlib.Omega.{arith}
use mathlib.Core.Path.{sym}
use lib.Dec.{lit<}
use lib.ListN.{length-drop}
use Rattle.wire.proofs.Digits.{be_nil}
use Rattle.wire.proofs.Numbers.{be_more, more_fits, word}
use Rattle.wire.proofs.read.big_endian.Goals as goal

pub loop-i-init : goal.loop-i-init
loop-i-init c = (omega arith, sym be_nil)

pub overflow_mul-n : goal.overflow_mul-n
overflow_mul-n c =
    let l = c.loop-i in
    omega (arith, more_fits l.n 0 l.i l.invariant.0 (lit< tt), word (l.i + 1) (omega arith))

pub overflow_add-n-in-loop-i : goal.overflow_add-n-in-loop-i
overflow_add-n-in-loop-i c =
    let l = c.loop-i in
    omega (arith, more_fits l.n _ l.i l.invariant.0 (c.type_inv.s (c.args.at + l.i)).fits, word (l.i + 1) (omega arith))

pub loop-i-preserved : goal.loop-i-preserved
loop-i-preserved c =
    let l = c.loop-i in
    let a = c.args in (
      more_fits l.n _ l.i l.invariant.0 (c.type_inv.s (a.at + l.i)).fits,
      rw (be_more a.s.now a.at l.i (simp length-drop (omega arith)), ← l.invariant.1),
    )
