-- A part from a place to the end is all that stands from there on. Assumes nothing.
use borrow.Author.Rules.{rules}
use borrow.Author.Tests.{le-leb, lt-leb}
use Prim.Native.Nat.{◌-◌}
use native.Mathlib.Omega.{arith}
use mathlib.Core.Path.{sym}
use lib.ListN.{length, drop, length-drop, drop_of_length-le}
use lib.Seq.{take_all}
use Rattle.records.proofs.tail.tail_of.Goals as goal

pub returns-then-end-s : goal.returns-then-end-s
returns-then-end-s c =
    let s = c.args.s.now in
    let e = c.args.end in
    record { part = take_all (length s - e) (drop e s) (omega (arith, length-drop e s)); place = rw (le-leb e (length s) (omega arith)) (search rules) }

pub returns : goal.returns
returns c =
    let s = c.args.s.now in
    let e = c.args.end in
    record { part = sym (drop_of_length-le s {i = e} (omega arith)); place = rw (lt-leb e (length s) (omega arith)) (search rules) }
