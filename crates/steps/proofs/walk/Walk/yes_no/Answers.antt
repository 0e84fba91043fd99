-- Put, or aside. Assumes nothing.
use Rattle.wire.specs.declared.width.Width.TheVariants.{One}
use Rattle.codes.specs.Codes.{yes_no}
use Rattle.text.specs.declared.line.Word.TheVariants.{Number}
use Prim.Native.Nat.{◌<◌, ◌^◌}
use mathlib.Core.Path.{◌≡◌, refl}
use Rattle.steps.proofs.Numbers.{put_numbers, aside_numbers, is_yes_no_lem}
use Rattle.steps.proofs.walk.Walk.yes_no.Goals as goal

pub returns-then-self-eq-PUT : goal.returns-then-self-eq-PUT
returns-then-self-eq-PUT c = search (put_numbers One yes_no)

pub returns : goal.returns
returns c = let told : (c.number-n.result ≡ c.args.b) × (c.args.b < 256 ^ 1) = (c.number-n.ensures.number, c.number-n.ensures.fits) in aside_numbers One yes_no Number _ _ _ _ _ _ _ c.if-self-eq-PUT.false told (is_yes_no_lem _ _ told) c.bad_value.ensures c.aside.ensures refl
