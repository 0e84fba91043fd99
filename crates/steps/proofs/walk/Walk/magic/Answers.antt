-- Put, or aside. Assumes nothing.
use Rattle.wire.specs.declared.width.Width.TheVariants.{Four}
use Rattle.codes.specs.Codes.{magic}
use Rattle.text.specs.declared.line.Word.TheVariants.{Number}
use Prim.Native.Nat.{◌<◌, ◌^◌}
use mathlib.Core.Path.{◌≡◌, refl}
use Rattle.steps.proofs.Numbers.{put_numbers, aside_numbers, is_magic_lem}
use Rattle.steps.proofs.walk.Walk.magic.Goals as goal

pub returns-then-self-eq-PUT : goal.returns-then-self-eq-PUT
returns-then-self-eq-PUT c = search (put_numbers Four magic)

pub returns : goal.returns
returns c = let told : (c.number-n.result ≡ c.args.m) × (c.args.m < 256 ^ 4) = (c.number-n.ensures.number, c.number-n.ensures.fits) in aside_numbers Four magic Number _ _ _ _ _ _ _ c.if-self-eq-PUT.false told (is_magic_lem _ _ told) c.bad_value.ensures c.aside.ensures refl
