-- What no pattern has is no kind. Assumes nothing.
use Rattle.format.proofs.Numbered.{none_of}
use Rattle.format.proofs.kind.KindTryFromU8.try_from.Goals as goal

pub returns-in_default : goal.returns-in_default
returns-in_default c = (rw (← c.from.ensures) c.bad_kind.ensures, none_of c.args.number c.in_default.in_default-own.rest)
