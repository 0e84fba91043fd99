-- The numbers whose bits the code's two words have are the list's. Assumes nothing.
use native.Mathlib.Omega.{arith}
use mathlib.Core.Path.{refl}
use mathlib.Core.List.{[], ◌∷◌}
use Rattle.codes.specs.declared.TheConstants.{LISTED_LOW, LISTED_HIGH}
use Rattle.codes.specs.Codes.{algorithms, is_algorithm}
use Rattle.codes.proofs.Bits.{SetIs, set_is_rule, none_past, first_word, second_word, past_words}
use Rattle.codes.proofs.TpmAlgIdCode.is_listed.Goals as goal

abbrev Listed : Type 0
Listed = SetIs (LISTED_LOW ∷ LISTED_HIGH ∷ []) 128 is_algorithm

listed : Listed
unfolding algorithms is_algorithm
listed = set_is_rule (LISTED_LOW ∷ LISTED_HIGH ∷ []) 128 is_algorithm refl (none_past algorithms 128 refl)

pub returns-in-0-to-63 : goal.returns-in-0-to-63
returns-in-0-to-63 c = first_word listed c.args.self.0 (omega arith) (omega arith)

pub returns-in-64-to-127 : goal.returns-in-64-to-127
returns-in-64-to-127 c = second_word listed c.args.self.0 (omega arith) (omega arith) (omega arith)

pub returns-in_default : goal.returns-in_default
returns-in_default c = past_words listed c.args.self.0 (omega arith)
