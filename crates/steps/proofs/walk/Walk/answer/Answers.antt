-- By cases. Assumes nothing.
use mathlib.Core.Path.{refl}
use Rattle.steps.proofs.Leaves.{answer_far, answer_text_lem, answer_list, answer_no, answer_kept}
use Rattle.steps.proofs.walk.Walk.answer.Goals as goal

pub returns-then-self-lt-LINES : goal.returns-then-self-lt-LINES
returns-then-self-lt-LINES c = search answer_far

pub returns-then-self-eq-LINES : goal.returns-then-self-eq-LINES
returns-then-self-eq-LINES c = search answer_text_lem

pub returns-then-self-eq-LIST : goal.returns-then-self-eq-LIST
returns-then-self-eq-LIST c = search answer_list

pub returns : goal.returns
returns c = answer_kept _ refl refl refl (search answer_no)
