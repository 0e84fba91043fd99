-- Nothing is done but where the arm is judged. Assumes nothing.
use borrow.Author.Rules.{rules}
use native.Mathlib.Omega.{arith}
use mathlib.Core.Path.{ap, ◌∙◌}
use Rattle.faults.specs.Faults.{no_such_arm}
use Rattle.steps.proofs.Leaves.{refused_so, due_held, due_other, due_missing, due_passed}
use Rattle.steps.proofs.walk.Walk.due.Goals as goal

pub returns-then-self-ne-JUDGE : goal.returns-then-self-ne-JUDGE
returns-then-self-ne-JUDGE g c = due_passed _ _ _ _ (λ z. omega arith)

pub returns-then-held : goal.returns-then-held
returns-then-held g c = due_held _ _ _ _ (search rules) c.in-Some.is (search rules)

pub returns-else-held : goal.returns-else-held
returns-else-held g c = due_other _ _ _ _ (search rules) c.in-Some.is (search rules) (rw (← c.number.ensures.number) c.mismatch.ensures) c.refusing.ensures

pub returns-in-None : goal.returns-in-None
returns-in-None g c = due_missing _ _ _ _ (search rules) (search rules) (refused_so (c.no_arm.ensures ∙ ap (λ n. no_such_arm c.args.self.at n) c.number-in-None.ensures.number) c.refusing-in-None.ensures)
