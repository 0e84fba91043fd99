-- No two answers of the code mean the same, so an equation on what an answer means determines it. Assumes nothing.
use mathlib.Core.Path.{refl}
use mathlib.Core.List.{List}
use mathlib.Core.Option.{some}
use Rattle.std.specs.Prelude.{Ok, Err}
use Rattle.wire.specs.Answers.{answer, number_parts, span_parts, measure_answer}
use Rattle.wire.specs.Records.{Part, found, refused}
use Rattle.wire.proofs.Once.{Injective, Once, undone, number_once, span_once, answers}

-- what was read, if its parts determine it
pub answer_once : {A : Type 0} {parts : A → List Part} → Once parts → Injective (answer parts)
answer_once {parts = parts} o = answers o (λ x e. Ok (x, e)) Err (answer parts) (λ back. elim [ Ok z ↦ back z.0 z.1 | Err f ↦ refl ])

pub number_answer_once : Injective (answer number_parts)
number_answer_once = answer_once number_once

pub span_answer_once : Injective (answer span_parts)
span_answer_once = answer_once span_once

pub measure_answer_once : Injective measure_answer
measure_answer_once = undone measure_answer (elim [ found n ↦ some (Ok n) | refused f ↦ some (Err f) ]) (elim [ Ok n ↦ refl | Err f ↦ refl ])
