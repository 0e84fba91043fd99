-- The part of the span that was found. Assumes nothing.
use Rattle.wire.specs.Fields.{part_of}
use Rattle.steps.proofs.Found.{rules, found_part, none_part, found_place, none_place}
use Rattle.steps.proofs.walk.Walk.part.Goals as goal

pub returns-then-self-eq-FOUND : goal.returns-then-self-eq-FOUND
returns-then-self-eq-FOUND c = record { by_index = λ asked. search (found_part part_of); place = search found_place }

pub returns : goal.returns
returns c = record { by_index = λ asked. search (none_part part_of); place = none_place _ _ c.if-self-eq-FOUND.false (search rules) }
