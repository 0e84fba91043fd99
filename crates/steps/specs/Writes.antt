-- What is owed to whoever has a record measured, or written into a lent buffer. Assumes nothing.
use Rattle.std.specs.Prelude.{ℕ, ◌≡◌, List, Result}
use Rattle.faults.specs.declared.Refusal.{Refusal}
use Rattle.wire.specs.Answers.{measure_answer}
use Rattle.wire.specs.Layout.{Layout}
use Rattle.wire.specs.Records.{Part}
use Rattle.wire.specs.Writing.{lay}
use Rattle.wire.specs.Filling.{written, filled}
use Rattle.wire.specs.Fields.{size_of}
use Rattle.wire.specs.Unwritten.{Shaped}

-- What a measure owes: its answer, and that the record's parts are ones of the layout. The spans of the parts ps are of src, and r was
-- answered
pub record Measures (l : Layout) (ps : List Part) (src : List ℕ) (r : Result ℕ Refusal) : Type 0 where
  -- how many bytes the record is written as, or the first refusal in wire order; there is no buffer that could want room
  pub answer : measure_answer r ≡ size_of (lay l ps src 0)
  -- no record of the code has another shape than its layout, or a number that its field cannot hold
  pub shaped : Shaped l ps

-- What a writer owes: its answer, all that the buffer holds afterwards, and that the record's parts are ones of the layout. The spans of
-- the parts ps are of src; the buffer held old before and holds last now, and r was answered
pub record Writes (l : Layout) (ps : List Part) (src old : List ℕ) (r : Result ℕ Refusal) (last : List ℕ) : Type 0 where
  -- the record's size, or the first refusal in wire order
  pub answer : measure_answer r ≡ written 0 (lay l ps src 0) old
  -- the record's bytes and then what was there, or all that was there
  pub buffer : last ≡ filled 0 (lay l ps src 0) old
  -- no record of the code has another shape than its layout, or a number that its field cannot hold
  pub shaped : Shaped l ps
