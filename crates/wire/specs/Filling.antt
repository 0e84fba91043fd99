-- What is written into a lent buffer from the place `at` on, and what the buffer holds then; and what a size that was measured says of
-- both. Assumes nothing.
use Rattle.std.specs.Prelude.{ℕ, ◌+◌, ◌-◌, List, ◌++◌, Bool, cond, length, take, drop, leb}
use Rattle.faults.specs.Faults.{no_room}
use Rattle.wire.specs.Records.{Ans, found, refused}

-- the bytes bs fit there
abbrev pub fits : (at : ℕ) (bs old : List ℕ) → Bool
fits at bs old = leb (length bs) (length old - at)

-- what a writer answers: how many bytes it put, or why none
abbrev pub written : (at : ℕ) → Ans (List ℕ) → (old : List ℕ) → Ans ℕ
written at (found bs) old = cond (fits at bs old) (found (length bs)) (refused (no_room at (length bs)))
written at (refused f) old = refused f

-- what the buffer holds then: the bytes at their place, and elsewhere what was there; or all that was there
abbrev pub filled : (at : ℕ) → Ans (List ℕ) → (old : List ℕ) → List ℕ
filled at (found bs) old = cond (fits at bs old) (take at old ++ (bs ++ drop (length bs + at) old)) old
filled at (refused f) old = old

-- ---- a size that was measured, and a room for it

-- the same answer, but NoRoom at 0 with the size, where the size passes the room
abbrev pub roomed : (room : ℕ) → Ans ℕ → Ans ℕ
roomed room (found n) = cond (leb n room) (found n) (refused (no_room 0 n))
roomed room (refused f) = refused f

-- how many of the bytes that are there are lent for it: as many as the size says, all where there are fewer, none for a refusal
abbrev pub lend : Ans ℕ → (there : ℕ) → ℕ
lend (found n) there = cond (leb n there) n there
lend (refused f) there = 0
