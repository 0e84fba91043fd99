-- The items of a list by their index, as the code has them. Assumes nothing.
use Rattle.std.specs.Prelude.{ℕ, ◌+◌, ◌≤◌, ◌≡◌, List, length, Result, Ok, Err}
use Rattle.faults.specs.declared.Refusal.{Refusal}
use Rattle.wire.specs.declared.span.Span.{Span}
use Rattle.wire.specs.Answers.{start_of, len_of}
use Rattle.wire.specs.Records.{Ans, found, refused}
use Rattle.wire.specs.Reading.{walk, read}
use Rattle.wire.specs.Writing.{cut}
use Rattle.wire.specs.Places.{start_if}
use Rattle.format.specs.declared.list.ListOf.{ListOf}
use Rattle.format.specs.Kinds.{item_layout}

-- the bytes of the item at a place, or why there is none
abbrev pub item_answer : Result Span Refusal → List ℕ → Ans (List ℕ)
item_answer (Ok s) src = cut src (start_of s) (len_of s) 0
item_answer (Err f) src = refused f

-- an item that is found lies in the bytes xs
abbrev pub ItemInside : Result Span Refusal → (xs : List ℕ) → Type 0
ItemInside (Ok s) xs = start_of s + len_of s ≤ length xs
ItemInside (Err f) xs = Unit {0}

-- where the item at a place starts; 0 where there is none
abbrev pub item_from : Result Span Refusal → List ℕ → ℕ
item_from (Ok s) src = start_if (cut src (start_of s) (len_of s) 0) (start_of s)
item_from (Err f) src = 0

-- an item that is found, the one with the index i, starts where the i items ahead of it end
abbrev pub ItemBehind : Result Span Refusal → ListOf → (i : ℕ) (xs : List ℕ) → Type 0
ItemBehind (Ok s) which i xs = found (start_of s) ≡ walk (λ s a. read (item_layout which) s a) i xs 4
ItemBehind (Err f) which i xs = Unit {0}
