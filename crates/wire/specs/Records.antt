-- What a record keeps of its fields, what an answer is, and how many bytes are left: for the grammar and for readers alike.
-- Assumes nothing.
use Rattle.std.specs.Prelude.{ℕ, ◌-◌, List, length}
use Rattle.faults.specs.declared.Refusal.{Refusal}

-- what a record keeps of a field: a number, the arm that a union holds, or where bytes stand
pub data Part : Type 0 where
  num : ℕ → Part
  tag : ℕ → Part
  span : (start len : ℕ) → Part

-- an answer: a value, or a refusal
pub data Ans (A : Type 0) : Type 0 where
  found : A → Ans A
  refused : Refusal → Ans A

-- a, and with its value k; the first refusal decides
abbrev pub next : {A B : Type 0} → Ans A → (A → Ans B) → Ans B
next (found a) k = k a
next (refused f) k = refused f

-- the parts of a record in wire order, and the place where it ends
pub record Parsed : Type 0 where
  pub parts : List Part
  pub stops : ℕ

-- a record was found, with these parts, and ends there
abbrev pub parsed : List Part → ℕ → Ans Parsed
parsed ps e = found (record { parts = ps; stops = e })

-- how many bytes are left from a place on: none past the end
abbrev pub left : List ℕ → ℕ → ℕ
left src at = length src - at
