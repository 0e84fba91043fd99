-- How far one step goes. Assumes nothing.
use Rattle.faults.specs.declared.Refusal.{Refusal}
use Rattle.std.specs.Prelude.{ℕ, ◌+◌, ◌≤◌, Err, Ok, Result}

-- no step is longer than a buffer with the greatest length that two bytes spell
abbrev pub Near : Result ℕ Refusal → (at : ℕ) → Type 0
Near (Ok e) at = e ≤ at + 0x10001
Near (Err f) at = Unit {0}
