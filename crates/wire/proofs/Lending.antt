-- How many bytes are lent for what was measured. Assumes nothing.
use Prim.Native.Nat.{ℕ, ◌≤◌, ◌<◌}
use native.Mathlib.Omega.{arith}
use mathlib.Core.Path.{◌≡◌}
use borrow.Author.Tests.{lt-leb}
use Rattle.faults.specs.declared.Refusal.{Refusal}
use Rattle.std.specs.Prelude.{Result, Ok}
use Rattle.wire.specs.Answers.{measure_answer}
use Rattle.wire.specs.Filling.{lend}

pub lends_all : (m : Result ℕ Refusal) (n there : ℕ) → m ≡ Ok n → there < n → (there ≡ lend (measure_answer m) there) × (there ≤ there)
lends_all m n there e h = (rw (e, lt-leb n there h), omega arith)
