-- What calls of read and write answer of a slice. Assumes nothing.
use Rattle.std.specs.Prelude.{ℕ, ◌≤◌, Option, Result, IfOk, IfSome}

-- bytes that a call moved: no more than there are
abbrev pub MovedWithin : {E : Type 0} → Result (Option ℕ) E → ℕ → Type 0
MovedWithin r most = IfOk r (λ moved. IfSome moved (λ n. n ≤ most))

-- bytes that were read: no more than there is room for
abbrev pub TakenWithin : {E : Type 0} → Result ℕ E → ℕ → Type 0
TakenWithin r most = IfOk r (λ n. n ≤ most)
