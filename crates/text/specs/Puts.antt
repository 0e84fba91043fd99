-- Bytes put into a slice. Assumes nothing.
use Rattle.std.specs.Prelude.{ℕ, ◌+◌, ◌≡◌, cond, List, ◌++◌, length, take, drop, leb}

-- the bytes bs stand at the place `at` of what was `old`, r the place behind them, and around them all is as it was
pub record Puts (at : ℕ) (bs old : List ℕ) (r : ℕ) (last : List ℕ) : Type 0 where
  pub behind : r ≡ at + length bs
  pub holds : last ≡ take at old ++ (bs ++ drop (at + length bs) old)

-- the bytes bs at the place `at` of old, if they fit there, and else old
abbrev pub fitted : (at : ℕ) (bs old : List ℕ) → List ℕ
fitted at bs old = cond (leb (at + length bs) (length old)) (take at old ++ (bs ++ drop (at + length bs) old)) old

-- r is how long the bytes bs are, and they were put if they fit
pub record Fits (at : ℕ) (bs old : List ℕ) (r : ℕ) (last : List ℕ) : Type 0 where
  pub size : r ≡ length bs
  pub holds : last ≡ fitted at bs old
