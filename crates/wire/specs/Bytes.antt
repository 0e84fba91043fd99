-- Bytes, and the numbers that they spell, the most significant byte first. Assumes nothing.
use Rattle.std.specs.Prelude.{ℕ, zero, suc, ◌+◌, ◌*◌, ◌/◌, ◌%◌, ◌<◌, List, [], ◌∷◌, ◌++◌}

-- each number of the list is a byte
abbrev pub Bytes : List ℕ → Type 0
Bytes [] = Unit {0}
Bytes (x ∷ xs) = (x < 256) × Bytes xs

-- the number that xs spells, behind the digits of acc
abbrev pub be_from : ℕ → List ℕ → ℕ
be_from acc [] = acc
be_from acc (x ∷ xs) = be_from (acc * 256 + x) xs

-- the number that the bytes xs spell
unfoldable pub be : List ℕ → ℕ
be xs = be_from 0 xs

-- the last w digits of n to the base 256: the w bytes that spell n, if n is below 256 ^ w
unfoldable pub digits : ℕ → ℕ → List ℕ
digits zero n = []
digits (suc w) n = digits w (n / 256) ++ (n % 256 ∷ [])
