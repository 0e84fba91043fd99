-- What the arguments say: the number of a kind, in decimal digits; and the word for a row. Assumes nothing.
use Rattle.std.specs.Prelude.{ℕ, ◌+◌, ◌*◌, ◌-◌, Bool, false, cond, ◌&&◌, List, [], ◌∷◌, leb, eqb, Option, Some, None}

-- a digit; nothing for any other byte
abbrev pub digit_of : ℕ → Option ℕ
digit_of c = cond (leb 48 c && leb c 57) (Some (c - 48)) None

-- two digits, if both are there
abbrev pub two_digits : Option ℕ → Option ℕ → Option ℕ
two_digits (Some a) (Some b) = Some (10 * a + b)
two_digits (Some a) None = None
two_digits None b = None

-- one digit or two; nothing for anything else
abbrev pub number_of : List ℕ → Option ℕ
number_of [] = None
number_of (a ∷ []) = digit_of a
number_of (a ∷ b ∷ []) = two_digits (digit_of a) (digit_of b)
number_of (a ∷ b ∷ c ∷ cs) = None

-- the word `run`, and no other
abbrev pub is_run : List ℕ → Bool
is_run [] = false
is_run (a ∷ []) = false
is_run (a ∷ b ∷ []) = false
is_run (a ∷ b ∷ c ∷ []) = eqb a 114 && (eqb b 117 && eqb c 110)
is_run (a ∷ b ∷ c ∷ d ∷ ds) = false
