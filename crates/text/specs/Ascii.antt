-- Words as the bytes that are printed. Assumes nothing.
use Rattle.std.specs.Prelude.{ℕ, List, [] as none, ◌∷◌ as ◌and◌}
use Prim.Native.Char.{code}
use Prim.Native.String.{String, [], ◌∷◌}

-- the codes of a text's characters; every character that is printed here is one byte
abbrev pub ascii : String → List ℕ
ascii [] = none
ascii (c ∷ s) = code c and ascii s
