-- The byte fields of a record, by index. Assumes nothing.
use Rattle.std.specs.Prelude.{ℕ, zero, suc, List, [], ◌∷◌, length}
use Rattle.faults.specs.Faults.{no_field}
use Rattle.wire.specs.Records.{Part, num, tag, span, Ans, found, refused}
use Rattle.wire.specs.Grammar.{Token, value, held, bytes}
use Rattle.wire.specs.Writing.{cut}

-- the byte fields of a record in wire order
abbrev pub spans : List Part → List Part
spans [] = []
spans (num n ∷ ps) = spans ps
spans (tag t ∷ ps) = spans ps
spans (span start len ∷ ps) = span start len ∷ spans ps

-- the bytes of the byte field with that index; `asked` is the index that the caller gave
abbrev pub pick_field : List Part → (index asked : ℕ) → List ℕ → Ans (List ℕ)
pick_field [] i asked src = refused (no_field asked)
pick_field (num n ∷ ps) i asked src = pick_field ps i asked src
pick_field (tag t ∷ ps) i asked src = pick_field ps i asked src
pick_field (span start len ∷ ps) zero asked src = cut src start len 0
pick_field (span start len ∷ ps) (suc i) asked src = pick_field ps i asked src

-- the bytes of the byte field with that index, or a refusal
unfoldable pub field_of : List Part → (index : ℕ) → List ℕ → Ans (List ℕ)
field_of ps i src = pick_field ps i i src

-- the bytes that a record shows, field by field in wire order: what its bytes tokens hold
abbrev pub bytes_shown : List Token → List (List ℕ)
bytes_shown [] = []
bytes_shown (value n ∷ ts) = bytes_shown ts
bytes_shown (held t ∷ ts) = bytes_shown ts
bytes_shown (bytes xs ∷ ts) = xs ∷ bytes_shown ts

-- of some byte strings the one with that index; `asked` is the index that a refusal names
abbrev pub pick : List (List ℕ) → (index asked : ℕ) → Ans (List ℕ)
pick [] i asked = refused (no_field asked)
pick (xs ∷ rest) zero asked = found xs
pick (xs ∷ rest) (suc i) asked = pick rest i asked

-- the bytes token with that index, or the refusal that there is none
abbrev pub bytes_token : List Token → (index : ℕ) → Ans (List ℕ)
bytes_token ts i = pick (bytes_shown ts) i i

-- the part of the source that is handed out, an empty one on refusal; and the companion answer to it
abbrev pub part_of : Ans (List ℕ) → List ℕ
part_of (found xs) = xs
part_of (refused f) = []

abbrev pub size_of : Ans (List ℕ) → Ans ℕ
size_of (found xs) = found (length xs)
size_of (refused f) = refused f
