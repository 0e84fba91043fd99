-- Where the spans of a record lie, and what is left of its parts when places are forgotten. Assumes nothing.
use Rattle.std.specs.Prelude.{ℕ, ◌+◌, ◌≤◌, List, [], ◌∷◌, length}
use Rattle.wire.specs.Records.{Part, num, tag, span}

-- every span among the parts lies in src
abbrev pub Within : (src : List ℕ) → List Part → Type 0
Within src [] = Unit {0}
Within src (num n ∷ ps) = Within src ps
Within src (tag t ∷ ps) = Within src ps
Within src (span start len ∷ ps) = (start + len ≤ length src) × Within src ps

-- the parts with each span moved to the start 0, and all else as it is: two records are equal but for places when these are equal
abbrev pub unplaced : List Part → List Part
unplaced [] = []
unplaced (num n ∷ ps) = num n ∷ unplaced ps
unplaced (tag t ∷ ps) = tag t ∷ unplaced ps
unplaced (span start len ∷ ps) = span 0 len ∷ unplaced ps
