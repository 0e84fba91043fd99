-- How many bytes a record with these parts takes: the sizes of its fields, added up. Assumes nothing.
use Rattle.std.specs.Prelude.{ℕ, ◌+◌, List, [], ◌∷◌}
use Rattle.wire.specs.Layout.{Layout, stop, no_arm, arm, number, plain, buffer, counted}
use Rattle.wire.specs.Records.{Part, num, tag, span}

-- the number that a part holds; 0 where it holds none
abbrev pub number_of : Part → ℕ
number_of (num n) = n
number_of (tag t) = 0
number_of (span start len) = 0

-- how many bytes a part stands for; 0 where it stands for none
abbrev pub length_of : Part → ℕ
length_of (num n) = 0
length_of (tag t) = 0
length_of (span start len) = len

-- a number takes its width, a buffer the width of its length besides its bytes, and plain bytes and a list take their own; an arm takes none
unfoldable pub sizes_of : Layout → List Part → ℕ
sizes_of l [] = 0
sizes_of stop (p ∷ ps) = 0
sizes_of (no_arm v) (p ∷ ps) = 0
sizes_of (arm v t l) (p ∷ ps) = sizes_of l ps
sizes_of (number w r k) (p ∷ ps) = w + sizes_of (k (number_of p)) ps
sizes_of (plain n l) (p ∷ ps) = length_of p + sizes_of l ps
sizes_of (buffer w m l) (p ∷ ps) = w + length_of p + sizes_of l ps
sizes_of (counted m i l) (p ∷ ps) = length_of p + sizes_of l ps
