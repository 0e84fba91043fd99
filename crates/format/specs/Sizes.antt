-- The greatest size of a record of each kind. Assumes nothing.
use Rattle.std.specs.Prelude.{ℕ, List, [], ◌∷◌}
use Rattle.wire.specs.Layout.{Layout}
use Rattle.wire.specs.Sizes.{Greatest}

-- the greatest sizes in bytes, from kind 1 on
unfoldable pub greatest : List ℕ
greatest = 66 ∷ 6 ∷ 4 ∷ 6 ∷ 6 ∷ 6 ∷ 6 ∷ 6 ∷ 20 ∷ 518 ∷ 606 ∷ 392 ∷ 2287 ∷ 116 ∷ 1128 ∷ 83 ∷ 72 ∷ 72 ∷ 72 ∷ 72 ∷ []

-- there are as many sizes as layouts, and each is the greatest of its layout
abbrev pub AllGreatest : List Layout → List ℕ → Type 0
AllGreatest [] [] = Unit {0}
AllGreatest [] (m ∷ ms) = ⊥
AllGreatest (l ∷ ls) [] = ⊥
AllGreatest (l ∷ ls) (m ∷ ms) = Greatest l m × AllGreatest ls ms
