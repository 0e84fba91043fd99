-- How large the records of a layout can be. Assumes nothing.
use Rattle.std.specs.Prelude.{ℕ, ◌≤◌, ◌≡◌, List, length}
use Rattle.wire.specs.Layout.{Layout}
use Rattle.wire.specs.Grammar.{Token, Spells}

-- every record of the layout l has at most m bytes
abbrev pub AtMost : Layout → ℕ → Type 0
AtMost l m = (ts : List Token) (bs : List ℕ) → Spells l ts bs → length bs ≤ m

-- some record of the layout l has m bytes
pub record Reaches (l : Layout) (m : ℕ) : Type 0 where
  pub tokens : List Token
  pub bytes_of_record : List ℕ
  pub spells : Spells l tokens bytes_of_record
  pub size : length bytes_of_record ≡ m

-- the greatest record of the layout l has m bytes
pub record Greatest (l : Layout) (m : ℕ) : Type 0 where
  pub most : AtMost l m
  pub reached : Reaches l m
