-- Records of one kind in a row, one behind the other with nothing between them, and what is listed of them: all, or the one refusal.
-- Assumes nothing.
use Rattle.std.specs.Prelude.{ℕ, ◌+◌, ◌-◌, ◌≤◌, ◌≡◌, List, [], ◌∷◌, ◌++◌, length, take, drop}
use Rattle.wire.specs.Records.{Ans, found, refused}
use Rattle.text.specs.Text.{record_at_text, refused_text}
use Rattle.records.specs.Runs.{divided}
use Rattle.listing.specs.Listing.{record_text}

-- ---- the text

-- a record of a row: the line with its number and the place where it starts, and then the listing of its bytes alone
unfoldable pub entry_text : (kind number at : ℕ) (bytes : List ℕ) → List ℕ
entry_text k n at bs = record_at_text n at ++ record_text k bs

-- the bytes from the place `at` to the place e
abbrev pub between : (at e : ℕ) (src : List ℕ) → List ℕ
between at e src = take (e - at) (drop at src)

-- the records that end at es, one behind the other: the first of them has the number n and starts at the place `at`
abbrev pub entries_text : (kind : ℕ) (src : List ℕ) (n at : ℕ) (es : List ℕ) → List ℕ
entries_text k src n at [] = []
entries_text k src n at (e ∷ es) = entry_text k n at (between at e src) ++ entries_text k src (n + 1) e es

-- the text of an answer: of a row that was divided all its records, counted from 1; of a refusal, which is the first, its one line
abbrev pub divided_text : (kind : ℕ) (src : List ℕ) → Ans (List ℕ) → List ℕ
divided_text k src (found es) = entries_text k src 1 0 es
divided_text k src (refused f) = refused_text k f

-- the text for bytes that are said to be a row of records of that kind
unfoldable pub row_text : (kind : ℕ) (src : List ℕ) → List ℕ
row_text k src = divided_text k src (divided k src)

-- ---- which record it is

-- where the next record starts behind those that end at es, of which the first starts at the place `at`
abbrev pub behind_all : (at : ℕ) (es : List ℕ) → ℕ
behind_all at [] = at
behind_all at (e ∷ es) = behind_all e es

-- of the row src the record with the number n starts at the place `at` and ends at e: there are n - 1 in front of it, and it starts where
-- the last of these ends
pub record IsNumbered (kind : ℕ) (src : List ℕ) (n at e : ℕ) : Type 0 where
  pub front : List ℕ
  pub others : List ℕ
  pub ends : divided kind src ≡ found (front ++ (e ∷ others))
  pub number : n ≡ length front + 1
  pub starts : at ≡ behind_all 0 front
  pub forward : at ≤ e
  pub inside : e ≤ length src
