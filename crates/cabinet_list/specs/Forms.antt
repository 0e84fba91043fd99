-- The forms in which a record is handed over, and what is listed of each. Assumes nothing.
use Rattle.std.specs.Prelude.{ℕ, Bool, true, false, cond, List, length, take, drop, leb, eqb, Option, Some, None}
use Rattle.wire.specs.Bytes.{be}
use Rattle.wire.specs.Records.{Ans, Parsed}
use Rattle.listing.specs.Listing.{judged, record_text, listing, answered}
use Rattle.cabinet_list.specs.declared.form.Form.{Form}

-- the size in two bytes in front; nothing where there are fewer
abbrev pub size_in : List ℕ → Option ℕ
size_in bs = cond (leb 2 (length bs)) (Some (be (take 2 bs))) None

-- there is a size, and it is n
abbrev pub says : Option ℕ → (n : ℕ) → Bool
says (Some m) n = eqb m n
says None n = false

-- the size in front, where one stands there, is that of what follows it
abbrev pub sizes_agree : Form → List ℕ → Bool
sizes_agree Form.Deposit bs = true
sizes_agree (Form.Record k) bs = true
sizes_agree (Form.Sized k) bs = says (size_in bs) (length (drop 2 bs))

-- how many bytes of it are read
abbrev pub most_of : Form → ℕ
most_of Form.Deposit = 4098
most_of (Form.Record k) = 4097
most_of (Form.Sized k) = 65538

-- what is listed of it
abbrev pub text_of : Form → List ℕ → List ℕ
text_of Form.Deposit bs = listing bs
text_of (Form.Record k) bs = record_text k bs
text_of (Form.Sized k) bs = record_text k (drop 2 bs)

-- and what that is the text of
abbrev pub answer_of : Form → List ℕ → Ans Parsed
answer_of Form.Deposit bs = answered bs
answer_of (Form.Record k) bs = judged k bs
answer_of (Form.Sized k) bs = judged k (drop 2 bs)
