-- The thirteen faults: the format's number of each, what the value beside it says, and how many bytes it had. And refusals by name.
-- Assumes nothing.
use Rattle.std.specs.Prelude.{ℕ}
use Rattle.faults.specs.declared.Fault.{Fault}
use Rattle.faults.specs.declared.Fault.TheVariants.{Short, UnknownCode, NoArm, TooLong, TooManyItems, BadValue, Mismatch, BadSpan, NoRoom, NoField, Trailing, BadKind, Oversize}
use Rattle.faults.specs.declared.Refusal.{Refusal}

-- what was met where something is refused; a number that does not come up there is 0
pub record Met : Type 0 where
  -- the bytes that this field needs, or the record
  pub needed : ℕ
  -- the bytes that there are, from the place to the end of what was read
  pub there : ℕ
  -- the code that is on no list
  pub code : ℕ
  -- the selector of the union
  pub selector : ℕ
  -- the length that passes its limit
  pub size : ℕ
  -- the count that passes its capacity
  pub count : ℕ
  -- the yes/no byte, the magic, or the ticket's tag
  pub found : ℕ
  -- the length of the span
  pub span : ℕ
  -- the index that was asked for
  pub index : ℕ
  -- the bytes left over
  pub left_over : ℕ
  -- the kind that was asked for
  pub kind : ℕ

abbrev pub met : (needed there code selector size count found span index left_over kind : ℕ) → Met
met n h c v s m x l i o k =
    record { needed = n; there = h; code = c; selector = v; size = s; count = m; found = x; span = l; index = i; left_over = o; kind = k }

-- a row of the format's table of faults: the fault's number, the value that its refusal has, and how many bytes it had
pub record Row : Type 0 where
  pub number : ℕ
  pub value : Met → ℕ
  pub had : Met → ℕ

-- the row of a fault that is not for want of bytes: its refusal had none
abbrev pub row : ℕ → (Met → ℕ) → Row
row n v = record { number = n; value = v; had = λ m. 0 }

-- the table of faults, as the format has it on paper (docs/FORMAT.md). Oversize has one more byte than the listing takes behind the kind
abbrev pub paper : Fault → Row
paper Short = record { number = 1; value = λ m. m.needed; had = λ m. m.there }
paper UnknownCode = row 2 (λ m. m.code)
paper NoArm = row 3 (λ m. m.selector)
paper TooLong = row 4 (λ m. m.size)
paper TooManyItems = row 5 (λ m. m.count)
paper BadValue = row 6 (λ m. m.found)
paper Mismatch = row 7 (λ m. m.selector)
paper BadSpan = row 8 (λ m. m.span)
paper NoRoom = row 9 (λ m. m.needed)
paper NoField = row 10 (λ m. m.index)
paper Trailing = row 11 (λ m. m.left_over)
paper BadKind = row 12 (λ m. m.kind)
paper Oversize = row 13 (λ m. 4097)

abbrev pub refusal : Fault → (place value had : ℕ) → Refusal
refusal f p v h = record { fault = f; place = p; value = v; had = h }

-- the refusal for a fault at a place: its value, and what it had, are what the table says of what was met
abbrev pub refusing : Fault → (place : ℕ) → Met → Refusal
refusing f p m = refusal f p ((paper f).value m) ((paper f).had m)

-- the same refusal at another place
abbrev pub placed_at : (place : ℕ) → Refusal → Refusal
placed_at p f = refusal f.fault p f.value f.had

-- ---- refusals by name; the arguments are the place, and then the number that was met; of Short also how many bytes there are

abbrev pub short : (place needed there : ℕ) → Refusal
short p n h = refusing Short p (met n h 0 0 0 0 0 0 0 0 0)

abbrev pub unknown_code : (place code : ℕ) → Refusal
unknown_code p c = refusing UnknownCode p (met 0 0 c 0 0 0 0 0 0 0 0)

abbrev pub no_such_arm : (place selector : ℕ) → Refusal
no_such_arm p v = refusing NoArm p (met 0 0 0 v 0 0 0 0 0 0 0)

abbrev pub too_long : (place length : ℕ) → Refusal
too_long p n = refusing TooLong p (met 0 0 0 0 n 0 0 0 0 0 0)

abbrev pub too_many_items : (place count : ℕ) → Refusal
too_many_items p n = refusing TooManyItems p (met 0 0 0 0 0 n 0 0 0 0 0)

abbrev pub bad_value : (place value : ℕ) → Refusal
bad_value p v = refusing BadValue p (met 0 0 0 0 0 0 v 0 0 0 0)

abbrev pub mismatch : (place selector : ℕ) → Refusal
mismatch p v = refusing Mismatch p (met 0 0 0 v 0 0 0 0 0 0 0)

abbrev pub bad_span : (place length : ℕ) → Refusal
bad_span p n = refusing BadSpan p (met 0 0 0 0 0 0 0 n 0 0 0)

abbrev pub no_room : (place needed : ℕ) → Refusal
no_room p n = refusing NoRoom p (met n 0 0 0 0 0 0 0 0 0 0)

-- an index is asked of a record and has no place of its own: 0 stands there
abbrev pub no_field : (index : ℕ) → Refusal
no_field i = refusing NoField 0 (met 0 0 0 0 0 0 0 0 i 0 0)

abbrev pub trailing : (place left : ℕ) → Refusal
trailing p n = refusing Trailing p (met 0 0 0 0 0 0 0 0 0 n 0)

abbrev pub bad_kind : (kind : ℕ) → Refusal
bad_kind k = refusing BadKind 0 (met 0 0 0 0 0 0 0 0 0 0 k)

abbrev pub oversize : Refusal
oversize = refusing Oversize 0 (met 0 0 0 0 0 0 0 0 0 0 0)
