-- What a record looks like on the wire: its fields in wire order, and how a selector decides what follows. Assumes nothing.
use Rattle.std.specs.Prelude.{ℕ, Bool, true, leb}
use Rattle.faults.specs.declared.Refusal.{Refusal}
use Rattle.faults.specs.Faults.{unknown_code, bad_value, too_long, too_many_items}

-- which numbers a field takes
pub data Rule : Type 0 where
  -- every number
  free : Rule
  -- the codes that are listed
  listed : (ℕ → Bool) → Rule
  -- some fixed values: a magic, a yes or a no
  fixed : (ℕ → Bool) → Rule
  -- a length of at most m
  length_to : (m : ℕ) → Rule
  -- a count of at most m
  count_to : (m : ℕ) → Rule

-- whether a rule takes a number
abbrev pub allows : Rule → ℕ → Bool
allows free n = true
allows (listed p) n = p n
allows (fixed p) n = p n
allows (length_to m) n = leb n m
allows (count_to m) n = leb n m

-- the refusal of a number n that the rule does not allow (`free` allows every number)
abbrev pub breach : Rule → (place n : ℕ) → Refusal
breach free at n = bad_value at n
breach (listed p) at n = unknown_code at n
breach (fixed p) at n = bad_value at n
breach (length_to m) at n = too_long at n
breach (count_to m) at n = too_many_items at n

-- the fields of a record in wire order
pub data Layout : Type 0 where
  -- nothing more
  stop : Layout
  -- an arm is due, and the selector v has none
  no_arm : (v : ℕ) → Layout
  -- the arm t of a union begins, chosen by the selector v
  arm : (v t : ℕ) → Layout → Layout
  -- a number of w bytes; what follows may depend on it
  number : (w : ℕ) → Rule → (ℕ → Layout) → Layout
  -- n bytes as they stand
  plain : (n : ℕ) → Layout → Layout
  -- a length of w bytes, at most m, and that many bytes
  buffer : (w m : ℕ) → Layout → Layout
  -- a count of 4 bytes, at most m, and that many items
  counted : (m : ℕ) → (item : Layout) → Layout → Layout

-- one number, and nothing more
abbrev pub one : (w : ℕ) → Rule → Layout
one w r = number w r (λ n. stop)

-- the layout m behind the layout l
infixr 40 ◌then◌
unfoldable pub ◌then◌ : Layout → Layout → Layout
stop then m = m
no_arm v then m = no_arm v
arm v t l then m = arm v t (l then m)
number w r k then m = number w r (λ n. k n then m)
plain n l then m = plain n (l then m)
buffer w b l then m = buffer w b (l then m)
counted b i l then m = counted b i (l then m)
