-- The values of a yes/no byte and of the magic, by the code's tests, and the refusal of a tag. Assumes nothing.
use Prim.Native.Nat.{ℕ, ◌≤◌, ◌<◌}
use native.Mathlib.Omega.{arith}
use mathlib.Core.Path.{◌≡◌, refl, sym}
use mathlib.Core.Bool.{Bool, true, false, ◌||◌}
use lib.Dec.{eqb}
use borrow.Author.Tests.{eq-eqb, ne_eqb, eqb-false}
use Rattle.faults.specs.Faults.{bad_value}
use Rattle.wire.specs.Layout.{breach}
use Rattle.codes.specs.declared.Ticket.{Ticket}
use Rattle.codes.specs.Codes.{is_yes_no, is_magic, ticket_tag}

pub yes_no_allowed : (n : ℕ) → n ≤ 1 → true ≡ is_yes_no n
yes_no_allowed n h = sym (go (eqb n 0) refl)
  where
    go : (b : Bool) → eqb n 0 ≡ b → (b || eqb n 1) ≡ true
    go true e = refl
    go false e = let other = eqb-false n 0 e in eq-eqb n 1 (omega arith)

pub yes_no_not : (n : ℕ) → 1 < n → false ≡ is_yes_no n
yes_no_not n h = rw (ne_eqb n 0 (λ e. omega arith), ne_eqb n 1 (λ e. omega arith))

pub magic_allowed : (n : ℕ) → n ≡ 0xFF544347 → true ≡ is_magic n
magic_allowed n e = sym (eq-eqb n 0xFF544347 e)

pub magic_not : (n : ℕ) → (n ≡ 0xFF544347 → ⊥) → false ≡ is_magic n
magic_not n h = sym (ne_eqb n 0xFF544347 h)

-- another tag is a bad value, whichever the ticket is, and no unknown code
pub tag_is_a_value : (t : Ticket) (at n : ℕ) → breach (ticket_tag t) at n ≡ bad_value at n
tag_is_a_value t at n = refl
