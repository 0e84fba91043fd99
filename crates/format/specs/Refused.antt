-- Why a record of a kind's number is refused, with no reader in sight. Assumes nothing.
use Rattle.std.specs.Prelude.{ℕ, ◌≡◌, true, false, List}
use Rattle.faults.specs.declared.Refusal.{Refusal}
use Rattle.faults.specs.Faults.{bad_kind}
use Rattle.wire.specs.Refusals.{Refuses}
use Rattle.format.specs.Kinds.{is_kind, layout_of}

-- RefusesKind k src at f: the number k is no kind's, and f says so; or it is one, and f is the first fault of a record of that kind from
-- the place `at` on
pub data RefusesKind (k : ℕ) (src : List ℕ) (at : ℕ) (f : Refusal) : Type 0 where
  no_kind : is_kind k ≡ false → f ≡ bad_kind k → RefusesKind k src at f
  in_record : is_kind k ≡ true → Refuses src (layout_of k) at f → RefusesKind k src at f
