-- Laws for `search`: a record that was read, and what stands behind it, is the record read whole. Assumes nothing.
use Prim.Native.Nat.{ℕ, ◌≤◌, ◌<◌}
use mathlib.Core.Path.{◌≡◌}
use mathlib.Core.List.{List}
use lib.ListN.{length}
use borrow.Author.Tests.{le-leb, lt-leb}
use Rattle.faults.specs.declared.Refusal.{Refusal}
use Rattle.faults.specs.Faults.{trailing}
use Rattle.wire.specs.Layout.{Layout}
use Rattle.wire.specs.Records.{Part, found, refused, parsed, left}
use Rattle.wire.specs.Reading.{read, read_whole, nothing_behind}
pub use borrow.Author.Rules.{rules}

-- ---- whether anything is left

module _ (src : List ℕ) (e : ℕ) where
  pub none_left : length src ≤ e → found e ≡ nothing_behind src e
  unfolding nothing_behind
  none_left h = rw (le-leb (length src) e h)

  pub some_left : e < length src → refused (trailing e (left src e)) ≡ nothing_behind src e
  unfolding nothing_behind
  some_left h = rw (lt-leb (length src) e h)

-- ---- a record, by what was answered of its end

module _ (l : Layout) (src : List ℕ) (at : ℕ) where
  pub whole_found : {ps : List Part} {e n : ℕ} → parsed ps e ≡ read l src at → found n ≡ nothing_behind src e → parsed ps e ≡ read_whole l src at
  unfolding read_whole
  whole_found p h = rw (← p, ← h)

  pub whole_trailing : {ps : List Part} {e : ℕ} {f : Refusal} → parsed ps e ≡ read l src at → refused f ≡ nothing_behind src e → refused f ≡ read_whole l src at
  unfolding read_whole
  whole_trailing p h = rw (← p, ← h)

  pub whole_refused : {f : Refusal} → refused f ≡ read l src at → refused f ≡ read_whole l src at
  unfolding read_whole
  whole_refused p = rw (← p)
