-- What the tests of a field that has bytes say of what it spells. Assumes nothing.
use Prim.Native.Nat.{ℕ, ◌+◌, ◌<◌, ◌≤◌}
use native.Mathlib.Omega.{arith}
use mathlib.Core.Path.{◌≡◌, ap, ◌∙◌}
use mathlib.Core.List.{List, ◌++◌}
use lib.ListN.{length, length-append}
use borrow.Author.Tests.{le-leb, lt-leb, lt-ltb, eq-eqb, ne_eqb}
use Rattle.faults.specs.declared.Refusal.{Refusal}
use Rattle.faults.specs.Faults.{mismatch, too_long}
use Rattle.wire.specs.declared.span.Span.{Span}
use Rattle.wire.specs.Answers.{start_of, len_of}
use Rattle.wire.specs.Bytes.{digits}
use Rattle.wire.specs.Records.{found, refused}
use Rattle.wire.specs.Writing.{cut, spelt}
use Rattle.wire.specs.Fields.{part_of, size_of}
use Rattle.wire.proofs.Digits.{length_digits}
use Rattle.wire.proofs.Steps.{found_same}
use Rattle.wire.proofs.Cuts.{sized_part, unsized}
use Rattle.wire.proofs.Written.{cut_found}
use Rattle.steps.specs.Steps.{Plain, Buffer, spell_step}
use Rattle.steps.specs.Walks.{after}

-- a span that has a size has so many bytes
pub sized_length : (src : List ℕ) (start len at : ℕ) {n : ℕ} → found n ≡ size_of (cut src start len at) → (n ≡ len) × (length (part_of (cut src start len 0)) ≡ len)
sized_length src start len at p =
    let e = sized_part src start len at p in
    let size = (cut_found src start len at e).0 in
    (found_same (p ∙ ap size_of e) ∙ size, size)

module _ (s : Span) (src : List ℕ) (at : ℕ) where
  abbrev bytes : List ℕ
  bytes = part_of (cut src (start_of s) (len_of s) 0)

  -- ---- as they stand

  pub plain_good : {n k : ℕ} → len_of s ≡ n → found k ≡ size_of (cut src (start_of s) (len_of s) at) → found (at + len_of s) ≡ after at (spell_step (Plain n s) src at)
  unfolding spell_step
  plain_good {n} e p = rw (eq-eqb (len_of s) n e, sized_part src (start_of s) (len_of s) at p, (sized_length src (start_of s) (len_of s) at p).1)

  pub plain_wrong : {n : ℕ} → (len_of s ≡ n → ⊥) → refused (mismatch at 0) ≡ after at (spell_step (Plain n s) src at)
  unfolding spell_step
  plain_wrong {n} h = rw (ne_eqb (len_of s) n h)

  pub plain_out : {n : ℕ} {f : Refusal} → len_of s ≡ n → refused f ≡ size_of (cut src (start_of s) (len_of s) at) → refused f ≡ after at (spell_step (Plain n s) src at)
  unfolding spell_step
  plain_out {n} e p = rw (eq-eqb (len_of s) n e, unsized src (start_of s) (len_of s) at p)

  -- ---- buffers

  pub buffer_good : {m n : ℕ} → found n ≡ size_of (cut src (start_of s) (len_of s) at) → n ≤ m → m < 65536 → found (at + 2 + n) ≡ after at (spell_step (Buffer m s) src at)
  unfolding spell_step spelt
  buffer_good {m} {n} p h f =
      let (same, size) = sized_length src (start_of s) (len_of s) at p in
      let place : at + 2 + n ≡ at + length (digits 2 (len_of s) ++ bytes) = omega (arith, length-append (digits 2 (len_of s)) bytes, length_digits 2 (len_of s)) in
      rw (sized_part src (start_of s) (len_of s) at p, le-leb (len_of s) m (omega arith), lt-ltb (len_of s) 65536 (omega arith)) (ap found place)

  pub buffer_long : {m n : ℕ} → found n ≡ size_of (cut src (start_of s) (len_of s) at) → m < n → refused (too_long at (len_of s)) ≡ after at (spell_step (Buffer m s) src at)
  unfolding spell_step spelt
  buffer_long {m} {n} p h =
      let same : n ≡ len_of s = (sized_length src (start_of s) (len_of s) at p).0 in
      rw (sized_part src (start_of s) (len_of s) at p, lt-leb (len_of s) m (omega arith))

  pub buffer_out : (m : ℕ) {f : Refusal} → refused f ≡ size_of (cut src (start_of s) (len_of s) at) → refused f ≡ after at (spell_step (Buffer m s) src at)
  unfolding spell_step
  buffer_out m p = rw (unsized src (start_of s) (len_of s) at p)
