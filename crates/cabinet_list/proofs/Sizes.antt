-- The size in front of a record, as it is read. Assumes nothing.
use Prim.Native.Nat.{ℕ, ◌-◌, ◌≤◌}
use native.Mathlib.Omega.{arith}
use borrow.Author.Tests.{leb-true, leb-false}
use mathlib.Core.Path.{◌≡◌, refl, sym, ap, ◌∙◌}
use mathlib.Core.Bool.{Bool, true, false}
use mathlib.Core.List.{List, [], ◌∷◌}
use lib.ListN.{length, take, drop}
use lib.Dec.{leb}
use lib.Seq.{take_all}
use Rattle.std.specs.Prelude.{Some, None}
use Rattle.faults.specs.declared.Refusal.{Refusal}
use Rattle.wire.specs.Bytes.{be}
use Rattle.wire.specs.Layout.{free, one}
use Rattle.wire.specs.Records.{Part, num, tag, span, refused, parsed}
use Rattle.wire.specs.Reading.{read}
use Rattle.wire.proofs.Leaves.{one_there, one_short}
use Rattle.wire.proofs.Steps.{found_refused, parsed_same}
use Rattle.cabinet_list.specs.Forms.{size_in}

abbrev first : List Part → ℕ
first [] = 0
first (num m ∷ ps) = m
first (tag m ∷ ps) = 0
first (span a m ∷ ps) = 0

pub size_found : (bs : List ℕ) {n e : ℕ} → parsed (num n ∷ []) e ≡ read (one 2 free) bs 0 → Some n ≡ size_in bs
size_found bs {n} p = by (leb 2 (length bs)) refl
  where
    by : (b : Bool) → leb 2 (length bs) ≡ b → Some n ≡ size_in bs
    by true t = ap Some (ap first (parsed_same (p ∙ sym (one_there 2 bs 0 (omega (arith, leb-true 2 (length bs) t)) refl))).0) ∙ rw t
    by false t = absurd (found_refused (one_short 2 bs 0 (omega (arith, leb-false 2 (length bs) t)) ∙ sym p))

pub size_short : (bs : List ℕ) {f : Refusal} → refused f ≡ read (one 2 free) bs 0 → None ≡ size_in bs
size_short bs p = by (leb 2 (length bs)) refl
  where
    by : (b : Bool) → leb 2 (length bs) ≡ b → None ≡ size_in bs
    by true t = absurd (found_refused (p ∙ sym (one_there 2 bs 0 {v = be (take 2 bs)} (omega (arith, leb-true 2 (length bs) t)) refl)))
    by false t = rw t

-- what stands behind the size
pub behind_all_lem : (bs : List ℕ) → 2 ≤ length bs → take (length bs - 2) (drop 2 bs) ≡ drop 2 bs
behind_all_lem [] some = absurd (omega arith)
behind_all_lem (a ∷ []) some = absurd (omega arith)
behind_all_lem (a ∷ b ∷ bs) some = take_all (length (a ∷ b ∷ bs) - 2) bs (omega arith)
