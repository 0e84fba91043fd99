-- A legal record that is handed over as a deposit without its kind byte is refused, if it is of any kind but 16. Assumes nothing.
use Prim.Native.Nat.{ℕ}
use mathlib.Core.Path.{◌≡◌, ap, ◌∙◌}
use mathlib.Core.List.{List, ◌++◌}
use Rattle.faults.specs.Faults.{bad_kind}
use Rattle.wire.specs.Grammar.{Token, Spells}
use Rattle.format.specs.Kinds.{layout_of}
use Rattle.format.proofs.FirstByte.{Plain, first_byte_is_no_kind}
use Rattle.text.specs.Text.{refused_text}
use Rattle.listing.specs.Listing.{listing}
use Rattle.listing.proofs.Promises.{no_kind_is_listed}

-- its first byte is taken for the kind, and is none: refusal 12, BadKind, whatever follows the record
pub bare_record_is_refused : (k : ℕ) → (k ≡ 16 → ⊥) → {ts : List Token} {bs : List ℕ} → Spells (layout_of k) ts bs → (tail : List ℕ)
    → (b : ℕ) × Plain b × (listing (bs ++ tail) ≡ refused_text b (bad_kind b))
bare_record_is_refused k other d tail =
    let (b, rest, e, which, none) = first_byte_is_no_kind k other d in
    (b, which, ap (λ bs. listing (bs ++ tail)) e ∙ no_kind_is_listed b (rest ++ tail) none)
