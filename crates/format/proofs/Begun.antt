-- Every record of a kind has a byte; so where one is read, there is input. Assumes nothing.
use Prim.Native.Nat.{ℕ, ◌<◌, ◌≤◌}
use native.Mathlib.Omega.{arith}
use mathlib.Core.Path.{◌≡◌, ap}
use mathlib.Core.List.{List}
use lib.ListN.{length}
use Rattle.wire.specs.Bytes.{Bytes}
use Rattle.wire.specs.Records.{Part, parsed}
use Rattle.wire.specs.Reading.{read}
use Rattle.wire.specs.Grammar.{Token, Spells, Starts}
use Rattle.wire.proofs.Stand.{stands_left}
use Rattle.wire.proofs.Sound.{read_sound}
use Rattle.format.specs.Kinds.{layout_of}
use Rattle.format.proofs.FirstByte.{first_byte}

pub kind_has_bytes : (k : ℕ) {ts : List Token} {bs : List ℕ} → Spells (layout_of k) ts bs → 0 < length bs
kind_has_bytes k d = let (b, rest, e, which) = first_byte k d in omega (arith, ap length e)

-- so where one starts, it ends behind that place, and not past the end
pub starts_lies_in : (k : ℕ) {src : List ℕ} {at e : ℕ} → Starts (layout_of k) src at e → (at < e) × (e ≤ length src)
starts_lies_in k d =
    let some : 0 < length d.front = kind_has_bytes k d.spells in
    let room = stands_left d.stands in
    (omega (arith, d.ends), omega (arith, d.ends))

-- and so where one was read
pub read_lies_in : (k : ℕ) (src : List ℕ) (at : ℕ) {ps : List Part} {e : ℕ} → Bytes src → read (layout_of k) src at ≡ parsed ps e → (at < e) × (e ≤ length src)
read_lies_in k src at {ps} {e} b p =
    starts_lies_in k (read_sound (layout_of k) src at (record { parts = ps; stops = e }) b p)
