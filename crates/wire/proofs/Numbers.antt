-- A number read byte by byte: one byte more, and that it fits 64 bits. Assumes nothing.
use Prim.Native.Nat.{ℕ, ◌+◌, ◌*◌, ◌^◌, ◌<◌, ◌≤◌}
use native.Mathlib.Nat.{pow-suc, pow-le-pow_right}
use native.Mathlib.Numerals.{add-one}
use mathlib.Core.Path.{◌≡◌}
use mathlib.Core.List.{List}
use lib.ListN.{length, take, drop, get_or}
use lib.Seq.{take-suc, get_or-drop}
use lib.Dec.{lit<}
use lib.Arith.{digits_lt}
use Rattle.wire.specs.Bytes.{be}
use Rattle.wire.proofs.Digits.{be_snoc}

-- one byte more
pub be_more : (s : List ℕ) (at i : ℕ) → i < length (drop at s) → be (take (i + 1) (drop at s)) ≡ be (take i (drop at s)) * 256 + get_or s (at + i) 0
be_more s at i h = rw (add-one, take-suc (drop at s) i 0, be_snoc, get_or-drop)

pub more_fits : (n b i : ℕ) → n < 256 ^ i → b < 256 → n * 256 + b < 256 ^ (i + 1)
more_fits n b i hn hb = rw (add-one, pow-suc 256 i) (digits_lt hn hb)

-- up to eight bytes fit 64 bits
pub word : (i : ℕ) → i ≤ 8 → 256 ^ i ≤ 2 ^ 64
word i h = pow-le-pow_right {n = 256} (lit< tt) h
