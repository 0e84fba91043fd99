-- What a reader of a layout answers on any bytes: the record's parts and its end, or the first refusal in wire order. Assumes nothing.
use Rattle.std.specs.Prelude.{ℕ, zero, suc, ◌+◌, ◌-◌, ◌≡◌, List, [], ◌∷◌, cond, length, take, drop, leb}
use Rattle.faults.specs.Faults.{short, no_such_arm, trailing}
use Rattle.wire.specs.Bytes.{be}
use Rattle.wire.specs.Layout.{Rule, allows, breach, length_to, count_to, Layout, stop, no_arm, arm, number, plain, buffer, counted}
use Rattle.wire.specs.Records.{Part, num, tag, span, Ans, found, refused, next, Parsed, parsed, left}

-- the part p, and behind it those of a
abbrev pub also : Part → Ans Parsed → Ans Parsed
also p a = next a (λ r. parsed (p ∷ r.parts) r.stops)

-- In the readers below src is the whole input, and `at` the place where to read on.

abbrev pub Reader : Type 0 → Type 0
Reader A = (src : List ℕ) → (at : ℕ) → Ans A

-- the n bytes that stand there
unfoldable pub piece : ℕ → Reader (List ℕ)
piece n src at = cond (leb n (left src at)) (found (take n (drop at src))) (refused (short at n (left src at)))

-- a number of w bytes that the rule allows
unfoldable pub field : ℕ → Rule → Reader ℕ
field w r src at = next (piece w src at) (λ xs. let n = be xs in cond (allows r n) (found n) (refused (breach r at n)))

-- n items, one behind the other; the first refusal decides. The answer is where they end
abbrev pub walk : Reader Parsed → ℕ → Reader ℕ
walk item zero src at = found at
walk item (suc n) src at = next (item src at) (λ r. walk item n src r.stops)

-- a count of 4 bytes, at most m, and that many items. The answer is where they end
unfoldable pub list : ℕ → Reader Parsed → Reader ℕ
list m item src at = next (field 4 (count_to m) src at) (λ n. walk item n src (at + 4))

-- the record of a layout, read as a prefix of what stands from `at` on
unfoldable pub read : Layout → Reader Parsed
read stop src at = parsed [] at
read (no_arm v) src at = refused (no_such_arm at v)
read (arm v t l) src at = also (tag t) (read l src at)
read (number w r k) src at =
    next (field w r src at)
    (λ n. also (num n) (read (k n) src (at + w)))
read (plain n l) src at =
    next (piece n src at)
    (λ xs. also (span at n) (read l src (at + n)))
read (buffer w m l) src at =
    next (field w (length_to m) src at)
    (λ n. next (piece n src (at + w))
    (λ xs. also (span (at + w) n) (read l src (at + w + n))))
read (counted m i l) src at =
    next (list m (λ s a. read i s a) src at)
    (λ e. also (span at (e - at)) (read l src e))

-- the end of a record that nothing stands behind
unfoldable pub nothing_behind : Reader ℕ
nothing_behind src e = cond (leb (length src) e) (found e) (refused (trailing e (left src e)))

-- the record of a layout, read whole: nothing may be left where it ends
unfoldable pub read_whole : Layout → Reader Parsed
read_whole l src at =
    next (read l src at)
    (λ r. next (nothing_behind src r.stops)
    (λ e. found r))

-- where what was read ends
abbrev pub end_of : Ans Parsed → Ans ℕ
end_of a = next a (λ r. found r.stops)

-- the answer to src is the refusal Short, at some place and with some value; it had the bytes that src has left there
abbrev pub IsShort : {A : Type 0} → (src : List ℕ) → Ans A → Type 0
IsShort src a = (place : ℕ) × (value : ℕ) × (a ≡ refused (short place value (left src place)))
