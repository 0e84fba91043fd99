-- What a writer of a layout answers on any record, given by its parts, and any source: the record's bytes, or the first refusal in
-- wire order. Assumes nothing.
use Rattle.std.specs.Prelude.{ℕ, ◌+◌, ◌-◌, ◌^◌, List, [], ◌++◌, ◌&&◌, cond, length, take, drop, leb, ltb, eqb}
use Rattle.faults.specs.declared.Refusal.{Refusal}
use Rattle.faults.specs.Faults.{placed_at, no_such_arm, mismatch, bad_span, trailing}
use Rattle.wire.specs.Bytes.{digits}
use Rattle.wire.specs.Layout.{Rule, allows, breach, length_to, Layout, stop, no_arm, arm, number, plain, buffer, counted}
use Rattle.wire.specs.Records.{Part, Ans, found, refused, next}
use Rattle.wire.specs.Reading.{list, read}
use Rattle.wire.specs.Parts.{on_end, on_number, on_arm, on_span}

-- the answer to parts of another shape, which no record of the code has
abbrev pub odd : {A : Type 0} → ℕ → Ans A
odd at = refused (mismatch at 0)

-- the bytes of a span of the source; start and length are added as whole numbers
unfoldable pub cut : List ℕ → (start len at : ℕ) → Ans (List ℕ)
cut src start len at = cond (leb (start + len) (length src)) (found (take len (drop start src))) (refused (bad_span at len))

-- the w digits of a number, if the rule allows it and w digits hold it
unfoldable pub spelt : ℕ → Rule → (n at : ℕ) → Ans (List ℕ)
spelt w r n at = cond (allows r n && ltb n (256 ^ w)) (found (digits w n)) (refused (breach r at n))

-- a list's bytes, walked over with the reading rules: none may stand behind its items. Places count from the list's start
unfoldable pub whole : ℕ → Layout → List ℕ → Ans (List ℕ)
whole m i xs =
    next (list m (read i) xs 0)
    (λ e. cond (eqb e (length xs)) (found xs) (refused (trailing e (length xs - e))))

-- a refusal whose place is counted from further back
abbrev pub further : ℕ → Refusal → Refusal
further at f = placed_at (at + f.place) f

abbrev pub moved : {A : Type 0} → ℕ → Ans A → Ans A
moved at (found a) = found a
moved at (refused f) = refused (further at f)

-- xs, and behind it what k gives
abbrev pub ahead : Ans (List ℕ) → Ans (List ℕ) → Ans (List ℕ)
ahead a k = next a (λ xs. next k (λ ys. found (xs ++ ys)))

-- a's bytes from the place `at` on, and behind them what k gives for the place where they end
abbrev pub onto : (at : ℕ) → Ans (List ℕ) → (ℕ → Ans (List ℕ)) → Ans (List ℕ)
onto at a k = next a (λ xs. next (k (at + length xs)) (λ ys. found (xs ++ ys)))

-- the bytes of the record of a layout with these parts, whose spans are of src; the place `at` counts from the output's start
unfoldable pub lay : Layout → List Part → (src : List ℕ) (at : ℕ) → Ans (List ℕ)
lay stop ps src at = on_end (odd at) ps (found [])
lay (no_arm v) ps src at = refused (no_such_arm at v)
lay (arm v t l) ps src at = on_arm (odd at) ps (λ u qs. cond (eqb u t) (lay l qs src at) (refused (mismatch at v)))
lay (number w r k) ps src at = on_number (odd at) ps (λ n qs. ahead (spelt w r n at) (lay (k n) qs src (at + w)))
lay (plain n l) ps src at =
    on_span (odd at) ps (λ start len qs. cond (eqb len n) (ahead (cut src start len at) (lay l qs src (at + n))) (odd at))
lay (buffer w m l) ps src at =
    on_span (odd at) ps (λ start len qs. next (cut src start len at)
    (λ xs. ahead (spelt w (length_to m) len at) (ahead (found xs) (lay l qs src (at + w + len)))))
lay (counted m i l) ps src at =
    on_span (odd at) ps (λ start len qs. next (cut src start len at)
    (λ xs. ahead (moved at (whole m i xs)) (lay l qs src (at + len))))
