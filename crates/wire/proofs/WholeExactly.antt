-- Reading whole accepts exactly where all that stands there is a legal record, and else says why: what is read is legal up to its end, and
-- the test behind it asks whether the input ends there too. Assumes nothing.
use Prim.Native.Nat.{ℕ, ◌+◌}
use native.Mathlib.Omega.{arith}
use mathlib.Core.Path.{◌≡◌, refl, sym, ap, ◌∙◌}
use mathlib.Core.Logic.{◌⊎◌, inl, inr}
use mathlib.Core.List.{List, [], ◌++◌, append-nil}
use lib.ListN.{length, drop, length-append, length-drop}
use lib.Dec.{leb}
use borrow.Author.Tests.{lt-leb, leb-false}
use Rattle.faults.specs.declared.Refusal.{Refusal}
use Rattle.std.proofs.lemmas.List.{nil_from_length}
use Rattle.wire.specs.Bytes.{Bytes}
use Rattle.wire.specs.Layout.{Layout}
use Rattle.wire.specs.Records.{Part, found, refused, next, Parsed, parsed, left}
use Rattle.wire.specs.Reading.{read, nothing_behind, read_whole}
use Rattle.wire.specs.Grammar.{Token, Spells, Stands, placed, shown}
use Rattle.wire.specs.Refusals.{RefusesWhole, first_fault, left_over}
use Rattle.wire.proofs.Steps.{found_refused, parsed_same}
use Rattle.wire.proofs.Complete.{read_complete, placed_shows}
use Rattle.wire.proofs.Sound.{read_sound}
use Rattle.wire.proofs.Prefix.{starts_read}
use Rattle.wire.proofs.Whole.{whole_is_read, read_is_whole, read_is_trailing}
use Rattle.wire.proofs.Refused.{refuses_read, next_refused, when_refused, read_refuses}

-- what is all that stands there stands there
all_stands : {src bs : List ℕ} {at : ℕ} → drop at src ≡ bs → Stands src at bs
all_stands {bs = bs} all = record { rest = []; begins = all ∙ sym (append-nil bs) }

module _ (l : Layout) (src : List ℕ) (at : ℕ) where
  -- ---- accepted

  -- a record that is all that stands there, and what was read there, are the same
  all_is_read : {ts : List Token} {ps : List Part} {e : ℕ} (d : Spells l ts (drop at src)) → read l src at ≡ parsed ps e
      → (ps ≡ placed d at) × (shown src ps ≡ ts) × (e ≡ at + left src at)
  all_is_read d there =
      let (parts, stops) = parsed_same (sym there ∙ read_complete d (all_stands refl)) in
      (parts, ap (λ qs. shown src qs) parts ∙ placed_shows d (all_stands refl), omega (arith, length-drop at src))

  -- what is accepted whole is all that stands there: a legal record with those parts, which show what it shows. It ends where the
  -- input ends; past the end nothing is left, and it ends where it was looked for
  pub whole_accepts_only_all : {ps : List Part} {e : ℕ} → Bytes src → read_whole l src at ≡ parsed ps e
      → (ts : List Token) × (d : Spells l ts (drop at src)) × (ps ≡ placed d at) × (shown src ps ≡ ts) × (e ≡ at + left src at)
  whole_accepts_only_all {ps} {e} b p =
      let (there, end) = whole_is_read l src at p in
      let x = read_sound l src at (record { parts = ps; stops = e }) b there in
      let more = x.stands.rest in
      let none = nil_from_length more (omega (arith, x.ends, ap length x.stands.begins, length-append x.front more, length-drop at src)) in
      let all : drop at src ≡ x.front = x.stands.begins ∙ ap (λ t. x.front ++ t) none ∙ append-nil x.front in
      let d : Spells l x.tokens (drop at src) = rw all x.spells in
      let same = all_is_read d there in
      (x.tokens, d, same.0, same.1, same.2)

  -- and a legal record that is all that stands there is accepted whole, with its parts, to its end
  pub legal_is_accepted_whole : {ts : List Token} {bs : List ℕ} (d : Spells l ts bs) → drop at src ≡ bs → read_whole l src at ≡ parsed (placed d at) (at + length bs)
  legal_is_accepted_whole d all = read_is_whole l src at (read_complete d (all_stands all)) (omega (arith, ap length all, length-drop at src))

  -- ---- refused

  -- what is refused whole is refused for its first fault, or for the bytes behind a legal record
  pub whole_refusal_says_why : (f : Refusal) → Bytes src → read_whole l src at ≡ refused f → RefusesWhole src l at f
  unfolding read_whole nothing_behind
  whole_refusal_says_why f b p = by (next_refused (read l src at) _ p)
    where
      behind : (r : Parsed) → read l src at ≡ found r
          → (nothing_behind src r.stops ≡ refused f) ⊎ ((n : ℕ) × (nothing_behind src r.stops ≡ found n) × (found r ≡ refused f)) → RefusesWhole src l at f
      behind r there (inl h) =
          let (t, same) = when_refused (leb (length src) r.stops) _ _ h in
          left_over r.stops (read_sound l src at r b there) (leb-false (length src) r.stops t) same
      behind r there (inr (n, h, same)) = absurd (found_refused (sym same))

      by : (read l src at ≡ refused f) ⊎ ((r : Parsed) × (read l src at ≡ found r) × (next (nothing_behind src r.stops) (λ e. found r) ≡ refused f)) → RefusesWhole src l at f
      by (inl fails) = first_fault (read_refuses l src at f b fails)
      by (inr (r, there, h)) = behind r there (next_refused (nothing_behind src r.stops) _ h)

  -- and for that it is refused whole
  pub why_is_whole_refusal : {f : Refusal} → RefusesWhole src l at f → read_whole l src at ≡ refused f
  unfolding read_whole
  why_is_whole_refusal (first_fault d) = rw (refuses_read d)
  why_is_whole_refusal (left_over e d more same) = read_is_trailing l src at (starts_read d) (lt-leb (length src) e more) ∙ ap refused (sym same)
