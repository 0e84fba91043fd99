-- The promises of rows, of every kind: no bytes are two records or divide in two ways, and repeated reading finds the one way there is, or
-- the first record that is not there. Assumes nothing.
use Prim.Native.Nat.{ℕ, ◌+◌, ◌-◌}
use native.Mathlib.Nat.{zero-add}
use native.Mathlib.Omega.{arith}
use mathlib.Core.Path.{◌≡◌, refl, sym, ap, ◌∙◌}
use mathlib.Core.Bool.{Bool, true, false, cond}
use mathlib.Core.List.{List}
use lib.ListN.{length, take, drop}
use Rattle.faults.specs.declared.Refusal.{Refusal}
use Rattle.faults.specs.Faults.{bad_kind}
use Rattle.wire.specs.Bytes.{Bytes}
use Rattle.wire.specs.Records.{Part, Ans, found, refused, Parsed, parsed}
use Rattle.wire.specs.Reading.{read}
use Rattle.wire.specs.Grammar.{Token, Spells, Starts, shown}
use Rattle.wire.proofs.Stand.{stands_same}
use Rattle.wire.proofs.Steps.{refused_same, when_found}
use Rattle.wire.proofs.Prefix.{accepted_is_legal, same_bytes_same_record}
use Rattle.format.specs.Kinds.{is_kind, layout_of}
use Rattle.format.proofs.Begun.{kind_has_bytes}
use Rattle.records.specs.Reads.{Reads}
use Rattle.records.specs.Runs.{Run, RefusesRow, no_kind, no_record, ends_from, divided}
use Rattle.records.proofs.Rows as rows

module _ (k : ℕ) where
  -- no bytes are two records of a kind
  pub no_bytes_are_two_records : {ts us : List Token} {bs : List ℕ} → Spells (layout_of k) ts bs → Spells (layout_of k) us bs → ts ≡ us
  no_bytes_are_two_records = same_bytes_same_record

  -- so two records of equal bytes show the same, in whatever slices and at whatever places they start
  pub equal_bytes_show_the_same : {src src' : List ℕ} {at at' e e' : ℕ} (d : Starts (layout_of k) src at e) (d' : Starts (layout_of k) src' at' e')
      → take (e - at) (drop at src) ≡ take (e' - at') (drop at' src') → d.tokens ≡ d'.tokens
  equal_bytes_show_the_same {src} {src'} {at} {at'} {e} {e'} d d' same =
      let front : take (e - at) (drop at src) ≡ d.front = stands_same (e - at) (omega (arith, d.ends)) d.stands in
      let front' : take (e' - at') (drop at' src') ≡ d'.front = stands_same (e' - at') (omega (arith, d'.ends)) d'.stands in
      same_bytes_same_record d.spells (rw (← (sym front ∙ same ∙ front')) at d'.spells)

  -- and two reads of equal bytes: what `unmarshal` of a type answered, of which its contract says that it is `read` of the layout
  pub equal_bytes_read_alike : (src : List ℕ) (at : ℕ) (src' : List ℕ) (at' : ℕ) {a a' : Ans Parsed} {ps qs : List Part} {e e' : ℕ} → Bytes src → Bytes src'
      → a ≡ read (layout_of k) src at → a ≡ parsed ps e → a' ≡ read (layout_of k) src' at' → a' ≡ parsed qs e'
      → take (e - at) (drop at src) ≡ take (e' - at') (drop at' src') → shown src ps ≡ shown src' qs
  equal_bytes_read_alike src at src' at' b b' told there told' there' same =
      let (d, placed, shows) = accepted_is_legal (layout_of k) src at b (sym told ∙ there) in
      let (d', placed', shows') = accepted_is_legal (layout_of k) src' at' b' (sym told' ∙ there') in
      shows ∙ equal_bytes_show_the_same d d' same ∙ sym shows'

  -- the same of the `.._read` of the types, whose contract has it with no premise
  pub equal_bytes_read_alike_by_contract : {src src' : List ℕ} {at at' : ℕ} {a a' : Ans Parsed} {ps qs : List Part} {e e' : ℕ}
      → Reads (layout_of k) src at a → a ≡ parsed ps e → Reads (layout_of k) src' at' a' → a' ≡ parsed qs e'
      → take (e - at) (drop at src) ≡ take (e' - at') (drop at' src') → shown src ps ≡ shown src' qs
  equal_bytes_read_alike_by_contract x there x' there' same =
      let (d, placed, shows, rest) = x.accepted_is_legal there in
      let (d', placed', shows', rest') = x'.accepted_is_legal there' in
      shows ∙ equal_bytes_show_the_same d d' same ∙ sym shows'

  -- and no bytes are two rows of them
  pub run_divides_once : {at : ℕ} {tss uss : List (List Token)} {es fs bs : List ℕ} → Run (layout_of k) at tss es bs → Run (layout_of k) at uss fs bs → (es ≡ fs) × (tss ≡ uss)
  run_divides_once = rows.run_divides_once (layout_of k) (λ ts bs d. kind_has_bytes k d)

  -- of a row repeated reading finds the ends
  pub reading_finds_the_run : (src : List ℕ) {tss : List (List Token)} {es : List ℕ} → is_kind k ≡ true → Run (layout_of k) 0 tss es src → divided k src ≡ found es
  unfolding divided
  reading_finds_the_run src some run = rw some (rows.reading_finds_the_run (layout_of k) (λ ts bs d. kind_has_bytes k d) src run)

  -- and where it finds ends, they are those of a row
  pub found_ends_are_a_runs : (src : List ℕ) {es : List ℕ} → Bytes src → divided k src ≡ found es → (is_kind k ≡ true) × (tss : List (List Token)) × Run (layout_of k) 0 tss es src
  unfolding divided
  found_ends_are_a_runs src b p =
      let (some, q) = when_found (is_kind k) _ _ p in
      let (tss, run) = rows.found_ends_are_a_runs (layout_of k) (λ ts bs d. kind_has_bytes k d) (length src) src 0 b (omega arith) q in
      (some, tss, run)

  -- a refusal is that of the first record that is not there, or there is no such kind
  pub refused_row_says_why : (src : List ℕ) {f : Refusal} → Bytes src → divided k src ≡ refused f → RefusesRow k src f
  unfolding divided
  refused_row_says_why src {f} b p = by (is_kind k) refl p
    where
      by : (t : Bool) → is_kind k ≡ t → cond t (ends_from (layout_of k) (length src) src 0) (refused (bad_kind k)) ≡ refused f → RefusesRow k src f
      by true some q =
          let x = rows.refused_row_is_broken (layout_of k) (λ ts bs d. kind_has_bytes k d) (length src) src 0 b (omega arith) q in
          let front = zero-add (length x.front) in
          no_record some x.run x.stands (omega (arith, x.inside)) (rw front at x.first)
      by false none q = no_kind none (sym (refused_same q))

  -- and what says why is answered
  pub why_is_row_refusal : (src : List ℕ) {f : Refusal} → RefusesRow k src f → divided k src ≡ refused f
  unfolding divided
  why_is_row_refusal src (no_kind none same) = rw none (ap refused (sym same))
  why_is_row_refusal src (no_record {tss} {es} {xs} some run stands inside first) =
      let front : length xs ≡ 0 + length xs = sym (zero-add (length xs)) in
      rw some (rows.broken_row_is_refused (layout_of k) (λ ts bs d. kind_has_bytes k d) (length src) src 0 (omega arith)
      (record { tokens = tss; ends = es; front = xs; run = run; stands = stands; inside = omega arith; first = rw front at first }))
