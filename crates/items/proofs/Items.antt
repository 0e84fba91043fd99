-- The items of lists: their lines, and that their bytes lie in the list. Assumes nothing.
use Prim.Native.Nat.{ℕ, ◌+◌, ◌≤◌}
use native.Mathlib.Omega.{arith}
use mathlib.Core.Path.{◌≡◌, refl, sym, ap, ◌∙◌}
use mathlib.Core.List.{List, [], ◌∷◌}
use lib.ListN.{length}
use borrow.Author.Tests.{leb-true}
use Rattle.std.specs.Prelude.{None, Option, Some}
use Rattle.wire.specs.declared.span.Span.{Span}
use Rattle.wire.specs.Answers.{start_of, len_of, span_part}
use Rattle.wire.specs.Bytes.{Bytes}
use Rattle.wire.specs.Layout.{Rule, free, length_to, Layout, stop, number, plain, buffer}
use Rattle.wire.specs.Lines.{line, a_number, say_number, span_line, lines}
use Rattle.wire.specs.Records.{Part, num, tag, found, Parsed, parsed}
use Rattle.wire.specs.Reading.{piece, field, read, end_of}
use Rattle.wire.specs.Parts.{on_number, on_arm, on_span}
use Rattle.wire.specs.Unions.{union}
use Rattle.wire.proofs.Steps.{found_refused, found_same, parsed_same, next_found, field_found}
use Rattle.wire.proofs.Sound.{read_sound}
use Rattle.wire.proofs.Stand.{stands_left}
use Rattle.codes.specs.Codes.{alg, null}
use Rattle.format.specs.declared.list.ListOf.{ListOf}
use Rattle.format.specs.declared.list.ListOf.TheVariants.{PcrSelection, TaggedPolicy}
use Rattle.format.specs.Kinds.{digest_of, tpmu_ha_arm, tpmu_ha_body, tpmu_ha, tpmt_ha, tpms_pcr_selection, tpms_tagged_policy, item_layout}
use Rattle.format.proofs.Lists.{item_some}
use Rattle.format.proofs.Tables.{digest_short, digest_body}
use Rattle.ciphers.specs.declared.tpmu.TpmuHa.{TpmuHa}
use Rattle.ciphers.specs.Parts.{tpmu_ha_parts, tpmt_ha_parts}
use Rattle.steps.specs.Walks.{Here, put_line, put_lines}
use Rattle.items.specs.declared.tpms.TpmsPcrSelection.{TpmsPcrSelection}
use Rattle.items.specs.declared.tpms.TpmsTaggedPolicy.{TpmsTaggedPolicy}
use Rattle.items.specs.Items.{HasParts}
use Rattle.items.specs.Parts.{tpms_pcr_selection_parts, tpms_tagged_policy_parts}

-- ---- lines, one behind the other

-- the line of a number, and then those of the rest
pub by_line : (w : ℕ) (r : Rule) (k : ℕ → Layout) {m n : ℕ} (ps : List Part) (xs : List ℕ) (p : ℕ) (h : Here) {i z : Here} → i ≡ put_line (line p w (say_number r m)) h → m ≡ n
    → z ≡ put_lines (lines (k n) ps xs (p + w)) i → z ≡ put_lines (lines (number w r k) (num n ∷ ps) xs p) h
unfolding lines put_lines
by_line w r k {m} {n} ps xs p h e same q = q ∙ ap (λ j. put_lines (lines (k n) ps xs (p + w)) j) (e ∙ ap (λ m. put_line (line p w (say_number r m)) h) same)

-- the lines of a length and of its bytes, and then those of the rest
pub by_buffer : (w m : ℕ) (l : Layout) (s : Span) (ps : List Part) (xs : List ℕ) (p : ℕ) {n : ℕ} (h : Here) {i j z : Here} → i ≡ put_line (line p w (a_number n)) h → n ≡ len_of s → j ≡ put_line (span_line (p + w) (start_of s) (len_of s) xs) i
    → z ≡ put_lines (lines l ps xs (p + w + len_of s)) j → z ≡ put_lines (lines (buffer w m l) (span_part s ∷ ps) xs p) h
unfolding lines put_lines
by_buffer w m l s ps xs p h e size f q =
    q ∙ ap (λ y. put_lines (lines l ps xs (p + w + len_of s)) y) (f ∙ ap (λ y. put_line (span_line (p + w) (start_of s) (len_of s) xs) y) (e ∙ ap (λ k. put_line (line p w (a_number k)) h) size))

pub by_end : (xs : List ℕ) (p : ℕ) (h : Here) → h ≡ put_lines (lines stop [] xs p) h
unfolding lines put_lines
by_end xs p h = refl

pub ruleset listing = (by_line, by_buffer, by_end)

-- ---- the bytes of an item lie in its list

-- an item ends behind its start, and in the list
pub item_ends : (which : ListOf) (src : List ℕ) (at : ℕ) {e : ℕ} → Bytes src → found e ≡ end_of (read (item_layout which) src at) → (at ≤ e) × (e ≤ length src)
item_ends which src at b p =
    let (r, q, s) = next_found (read (item_layout which) src at) _ (sym p) in
    let d = read_sound (item_layout which) src at r b q in
    omega (arith, found_same s, d.ends, item_some which d.spells, stands_left d.stands)

abbrev first_number : List Part → ℕ
first_number ps = on_number 0 ps (λ n qs. n)

abbrev first_tag : List Part → ℕ
first_tag ps = on_arm 0 ps (λ t qs. t)

abbrev behind_first : List Part → List Part
behind_first [] = []
behind_first (p ∷ ps) = ps

abbrev first_start : List Part → ℕ
first_start ps = on_span 0 ps (λ start len qs. start)

abbrev first_len : List Part → ℕ
first_len ps = on_span 0 ps (λ start len qs. len)

parsed_is : (r : Parsed) {ps : List Part} {e : ℕ} → r.parts ≡ ps → r.stops ≡ e → found r ≡ parsed ps e
parsed_is r a b = rw (← a, ← b) refl

-- behind a number that was read stands the rest
peel : (w : ℕ) (r : Rule) (k : ℕ → Layout) (xs : List ℕ) (at n e : ℕ) (ps : List Part) → parsed (num n ∷ ps) e ≡ read (number w r k) xs at → parsed ps e ≡ read (k n) xs (at + w)
unfolding read
peel w r k xs at n e ps p =
    let (m, a, q) = next_found (field w r xs at) _ (sym p) in
    let (inner, l, s) = next_found (read (k m) xs (at + w)) _ q in
    let (parts, stops) = parsed_same s in
    let same : m ≡ n = ap first_number parts in
    let was : found inner ≡ parsed ps e = parsed_is inner (ap behind_first parts) stops in
    sym was ∙ sym l ∙ ap (λ m. read (k m) xs (at + w)) same

-- the bits of a selection
bits_fit : (xs : List ℕ) (at e : ℕ) (s : Span) → Bytes xs → parsed (span_part s ∷ []) e ≡ read (buffer 1 4 stop) xs at → (len_of s ≤ 4) × (e ≡ start_of s + len_of s)
unfolding read
bits_fit xs at e s b p =
    let (m, d, f) = next_found (field 1 (length_to 4) xs at) _ (sym p) in
    let (ys, g, h) = next_found (piece m xs (at + 1)) _ f in
    let (parts, stops) = parsed_same h in
    let start : at + 1 ≡ start_of s = ap first_start parts in
    let len : m ≡ len_of s = ap first_len parts in
    (omega (arith, leb-true m 4 (field_found 1 (length_to 4) xs at b d).1), omega arith)

pub selection_fits : (x : TpmsPcrSelection) (xs : List ℕ) (at : ℕ) → Bytes xs → HasParts tpms_pcr_selection (tpms_pcr_selection_parts x) xs at
    → (len_of x.pcr_select ≤ 0x10001) × (start_of x.pcr_select + len_of x.pcr_select ≤ length xs)
unfolding tpms_pcr_selection
selection_fits x xs at b (e, was) =
    let (few, stops) = bits_fit xs (at + 2) e x.pcr_select b (peel 2 alg (λ n. buffer 1 4 stop) xs at x.hash.0 e (span_part x.pcr_select ∷ []) was) in
    (omega arith, omega (arith, item_ends PcrSelection xs at b (ap end_of was)))

-- the arm of a digest that was read is the one that its algorithm chooses
ha_chosen : (v : ℕ) (xs : List ℕ) (at t e : ℕ) (ps : List Part) → parsed (tag t ∷ ps) e ≡ read (tpmu_ha v) xs at → (tpmu_ha_arm v ≡ Some t) × (parsed ps e ≡ read (tpmu_ha_body t) xs at)
unfolding read tpmu_ha
ha_chosen v xs at t e ps p = by (tpmu_ha_arm v) refl p
  where
    by : (c : Option ℕ) → tpmu_ha_arm v ≡ c → parsed (tag t ∷ ps) e ≡ read (union c tpmu_ha_body v) xs at → (tpmu_ha_arm v ≡ Some t) × (parsed ps e ≡ read (tpmu_ha_body t) xs at)
    by None q p = absurd (found_refused (sym p))
    by (Some u) q p =
        let (inner, l, s) = next_found (read (tpmu_ha_body u) xs at) _ (sym p) in
        let (parts, stops) = parsed_same s in
        let same : u ≡ t = ap first_tag parts in
        (q ∙ ap Some same, sym (parsed_is inner (ap behind_first parts) stops) ∙ sym l ∙ ap (λ u. read (tpmu_ha_body u) xs at) same)

-- so a digest has the line of its bytes, which lie in the list
module _ (v : ℕ) (xs : List ℕ) (at e : ℕ) (s : Span) (was : parsed (tag (digest_of (len_of s)) ∷ span_part s ∷ []) e ≡ read (tpmu_ha v) xs at) where
  digest_bytes : parsed (span_part s ∷ []) e ≡ read (plain (len_of s) stop) xs at
  digest_bytes =
      let (chosen, rest) = ha_chosen v xs at (digest_of (len_of s)) e (span_part s ∷ []) was in
      rest ∙ ap (λ l. read l xs at) (digest_body v chosen)

  digest_fits : (len_of s ≤ 64) × (e ≡ start_of s + len_of s)
  unfolding read
  digest_fits =
      let (ys, g, h) = next_found (piece (len_of s) xs at) _ (sym digest_bytes) in
      let (parts, stops) = parsed_same h in
      let start : at ≡ start_of s = ap first_start parts in
      let chosen = (ha_chosen v xs at (digest_of (len_of s)) e (span_part s ∷ []) was).0 in
      (omega (arith, digest_short v chosen), omega arith)

  digest_line : (p : ℕ) (h z : Here) → z ≡ put_line (span_line p (start_of s) (len_of s) xs) h → z ≡ put_lines (lines (tpmu_ha v) (tag (digest_of (len_of s)) ∷ span_part s ∷ []) xs p) h
  unfolding tpmu_ha lines put_lines
  digest_line p h z q = let chosen = (ha_chosen v xs at (digest_of (len_of s)) e (span_part s ∷ []) was).0 in rw (chosen, digest_body v chosen) q

-- and the digest of Null has none
null_line : (v : ℕ) (xs : List ℕ) (at e p : ℕ) (h : Here) → parsed (tag null ∷ []) e ≡ read (tpmu_ha v) xs at → h ≡ put_lines (lines (tpmu_ha v) (tag null ∷ []) xs p) h
unfolding tpmu_ha lines put_lines
null_line v xs at e p h was = rw (ha_chosen v xs at null e [] was).0 refl

-- ---- a policy

module _ (x : TpmsTaggedPolicy) (xs : List ℕ) (at : ℕ) (is : HasParts tpms_tagged_policy (tpms_tagged_policy_parts x) xs at) where
  abbrev code : ℕ
  code = x.policy_hash.hash_alg.0

  -- behind its handle and its algorithm stands its digest
  has_digest : (d : TpmuHa) → x.policy_hash.digest ≡ d → parsed (tpmu_ha_parts d) is.0 ≡ read (tpmu_ha code) xs (at + 4 + 2)
  unfolding tpms_tagged_policy tpmt_ha
  has_digest d q =
      ap (λ d. parsed (tpmu_ha_parts d) is.0) (sym q)
      ∙ peel 2 alg tpmu_ha xs (at + 4) code is.0 (tpmu_ha_parts x.policy_hash.digest) (peel 4 free (λ handle. tpmt_ha) xs at x.handle is.0 (tpmt_ha_parts x.policy_hash) is.1)

  lines_of_digest : (d : TpmuHa) (p : ℕ) (h : Here) {z : Here} → x.policy_hash.digest ≡ d → z ≡ put_lines (lines (tpmu_ha code) (tpmu_ha_parts d) xs p) h → z ≡ put_lines (lines (tpmu_ha code) (tpmu_ha_parts x.policy_hash.digest) xs p) h
  lines_of_digest d p h q r = r ∙ ap (λ d. put_lines (lines (tpmu_ha code) (tpmu_ha_parts d) xs p) h) (sym q)

  pub null_lines : (p : ℕ) (h : Here) → x.policy_hash.digest ≡ TpmuHa.Null → h ≡ put_lines (lines (tpmu_ha code) (tpmu_ha_parts x.policy_hash.digest) xs p) h
  null_lines p h q = lines_of_digest TpmuHa.Null p h q (null_line code xs (at + 4 + 2) is.0 p h (has_digest TpmuHa.Null q))

  module _ (s : Span) (q : x.policy_hash.digest ≡ TpmuHa.Digest s) where
    pub digest_lines : (p : ℕ) (h : Here) {z : Here} → z ≡ put_line (span_line p (start_of s) (len_of s) xs) h → z ≡ put_lines (lines (tpmu_ha code) (tpmu_ha_parts x.policy_hash.digest) xs p) h
    digest_lines p h {z} f = lines_of_digest (TpmuHa.Digest s) p h q (digest_line code xs (at + 4 + 2) is.0 s (has_digest (TpmuHa.Digest s) q) p h z f)

    pub policy_fits : Bytes xs → (len_of s ≤ 0x10001) × (start_of s + len_of s ≤ length xs)
    policy_fits b =
        let (few, stops) = digest_fits code xs (at + 4 + 2) is.0 s (has_digest (TpmuHa.Digest s) q) in
        (omega arith, omega (arith, item_ends TaggedPolicy xs at b (ap end_of is.1)))
