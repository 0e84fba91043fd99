-- From what is answered of a record to its listing. Assumes nothing.
use Prim.Native.Nat.{ℕ, ◌+◌, ◌-◌, ◌≤◌, ◌<◌}
use native.Mathlib.Omega.{arith}
use borrow.Author.Tests.{le-leb, lt-leb, leb-true}
use mathlib.Core.Path.{◌≡◌, refl, sym, ap, ◌∙◌, subst}
use mathlib.Core.Bool.{Bool, true, false, cond}
use mathlib.Core.List.{List, [], ◌∷◌, ◌++◌}
use lib.ListN.{length, take, drop, get_or, length-append}
use lib.Dec.{leb}
use lib.Seq.{length-take-le, take_all}
use Rattle.std.specs.Prelude.{Err, Ok, Result}
use Rattle.faults.specs.declared.Refusal.{Refusal}
use Rattle.faults.specs.Faults.{no_room, bad_kind, oversize}
use Rattle.wire.specs.Bytes.{Bytes}
use Rattle.wire.specs.Records.{Ans, Part, found, refused, Parsed, parsed}
use Rattle.wire.specs.Reading.{end_of}
use Rattle.wire.specs.Answers.{measure_answer}
use Rattle.wire.proofs.Steps.{found_refused, found_same, refused_same, next_found, when_found}
use Rattle.format.specs.Kinds.{is_kind, layout_of, read_kind}
use Rattle.format.proofs.Greatest.{no_record_is_larger}
use Rattle.wire.specs.Lines.{lines}
use Rattle.text.specs.Puts.{Puts, Fits}
use Rattle.text.specs.Text.{lines_text, read_text, refused_text}
use Rattle.text.proofs.Putting.{puts_length, puts_then, fits_puts}
use Rattle.text.proofs.Rows.{read_text_length, refused_text_length}
use Rattle.steps.specs.declared.walk.Walk.{Walk}
use Rattle.steps.specs.Walks.{here, lining}
use Rattle.steps.proofs.Listed.{walk_lists}
use Rattle.records.proofs.Promises.{read_is_legal}
use Rattle.copies.specs.Walked.{WalkOf}
use Rattle.copies.proofs.Rewritten.{read_record_lies_in_its_source}
use Rattle.copies.proofs.Walked.{read_bytes}
use Rattle.listing.specs.Listing.{judged, answer_text, record_text, listing, answered, is_found, Counts, Lists}

-- ---- what is answered

-- of one that is too long: its number is no kind, or is one
pub no_kind_unread : (k : ℕ) {f : Refusal} → f ≡ bad_kind k → is_kind k ≡ false → f ≡ cond (is_kind k) oversize (bad_kind k)
no_kind_unread k e none = rw (none, e)

pub kind_unread : (k : ℕ) {f : Refusal} → f ≡ oversize → is_kind k ≡ true → f ≡ cond (is_kind k) oversize (bad_kind k)
kind_unread k e some = rw (some, e)

-- a record that is not too long is answered as its reader does
pub judged_read : (k : ℕ) (bs : List ℕ) → length bs ≤ 4096 → judged k bs ≡ read_kind k bs 0
unfolding judged read_kind
judged_read k bs few = rw (le-leb (length bs) 4096 few)

-- one that is too long is not read
pub judged_unread : (k : ℕ) (bs : List ℕ) → 4096 < length bs → judged k bs ≡ refused (cond (is_kind k) oversize (bad_kind k))
unfolding judged
judged_unread k bs many = rw (lt-leb (length bs) 4096 many) (by (is_kind k))
  where
    by : (b : Bool) → cond {A = Ans Parsed} b (refused oversize) (refused (bad_kind k)) ≡ refused (cond b oversize (bad_kind k))
    by true = refl
    by false = refl

-- so where a record ends
pub end_judged : (k : ℕ) (bs : List ℕ) {a : Ans ℕ} → length bs ≤ 4096 → a ≡ end_of (read_kind k bs 0) → a ≡ end_of (judged k bs)
end_judged k bs few p = p ∙ ap end_of (sym (judged_read k bs few))

pub end_unread : (k : ℕ) (bs : List ℕ) {f : Refusal} → 4096 < length bs → f ≡ cond (is_kind k) oversize (bad_kind k) → refused f ≡ end_of (judged k bs)
end_unread k bs many e = ap refused e ∙ ap end_of (sym (judged_unread k bs many))

-- what was answered, by where it ends
pub judged_refused : (k : ℕ) (bs : List ℕ) {m : Result ℕ Refusal} {f : Refusal} → measure_answer m ≡ end_of (judged k bs) → m ≡ Err f → judged k bs ≡ refused f
judged_refused k bs {f = f} p given = by (judged k bs) (sym p ∙ ap measure_answer given)
  where
    by : (y : Ans Parsed) → end_of y ≡ refused f → y ≡ refused f
    by (found r) e = absurd (found_refused (sym e))
    by (refused g) e = ap refused (refused_same e)

-- ---- what is listed

pub refused_listed : (k : ℕ) (bs : List ℕ) {f : Refusal} → judged k bs ≡ refused f → refused_text k f ≡ record_text k bs
unfolding record_text
refused_listed k bs e = ap (λ a. answer_text k bs a) (sym e)

-- a text that is put at the start
started : {text other old last : List ℕ} {r m : ℕ} → text ≡ other → m ≡ length text → length text ≤ 16384 → (length text ≤ length old → Puts 0 text old r last) → Counts other old m last
started {text} {other} {old} {last} {m = m} same size most put =
    subst (λ t. Counts t old m last) same (record {
      size = size;
      most = most;
      puts = λ room. let front : 0 + length text ≡ length text = omega arith in (put room).holds ∙ ap (λ n. text ++ drop n old) front;
    })

-- the line of a refusal is put, and is all that is listed
pub refusal_listed : (k : ℕ) (bs : List ℕ) {f : Refusal} {old : List ℕ} {r : ℕ} {last : List ℕ} → judged k bs ≡ refused f
    → Fits 0 (refused_text k f) old r last → Counts (record_text k bs) old r last
refusal_listed k bs {f} {old} e p =
    started (refused_listed k bs e) p.size (omega (arith, refused_text_length k f)) (λ room. fits_puts (omega arith) p)

pub read_listed : (k : ℕ) (bs : List ℕ) {ps : List Part} {e : ℕ} → judged k bs ≡ parsed ps e
    → read_text k e (length bs - e) ++ lines_text (lines (layout_of k) ps bs 0) ≡ record_text k bs
unfolding record_text
read_listed k bs e = ap (λ a. answer_text k bs a) (sym e)

-- a record was read from bs, and ends at e
pub record ReadAs (k : ℕ) (bs : List ℕ) (e : ℕ) : Type 0 where
  pub parts : List Part
  pub answer : read_kind k bs 0 ≡ parsed parts e
  pub listed : judged k bs ≡ parsed parts e
  pub inside : e ≤ length bs
  pub most : e ≤ 2287

pub read_as : (k : ℕ) (bs : List ℕ) {m : Result ℕ Refusal} {e : ℕ} → Bytes bs → measure_answer m ≡ end_of (judged k bs) → m ≡ Ok e → ReadAs k bs e
unfolding judged
read_as k bs {e = e} b p given =
    let (r, answer, stops) = next_found (judged k bs) _ (sym p ∙ ap measure_answer given) in
    let there : judged k bs ≡ parsed r.parts e = answer ∙ ap (λ n. parsed r.parts n) (found_same stops) in
    let (some, x) = when_found (is_kind k) _ _ there in
    let (few, y) = when_found (leb (length bs) 4096) _ _ x in
    let (from, inside) = read_record_lies_in_its_source k bs 0 b y in
    let start = read_is_legal k bs 0 (record { parts = r.parts; stops = e }) b y in
    record {
      parts = r.parts;
      answer = sym (judged_read k bs (leb-true (length bs) 4096 few)) ∙ there;
      listed = there;
      inside = inside;
      most = omega (arith, start.ends, no_record_is_larger k start.tokens start.front start.spells);
    }

-- the first line is put, and behind it those that a walk over the record puts
pub record_listed : {k : ℕ} {bs : List ℕ} {e : ℕ} → ReadAs k bs e → Bytes bs → {old mid last : List ℕ} {m : ℕ} {u w : Walk} → Fits 0 (read_text k e (length bs - e)) old m mid
    → u ≡ lining 0 m → WalkOf (layout_of k) bs (read_kind k bs 0) (here u mid) (here w last) → Counts (record_text k bs) old w.value last
record_listed {k} {bs} {e} read b {old} {mid} {last} {m} {u} {w} first begin walks =
    let head = read_text k e (length bs - e) in
    let text = lines_text (lines (layout_of k) read.parts bs 0) in
    let near : length head ≤ 78 = read_text_length k e (length bs - e) in
    let size = first.size in
    let (ls, p, one) = walks.walked read.answer in
    let laid = read_bytes k bs _ b read.answer in
    let few : length (take e bs) ≤ 2287 = omega (arith, length-take-le e bs read.inside, read.most) in
    let (count, put, most) = walk_lists 24 (layout_of k) read.parts ls bs mid last u w m (take e bs) begin p laid refl one (omega arith) (omega arith) in
    let both = length-append head text in
    started (read_listed k bs read.listed) (omega arith) (omega arith)
    (λ room.
    let line = fits_puts (omega arith) first in
    let place : 0 + length head ≡ m = omega arith in
    let fits : m ≤ length old = omega arith in
    let here-line = subst (λ n. Puts 0 head old n mid) place line in
    puts_then fits here-line (put (omega (arith, puts_length fits here-line))))

-- ---- what is owed

-- no byte at all is kind 0
pub empty_listing : (d : List ℕ) → length d ≡ 0 → record_text 0 d ≡ listing d
unfolding listing
empty_listing [] e = refl
empty_listing (k ∷ bs) e = absurd (omega arith)

-- a first byte is the kind
pub kind_listing : (d : List ℕ) → 0 < length d → record_text (get_or d 0 0) (take (length d - 1) (drop 1 d)) ≡ listing d
unfolding listing
kind_listing [] some = absurd (omega arith)
kind_listing (k ∷ bs) some = ap (λ xs. record_text k xs) (take_all (length (k ∷ bs) - 1) bs (omega arith))

-- what is answered of them
pub nothing_answered : (d : List ℕ) → length d ≡ 0 → false ≡ is_found (answered d)
unfolding answered judged
nothing_answered [] e = refl
nothing_answered (k ∷ bs) e = absurd (omega arith)

pub kind_answered : (d : List ℕ) → 0 < length d → judged (get_or d 0 0) (take (length d - 1) (drop 1 d)) ≡ answered d
unfolding answered
kind_answered [] some = absurd (omega arith)
kind_answered (k ∷ bs) some = ap (λ xs. judged k xs) (take_all (length (k ∷ bs) - 1) bs (omega arith))

-- whether it was read is known from where it ends
pub end_answered : (k : ℕ) (bs : List ℕ) {a : Ans ℕ} → a ≡ end_of (judged k bs) → is_found a ≡ is_found (judged k bs)
end_answered k bs p = ap is_found p ∙ by (judged k bs)
  where
    by : (y : Ans Parsed) → is_found (end_of y) ≡ is_found y
    by (found r) = refl
    by (refused f) = refl

-- ---- the slice that is lent

pub listed : {text old : List ℕ} {r : ℕ} {last : List ℕ} → length text ≤ length old → Counts text old r last → Lists text old (Ok r) last
listed {text} {old} room p =
    let enough = le-leb (length text) (length old) room in
    record {
      answer = ap found p.size ∙ rw enough;
      buffer = p.puts room ∙ rw enough;
      most = p.most;
    }

pub not_listed : {text old : List ℕ} {n : ℕ} {f : Refusal} → f ≡ no_room 0 n → (n ≡ length text) × (n ≤ 16384) → length old < n → Lists text old (Err f) old
not_listed {text} {old} e (size, most) small =
    let short = lt-leb (length text) (length old) (omega arith) in
    record {
      answer = ap refused (e ∙ ap (λ n. no_room 0 n) size) ∙ rw short;
      buffer = rw short;
      most = omega arith;
    }

-- of a record, and so of a deposit
pub deposit_listed : (d : List ℕ) {text old : List ℕ} {r : Result ℕ Refusal} {last : List ℕ} → text ≡ listing d → Lists text old r last → Lists (listing d) old r last
deposit_listed d {old = old} {r = r} {last = last} e p = subst (λ t. Lists t old r last) e p
