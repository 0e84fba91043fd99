-- Records in a row, over every layout whose records have a byte: a row divides in one way, and repeated reading finds it. Assumes nothing.
use Prim.Native.Nat.{ℕ, zero, suc, ◌+◌, ◌≤◌, ◌<◌}
use native.Mathlib.Nat.{add-zero}
use native.Mathlib.Omega.{arith}
use borrow.Author.Tests.{le-leb, lt-leb, leb-true, leb-false}
use mathlib.Core.Path.{◌≡◌, refl, sym, ap, ◌∙◌, subst}
use mathlib.Core.Bool.{Bool, true, false}
use mathlib.Core.List.{List, [], ◌∷◌, ◌++◌, append-nil, append_assoc}
use lib.ListN.{length, drop, length-append, drop_of_length-le}
use lib.Seq.{drop_at, drop-drop}
use lib.Dec.{leb}
use Rattle.faults.specs.declared.Refusal.{Refusal}
use Rattle.wire.specs.Bytes.{Bytes}
use Rattle.wire.specs.Layout.{Layout}
use Rattle.wire.specs.Records.{Ans, found, refused, next, Parsed, left}
use Rattle.wire.specs.Reading.{read, end_of}
use Rattle.wire.specs.Grammar.{Token, Spells, Stands, Starts, shown}
use Rattle.wire.specs.Refusals.{Refuses}
use Rattle.wire.proofs.Stand.{stands_left, stands_none, stands_front, stands_back, stands_join}
use Rattle.wire.proofs.Steps.{found_refused, found_same, refused_same, next_found, parsed_same}
use Rattle.wire.proofs.Complete.{read_complete, placed_shows}
use Rattle.wire.proofs.Sound.{read_sound}
use Rattle.wire.proofs.Refused.{refuses_read, read_refuses}
use Rattle.records.specs.Runs.{Run, none, more, ends_from}

-- ---- ends put together

-- the ends es, and behind them those of a
abbrev pub ahead : List ℕ → Ans (List ℕ) → Ans (List ℕ)
ahead es a = next a (λ fs. found (es ++ fs))

pub ahead_none : (a : Ans (List ℕ)) → a ≡ ahead [] a
ahead_none (found fs) = refl
ahead_none (refused f) = refl

-- an end in front of them
ahead_first : (e : ℕ) (es : List ℕ) (a : Ans (List ℕ)) → next (ahead es a) (λ fs. found (e ∷ fs)) ≡ ahead (e ∷ es) a
ahead_first e es (found fs) = refl
ahead_first e es (refused f) = refl

-- an end behind them
pub ahead_last : (es : List ℕ) (e : ℕ) (a : Ans (List ℕ)) → ahead es (next a (λ fs. found (e ∷ fs))) ≡ ahead (es ++ (e ∷ [])) a
ahead_last es e (found fs) = ap found (sym (append_assoc es (e ∷ []) fs))
ahead_last es e (refused f) = refl

-- ---- one turn of reading

module _ (l : Layout) (src : List ℕ) where
  -- nothing is left
  pub turn_none : (m at : ℕ) → length src ≤ at → ends_from l m src at ≡ found []
  turn_none zero at h = refl
  turn_none (suc m) at h = rw (le-leb (length src) at h)

  -- a record is read, and reading goes on from its end
  pub turn_found : (m at : ℕ) {e : ℕ} → at < length src → end_of (read l src at) ≡ found e
      → ends_from l (suc m) src at ≡ next (ends_from l m src e) (λ fs. found (e ∷ fs))
  turn_found m at h p = rw (lt-leb (length src) at h, p)

  -- none is there
  pub turn_refused : (m at : ℕ) {f : Refusal} → at < length src → end_of (read l src at) ≡ refused f → ends_from l (suc m) src at ≡ refused f
  turn_refused m at h p = rw (lt-leb (length src) at h, p)

-- where a record starts, the input is that record and then what its end leaves
behind : {l : Layout} {src : List ℕ} {at e : ℕ} (d : Starts l src at e) → drop at src ≡ d.front ++ drop e src
behind {src = src} {at} d =
    let n = length d.front in
    d.stands.begins
    ∙ ap (λ xs. d.front ++ xs) (sym (drop_at d.front d.stands.rest n refl) ∙ ap (λ xs. drop n xs) (sym d.stands.begins) ∙ drop-drop n at src ∙ ap (λ m. drop m src) (sym d.ends))

-- the input begins a row that is broken off, as `RefusesRow` has it, but from any place and of any layout: records, the first at the place
-- `at`, and behind them bytes that begin with none, for f
pub record Broken (l : Layout) (src : List ℕ) (at : ℕ) (f : Refusal) : Type 0 where
  pub tokens : List (List Token)
  pub ends : List ℕ
  pub front : List ℕ
  pub run : Run l at tokens ends front
  pub stands : Stands src at front
  pub inside : at + length front < length src
  pub first : Refuses src l (at + length front) f

-- no ends where one more is refused
none_ahead : (e : ℕ) (a : Ans (List ℕ)) {f : Refusal} → next a (λ fs. found (e ∷ fs)) ≡ refused f → a ≡ refused f
none_ahead e (found fs) p = absurd (found_refused (sym p))
none_ahead e (refused g) p = ap refused (refused_same p)

-- a row shows as many records as it has ends
pub run_length : {l : Layout} {at : ℕ} {tss : List (List Token)} {es bs : List ℕ} → Run l at tss es bs → length tss ≡ length es
run_length none = refl
run_length (more joined d stops others) = ap suc (run_length others)

-- every record of the layout has a byte
abbrev pub HasBytes : Layout → Type 0
HasBytes l = (ts : List Token) (bs : List ℕ) → Spells l ts bs → 0 < length bs

module _ (l : Layout) (has : HasBytes l) where
  -- ---- one way to divide a row

  -- the same bytes at the same place: the same ends, and the same tokens
  pub run_divides_once : {at : ℕ} {tss uss : List (List Token)} {es fs bs : List ℕ} → Run l at tss es bs → Run l at uss fs bs → (es ≡ fs) × (tss ≡ uss)
  run_divides_once none none = (refl, refl)
  run_divides_once none (more {xs = xs} {ys} joined d stops others) = absurd (omega (arith, has _ _ d, ap length joined, length-append xs ys))
  run_divides_once (more {xs = xs} {ys} joined d stops others) none = absurd (omega (arith, has _ _ d, ap length joined, length-append xs ys))
  run_divides_once {bs = bs} (more {e = e} {ts = ts} {tss = tss} {es = es} {xs = xs} {ys = ys} joined d stops others) (more {e = e'} {ts = ts'} {tss = tss'} {es = es'} {xs = xs'} {ys = ys'} joined' d' stops' others') =
      let s : Stands bs 0 xs = record { rest = ys; begins = joined } in
      let s' : Stands bs 0 xs' = record { rest = ys'; begins = joined' } in
      let (parts, size) = parsed_same (sym (read_complete d s) ∙ read_complete d' s') in
      let shows : ts ≡ ts' = sym (placed_shows d s) ∙ ap (λ ps. shown bs ps) parts ∙ placed_shows d' s' in
      let long : length xs ≡ length xs' = omega arith in
      let place : e ≡ e' = omega arith in
      let rest : ys' ≡ ys = sym (drop_at xs' ys' (length xs) (sym long)) ∙ ap (λ zs. drop (length xs) zs) (sym joined' ∙ joined) ∙ drop_at xs ys (length xs) refl in
      let (ends, tokens) = run_divides_once others (subst (λ zs. Run l e tss' es' zs) rest (subst (λ n. Run l n tss' es' ys') (sym place) others')) in
      (ap (λ n. n ∷ es) place ∙ ap (λ ns. e' ∷ ns) ends, ap (λ t. t ∷ tss) shows ∙ ap (λ us. ts' ∷ us) tokens)

  -- ---- repeated reading finds it

  -- reading goes over a row that stands there, and on from its end
  pub over_run : (src : List ℕ) {at : ℕ} {tss : List (List Token)} {es xs : List ℕ} (m : ℕ) → Run l at tss es xs → Stands src at xs → left src at ≤ m
      → (m' : ℕ) × (left src (at + length xs) ≤ m') × (ends_from l m src at ≡ ahead es (ends_from l m' src (at + length xs)))
  over_run src {at} m none s enough = (m, omega arith, ahead_none (ends_from l m src at) ∙ ap (λ n. ahead [] (ends_from l m src n)) (sym (add-zero at)))
  over_run src {at} zero (more {xs = xs} {ys} joined d stops others) s enough = absurd (omega (arith, has _ _ d, stands_left (stands_front xs ys s joined)))
  over_run src {at} (suc m) (more {e = e} {es = es} {bs = bs} {xs = xs} {ys} joined d stops others) s enough =
      let front = stands_front xs ys s joined in
      let some = has _ _ d in
      let room = stands_left front in
      let back : Stands src e ys = rw stops (stands_back xs ys refl s joined) in
      let there : end_of (read l src at) ≡ found e = ap end_of (read_complete d front) ∙ ap found (sym stops) in
      let (m', enough', p) = over_run src m others back (omega arith) in
      let place : e + length ys ≡ at + length bs = omega (arith, ap length joined, length-append xs ys) in (
        m',
        omega arith,
        turn_found l src m at (omega arith) there ∙ ap (λ a. next a (λ fs. found (e ∷ fs))) p
            ∙ ahead_first e es (ends_from l m' src (e + length ys)) ∙ ap (λ n. ahead (e ∷ es) (ends_from l m' src n)) place,
      )

  -- of a row that is all that stands there its ends are found
  pub reading_finds_the_run : (src : List ℕ) {tss : List (List Token)} {es : List ℕ} → Run l 0 tss es src → ends_from l (length src) src 0 ≡ found es
  reading_finds_the_run src {es = es} run =
      let (m, enough, p) = over_run src (length src) run (record { rest = []; begins = sym (append-nil src) }) (omega arith) in
      p ∙ ap (λ a. ahead es a) (turn_none l src m (0 + length src) (omega arith)) ∙ ap found (append-nil es)

  -- and what finds ends has found those of a row
  pub found_ends_are_a_runs : (m : ℕ) (src : List ℕ) (at : ℕ) {es : List ℕ} → Bytes src → left src at ≤ m → ends_from l m src at ≡ found es
      → (tss : List (List Token)) × Run l at tss es (drop at src)
  found_ends_are_a_runs zero src at {es} b enough p = ([], rw (drop_of_length-le src {i = at} (omega arith), ← found_same p) none)
  found_ends_are_a_runs (suc m) src at {es} b enough p = by (λ stop fs h q. found_ends_are_a_runs m src stop b h q) (leb (length src) at) refl
    where
      by : ((stop : ℕ) (fs : List ℕ) → left src stop ≤ m → ends_from l m src stop ≡ found fs → (tss : List (List Token)) × Run l stop tss fs (drop stop src))
          → (t : Bool) → leb (length src) at ≡ t → (tss : List (List Token)) × Run l at tss es (drop at src)
      by others true e =
          let q : found [] ≡ found es = rw e at p in
          ([], rw (drop_of_length-le src {i = at} (leb-true (length src) at e), ← found_same q) none)
      by others false e =
          let inside = leb-false (length src) at e in
          let (stop, there, q) = next_found (end_of (read l src at)) _ (rw e at p) in
          let (fs, rest, same) = next_found (ends_from l m src stop) _ q in
          let (r, answer, stops) = next_found (read l src at) _ there in
          let d : Starts l src at stop = rw (← found_same stops) (read_sound l src at r b answer) in
          let some = has d.tokens d.front d.spells in
          let room = stands_left d.stands in
          let (tss, run) = others stop fs (omega (arith, d.ends)) rest in
          (d.tokens ∷ tss, subst (λ ns. Run l at (d.tokens ∷ tss) ns (drop at src)) (found_same same) (more {tss = tss} (behind d) d.spells d.ends run))

  -- ---- and where there is none, the first record that is not there

  -- what is refused is a row that is broken off there
  pub refused_row_is_broken : (m : ℕ) (src : List ℕ) (at : ℕ) {f : Refusal} → Bytes src → left src at ≤ m → ends_from l m src at ≡ refused f → Broken l src at f
  refused_row_is_broken zero src at b enough p = absurd (found_refused (sym p))
  refused_row_is_broken (suc m) src at {f} b enough p = by (λ stop h q. refused_row_is_broken m src stop b h q) (leb (length src) at) refl
    where
      here : ((stop : ℕ) → left src stop ≤ m → ends_from l m src stop ≡ refused f → Broken l src stop f) → at < length src → (a : Ans Parsed) → read l src at ≡ a → next (end_of a) (λ e. next (ends_from l m src e) (λ es. found (e ∷ es))) ≡ refused f → Broken l src at f
      here others inside (refused g) e q =
          let none-there = read_refuses l src at f b (e ∙ ap refused (refused_same q)) in
          record { tokens = []; ends = []; front = []; run = none; stands = stands_none src at; inside = omega arith; first = rw (add-zero at) none-there }
      here others inside (found r) e q =
          let d = read_sound l src at r b e in
          let some = has _ _ d.spells in
          let room = stands_left d.stands in
          let x = others r.stops (omega (arith, d.ends)) (none_ahead r.stops (ends_from l m src r.stops) q) in
          let place : r.stops + length x.front ≡ at + length (d.front ++ x.front) = omega (arith, d.ends, length-append d.front x.front) in
          record {
            tokens = d.tokens ∷ x.tokens;
            ends = r.stops ∷ x.ends;
            front = d.front ++ x.front;
            run = more refl d.spells d.ends x.run;
            stands = stands_join d.front x.front refl d.stands (rw (← d.ends) x.stands);
            inside = omega (arith, x.inside);
            first = rw (← place) x.first;
          }

      by : ((stop : ℕ) → left src stop ≤ m → ends_from l m src stop ≡ refused f → Broken l src stop f) → (t : Bool) → leb (length src) at ≡ t → Broken l src at f
      by others true e = absurd (found_refused {x = []} (sym (rw e at p)))
      by others false e = here others (leb-false (length src) at e) (read l src at) refl (rw e at p)

  -- and a row that is broken off is refused so
  pub broken_row_is_refused : (m : ℕ) (src : List ℕ) (at : ℕ) {f : Refusal} → left src at ≤ m → Broken l src at f → ends_from l m src at ≡ refused f
  broken_row_is_refused m src at {f} enough x =
      let (m', enough', p) = over_run src m x.run x.stands enough in
      p ∙ ap (λ a. ahead x.ends a) (by m' enough')
    where
      by : (m' : ℕ) → left src (at + length x.front) ≤ m' → ends_from l m' src (at + length x.front) ≡ refused f
      by zero h = absurd (omega (arith, x.inside))
      by (suc m') h = turn_refused l src m' (at + length x.front) x.inside (ap end_of (refuses_read x.first))
