-- Walks over records, put together from those over their fields. No law here knows what a walk is for. Assumes nothing.
use Prim.Native.Nat.{ℕ, suc, ◌+◌, ◌≤◌, ◌<◌}
use native.Mathlib.Omega.{arith}
use mathlib.Core.Path.{◌≡◌, refl, sym, ap, ◌∙◌}
use mathlib.Core.Bool.{Bool, true}
use mathlib.Core.List.{List, [], ◌∷◌, ◌++◌}
use lib.ListN.{length-append}
use lib.Dec.{leb, ltb}
use borrow.Author.Tests.{leb-true, ltb-true}
use Rattle.std.specs.Prelude.{Option}
use Rattle.wire.specs.declared.span.Span.{Span}
use Rattle.wire.specs.declared.width.Width.{Width}
use Rattle.wire.specs.Answers.{width_of, len_of, span_part}
use Rattle.wire.specs.Layout.{Rule, Layout, stop, plain, number, buffer, counted, ◌then◌}
use Rattle.wire.specs.Records.{Part, num, tag}
use Rattle.wire.specs.Unions.{held, union, is_arm}
use Rattle.format.specs.declared.list.ListOf.{ListOf}
use Rattle.format.specs.Kinds.{digest_of, item_layout, most_items}
use Rattle.steps.specs.declared.walk.Walk.{Walk}
use Rattle.steps.specs.Steps.{Step, Number, Plain, Buffer, Items, Due, due_size, Plans}
use Rattle.steps.specs.Walks.{Here, here, step_walk, run, Goes, most, reach, Walks, Numbers, Dues}
use Rattle.steps.proofs.Plans.{Arm, plans_none, plans_then, plans_number, plans_list, plans_buffer, plans_arm, plans_due, digest_arm}

run_append : (ss ts : List Step) (src : List ℕ) (a : Here) → run (ss ++ ts) src a ≡ run ts src (run ss src a)
unfolding run
run_append [] ts src a = refl
run_append (s ∷ ss) ts src a = run_append ss ts src (step_walk s src a)

reach_append : (ss ts : List Step) → reach (ss ++ ts) ≡ reach ss + reach ts
reach_append [] ts = omega arith
reach_append (s ∷ ss) ts = omega (arith, reach_append ss ts)

module _ (src : List ℕ) where
  -- one walk behind another
  on : {a b z : Here} {ss ts : List Step} → Goes ss src a b → Goes ts src b z → Goes (ss ++ ts) src a z
  on {a} {ss = ss} {ts = ts} p q = record { same = q.same ∙ ap (λ x. run ts src x) p.same ∙ sym (run_append ss ts src a) }

  -- nothing
  pub walks_none : (a : Here) → Walks 0 stop [] [] src a a
  unfolding run
  walks_none a = record { steps = []; plans = plans_none; few = omega arith; short = omega arith; goes = record { same = refl } }

  -- one step, and what follows it
  first : {a b z : Here} {l m : Layout} {ps qs ls ms : List Part} {j k : ℕ} (s : Step) → most s ≤ 0x10001 → Goes (s ∷ []) src a b → (p : Walks j m qs ms src b z) → Plans l ps ls (s ∷ p.steps) → leb (suc j) k ≡ true
      → Walks k l ps ls src a z
  first {j = j} {k = k} s small g p plan fits =
      let room = leb-true (suc j) k fits in
      record { steps = s ∷ p.steps; plans = plan; few = omega (arith, p.few); short = omega (arith, p.short); goes = on g p.goes }

  -- at most so many steps are at most more
  pub walks_more : {j k : ℕ} {l : Layout} {ps ls : List Part} {a b : Here} → Walks j l ps ls src a b → leb j k ≡ true → Walks k l ps ls src a b
  walks_more {j} {k} p fits =
      let room = leb-true j k fits in
      record { steps = p.steps; plans = p.plans; few = omega (arith, p.few); short = omega (arith, p.short); goes = p.goes }

  -- one record behind another
  pub walks_then : {i j k : ℕ} {l m : Layout} {ps qs ls ms : List Part} {a b z : Here} → Walks i l ps ls src a b → Walks j m qs ms src b z → leb (i + j) k ≡ true → Walks k (l then m) (ps ++ qs) (ls ++ ms) src a z
  walks_then {i} {j} {k} p q fits =
      let room = leb-true (i + j) k fits in
      record {
        steps = p.steps ++ q.steps;
        plans = plans_then p.plans q.plans;
        few = omega (arith, length-append p.steps q.steps, p.few, q.few);
        short = omega (arith, reach_append p.steps q.steps, p.short, q.short);
        goes = on p.goes q.goes;
      }

  -- a number, a buffer and a list, each with what follows it
  pub walks_number : {j k : ℕ} {ps ls : List Part} {a b z : Here} (w : Width) (rule : Rule) (n : ℕ) (l : ℕ → Layout) → Numbers w rule n a b → Walks j (l n) ps ls src b z → leb (suc j) k ≡ true
      → Walks k (number (width_of w) rule l) (num n ∷ ps) ls src a z
  walks_number w rule n l p q fits = first (Number w rule n) (omega arith) (p.goes src) q (plans_number w rule n l p.fits q.plans) fits

  pub walks_buffer : {j k : ℕ} {l : Layout} {ps ls : List Part} {a b z : Here} (m : ℕ) (s : Span) → ltb m 65536 ≡ true → Goes (Buffer m s ∷ []) src a b → Walks j l ps ls src b z → leb (suc j) k ≡ true
      → Walks k (buffer 2 m l) (span_part s ∷ ps) ls src a z
  walks_buffer m s h p q fits = first (Buffer m s) (omega arith) p q (plans_buffer m s (ltb-true m 65536 h) q.plans) fits

  pub walks_list : {j k : ℕ} {l : Layout} {ps ls : List Part} {a b z : Here} (i : ListOf) (s : Span) → Goes (Items i s ∷ []) src a b → Walks j l ps ls src b z → leb (suc j) k ≡ true
      → Walks k (counted (most_items i) (item_layout i) l) (span_part s ∷ ps) (span_part s ∷ ls) src a z
  walks_list i s p q fits = first (Items i s) (omega arith) p q (plans_list i s q.plans) fits

  -- the last field of a record
  pub last_number : {k : ℕ} {a b : Here} (w : Width) (rule : Rule) (n : ℕ) → Numbers w rule n a b → leb 1 k ≡ true → Walks k (number (width_of w) rule (λ n. stop)) (num n ∷ []) [] src a b
  last_number {b = b} w rule n p fits = walks_number w rule n (λ n. stop) p (walks_none b) fits

  -- ---- a union with the parts us; c is the arm that its selector v chooses, and b whether it is the one that is held

  module _ {c c' : Option ℕ} {b : Bool} {us : List Part} {x y : Walk} {out : List ℕ} (v : ℕ) (same : c ≡ c') (told : b ≡ is_arm c' (held us)) (goes : Dues v c b x y) where
    begun : {h : ℕ} {ps : List Part} → us ≡ tag h ∷ ps → Goes (Due v c' (is_arm c' h) ∷ []) src (here x out) (here y out)
    begun e = rw (← ap (λ z. is_arm c' (held z)) e, ← told, ← same) (goes.goes src out)

    -- with fields
    pub holds : {j k h : ℕ} {ps ls : List Part} {l : Layout} {z : Here} (body : ℕ → Layout) → us ≡ tag h ∷ ps → body h ≡ l → Walks j l ps ls src (here y out) z → leb (suc j) k ≡ true
        → Walks k (union c' body v) us ls src (here x out) z
    holds {h = h} body e is p fits = rw e (first (Due v c' (is_arm c' h)) (omega arith) (begun e) p (plans_due v c' h body (plans_arm (rw is p.plans))) fits)

    -- a digest
    pub holds_digest : {k : ℕ} {z : Here} (body : ℕ → Layout) (s : Span) → us ≡ tag (digest_of (len_of s)) ∷ span_part s ∷ [] → (is_arm c' (digest_of (len_of s)) ≡ true → body (digest_of (len_of s)) ≡ plain (len_of s) stop) → due_size c < 65536
        → Goes (Plain (due_size c) s ∷ []) src (here y out) z → leb 2 k ≡ true → Walks k (union c' body v) us [] src (here x out) z
    holds_digest {k} body s e is small more fits =
        let room = leb-true 2 k fits in
        let h = digest_of (len_of s) in
        let last : Goes (Plain (due_size c') s ∷ []) src (here y out) _ = rw same at more in
        let size : due_size c' < 65536 = rw same at small in
        let arm = digest_arm c' s in
        let holding : Arm c' h (body h) (span_part s ∷ []) [] (Plain (due_size c') s ∷ []) =
        record { if_chosen = λ t. rw (is t) (arm.if_chosen t); fields = arm.fields; lists = arm.lists } in
        rw e
        (record {
          steps = Due v c' (is_arm c' h) ∷ Plain (due_size c') s ∷ [];
          plans = plans_due v c' h body holding;
          few = omega arith;
          short = omega arith;
          goes = on (begun e) last;
        })
