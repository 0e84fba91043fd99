-- A record that is walked over to judge it is measured, and walked over again to put it, it is written. Assumes nothing.
use Prim.Native.Nat.{ℕ, ◌+◌, ◌-◌, ◌≤◌}
use native.Mathlib.Nat.{zero-add}
use native.Mathlib.Omega.{arith}
use mathlib.Core.Path.{◌≡◌, refl, sym, ap, ◌∙◌}
use mathlib.Core.Bool.{Bool, true, false}
use mathlib.Core.List.{List, ◌++◌}
use lib.ListN.{length, drop}
use lib.Dec.{leb}
use borrow.Author.Tests.{leb-true}
use Rattle.std.specs.Prelude.{Result}
use Rattle.faults.specs.declared.Refusal.{Refusal}
use Rattle.faults.specs.Faults.{refusal, no_room}
use Rattle.wire.specs.Answers.{measure_answer}
use Rattle.wire.specs.Layout.{Layout}
use Rattle.wire.specs.Records.{Part, Ans, found, refused}
use Rattle.wire.specs.Writing.{lay}
use Rattle.wire.specs.Filling.{written, filled}
use Rattle.wire.specs.Fields.{size_of}
use Rattle.steps.specs.Steps.{Step, spell}
use Rattle.steps.specs.declared.walk.Walk.{Walk}
use Rattle.steps.specs.Walks.{Here, here, judging, putting, refusing, after, judged, run, Walks, ready_walk, walk_answer}
use Rattle.steps.specs.Writes.{Measures, Writes}
use Rattle.steps.proofs.Leaves.{numbered}
use Rattle.steps.proofs.Runs.{stays_no, run_judges, run_puts}
pub use borrow.Author.Rules.{rules}

pub refusing_answer : (f : Refusal) → walk_answer (refusing f) ≡ refused f
unfolding walk_answer
refusing_answer f = ap (λ k. refused (refusal k f.place f.value f.had)) (numbered f.fault)

-- what the second walk leaves, by what the first found
module _ (ss : List Step) (src old : List ℕ) where
  refused_walk : (f : Refusal) {h : Here} → h ≡ run ss src (here (refusing f) old) → (walk_answer h.walk ≡ refused f) × (h.out ≡ old)
  refused_walk f e = let g = e ∙ stays_no ss src f old in (ap (λ x. walk_answer x.walk) g ∙ refusing_answer f, ap (λ x. x.out) g)

  put_walk : (bs : List ℕ) {h : Here} → spell ss src 0 ≡ found bs → length bs ≤ length old → h ≡ run ss src (here (putting 0) old) → (walk_answer h.walk ≡ found (length bs)) × (h.out ≡ bs ++ drop (length bs + 0) old)
  unfolding walk_answer
  put_walk bs {h} p room e =
      let q = run_puts ss src 0 old bs p (omega arith) in
      let place : q.place ≡ length bs = omega (arith, q.puts.behind) in
      let there : 0 + length bs ≡ length bs + 0 = omega arith in
      (ap (λ x. walk_answer x.walk) e ∙ ap walk_answer q.put ∙ ap found place, ap (λ x. x.out) e ∙ q.puts.holds ∙ ap (λ n. bs ++ drop n old) there)

  second : (a : Ans (List ℕ)) {h : Here} → spell ss src 0 ≡ a → h ≡ run ss src (here (ready_walk (size_of a) (length old)) old)
      → (walk_answer h.walk ≡ written 0 a old) × (h.out ≡ filled 0 a old)
  unfolding ready_walk
  second (found bs) {h} p e = by (leb (length bs) (length old)) refl
    where
      all : length old - 0 ≡ length old
      all = omega arith

      by : (b : Bool) → leb (length bs) (length old) ≡ b → (walk_answer h.walk ≡ written 0 (found bs) old) × (h.out ≡ filled 0 (found bs) old)
      by true t = rw (ap (λ n. leb (length bs) n) all ∙ t) (put_walk bs p (leb-true (length bs) (length old) t) (rw t at e))
      by false t = rw (ap (λ n. leb (length bs) n) all ∙ t) (refused_walk (no_room 0 (length bs)) (rw t at e))
  second (refused f) p e = refused_walk f e

-- what was judged from the front on is answered as its size
judged_size : (a : Ans (List ℕ)) → walk_answer (judged (after 0 a)) ≡ size_of a
unfolding walk_answer
judged_size (found bs) = ap found (zero-add (length bs))
judged_size (refused f) = refusing_answer f

pub measured : (k : ℕ) (l : Layout) (ps ls : List Part) (src old mid : List ℕ) (u w : Walk) (r : Result ℕ Refusal) → u ≡ judging 0 → Walks k l ps ls src (here u old) (here w mid)
    → measure_answer r ≡ walk_answer w → leb k 24 ≡ true → Measures l ps src r
measured k l ps ls src old mid u w r begin p told few =
    let small = leb-true k 24 few in
    let judges = p.goes.same ∙ ap (λ x. run p.steps src (here x old)) begin ∙ run_judges p.steps src 0 old (omega (arith, p.short)) ∙ ap (λ a. here (judged (after 0 a)) old) (sym (p.plans.lays src 0)) in
    record { answer = told ∙ ap (λ h. walk_answer h.walk) judges ∙ judged_size (lay l ps src 0); shaped = p.plans.shaped }

pub marshalled : (k : ℕ) (l : Layout) (ps ls : List Part) (src old last : List ℕ) (v z : Walk) (m r : Result ℕ Refusal) → Measures l ps src m
    → v ≡ ready_walk (measure_answer m) (length old) → Walks k l ps ls src (here v old) (here z last) → measure_answer r ≡ walk_answer z → Writes l ps src old r last
marshalled k l ps ls src old last v z m r measure ready p told =
    let begun : v ≡ ready_walk (size_of (lay l ps src 0)) (length old) = ready ∙ ap (λ a. ready_walk a (length old)) measure.answer in
    let (said, left) = second p.steps src old (lay l ps src 0) (sym (p.plans.lays src 0)) (p.goes.same ∙ ap (λ x. run p.steps src (here x old)) begun) in
    record { answer = told ∙ said; buffer = left; shaped = p.plans.shaped }
