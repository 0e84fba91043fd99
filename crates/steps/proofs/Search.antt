-- The laws of walks in the form in which a search finds what they need among a function's facts: what a field's walk ensures comes first,
-- and how many steps are left is counted down from the record's. Assumes nothing.
use Prim.Native.Nat.{ℕ, zero, suc, ◌+◌, ◌-◌}
use native.Mathlib.Omega.{arith}
use mathlib.Core.Path.{◌≡◌, refl, ap, subst, ◌∙◌}
use mathlib.Core.Bool.{Bool, true}
use mathlib.Core.List.{List, [], ◌∷◌, ◌++◌, append-nil}
use lib.Dec.{leb, ltb}
use borrow.Author.Tests.{le-leb, leb-true}
use Rattle.std.specs.Prelude.{Option}
use Rattle.wire.specs.declared.span.Span.{Span}
use Rattle.wire.specs.declared.width.Width.{Width}
use Rattle.wire.specs.Answers.{width_of, span_part}
use Rattle.wire.specs.Layout.{Rule, Layout, stop, number, buffer, counted, ◌then◌}
use Rattle.wire.specs.Records.{Part, num, tag}
use Rattle.wire.specs.Parts.{on_arm}
use Rattle.wire.specs.Unions.{held, union, is_arm}
use Rattle.format.specs.declared.list.ListOf.{ListOf}
use Rattle.format.specs.Kinds.{item_layout, most_items}
use Rattle.steps.specs.declared.walk.Walk.{Walk}
use Rattle.steps.specs.Steps.{Buffer, Items}
use Rattle.steps.specs.Walks.{Here, here, Goes, Walks, Numbers, Dues}
use Rattle.steps.proofs.Walked.{walks_none, walks_more, walks_number, walks_then, walks_buffer, walks_list, holds}
pub use borrow.Author.Rules.{rules}

-- one step, and those that are left
one_more : (k : ℕ) → leb 1 k ≡ true → leb (suc (k - 1)) k ≡ true
one_more k fits = let room = leb-true 1 k fits in le-leb (suc (k - 1)) k (omega arith)

-- ---- fields

module _ (src : List ℕ) (k : ℕ) (ps ls : List Part) (a b z : Here) where
  pub by_number : (w : Width) (m : ℕ) (rule : Rule) (n : ℕ) (l : ℕ → Layout) → Numbers w rule n a b → m ≡ width_of w → leb 1 k ≡ true → Walks (k - 1) (l n) ps ls src b z → Walks k (number m rule l) (num n ∷ ps) ls src a z
  by_number w m rule n l p e fits q = rw e (walks_number src w rule n l p q (one_more k fits))

  pub by_buffer : (m : ℕ) (s : Span) (l : Layout) → Goes (Buffer m s ∷ []) src a b → ltb m 65536 ≡ true → leb 1 k ≡ true → Walks (k - 1) l ps ls src b z → Walks k (buffer 2 m l) (span_part s ∷ ps) ls src a z
  by_buffer m s l p h fits q = walks_buffer src m s h p q (one_more k fits)

  pub by_list : (i : ListOf) (s : Span) (m : ℕ) (h l : Layout) → Goes (Items i s ∷ []) src a b → m ≡ most_items i → h ≡ item_layout i → leb 1 k ≡ true → Walks (k - 1) l ps ls src b z → Walks k (counted m h l) (span_part s ∷ ps) (span_part s ∷ ls) src a z
  by_list i s m h l p e f fits q = rw (e, f) (walks_list src i s p q (one_more k fits))

pub by_stop : (src : List ℕ) (j : ℕ) (a : Here) → Walks j stop [] [] src a a
by_stop src j a = walks_more src (walks_none src a) (le-leb zero j (omega arith))

-- ---- records

pub by_more : (src : List ℕ) (i j : ℕ) (l : Layout) (ps ls : List Part) (a b : Here) → Walks i l ps ls src a b → leb i j ≡ true → Walks j l ps ls src a b
by_more src i j l ps ls a b p fits = walks_more src p fits

-- one record behind another, the first without a list
pub by_then : (src : List ℕ) (i k : ℕ) (l m : Layout) (ps qs ls : List Part) (a b z : Here) → Walks i l ps [] src a b → leb i k ≡ true → Walks (k - i) m qs ls src b z → Walks k (l then m) (ps ++ qs) ls src a z
by_then src i k l m ps qs ls a b z p fits q = let room = leb-true i k fits in walks_then src p q (le-leb (i + (k - i)) k (omega arith))

-- the second without one
pub by_then_no_list : (src : List ℕ) (i k : ℕ) (l m : Layout) (ps qs ls : List Part) (a b z : Here) → Walks i l ps ls src a b → leb i k ≡ true → Walks (k - i) m qs [] src b z → Walks k (l then m) (ps ++ qs) ls src a z
by_then_no_list src i k l m ps qs ls a b z p fits q =
    let room = leb-true i k fits in
    subst (λ ms. Walks k (l then m) (ps ++ qs) ms src a z) (append-nil ls) (walks_then src p q (le-leb (i + (k - i)) k (omega arith)))

pub ruleset walking = (by_number, by_buffer, by_list, by_stop, by_more, by_then, by_then_no_list)

-- ---- unions: x is the union, y what it was found to be

-- the parts behind the arm
abbrev pub behind_arm : List Part → List Part
behind_arm ps = on_arm [] ps (λ t qs. qs)

pub by_arm : {X : Type 0} (parts : X → List Part) (arms : ℕ → Option ℕ) (body : ℕ → Layout) (v : ℕ) (x y : X) (c : Option ℕ) (b : Bool) (src out : List ℕ) (a m : Walk) (k : ℕ) (ls : List Part) (z : Here)
    → x ≡ y → c ≡ arms v → b ≡ is_arm (arms v) (held (parts x)) → Dues v c b a m → parts y ≡ tag (held (parts y)) ∷ behind_arm (parts y) → leb 1 k ≡ true → Walks (k - 1) (body (held (parts y))) (behind_arm (parts y)) ls src (here m out) z
    → Walks k (union (arms v) body v) (parts x) ls src (here a out) z
by_arm parts arms body v x y c b src out a m k ls z e same told goes is fits p = holds src v same told goes body (ap parts e ∙ is) refl p (one_more k fits)

-- and where the union's lists are by the arm that it holds
pub by_arm_lists : {X : Type 0} (parts lists : X → List Part) (arms : ℕ → Option ℕ) (body : ℕ → Layout) (v : ℕ) (x y : X) (c : Option ℕ) (b : Bool) (src out : List ℕ) (a m : Walk) (k : ℕ) (z : Here)
    → x ≡ y → c ≡ arms v → b ≡ is_arm (arms v) (held (parts x)) → Dues v c b a m → parts y ≡ tag (held (parts y)) ∷ behind_arm (parts y) → leb 1 k ≡ true → Walks (k - 1) (body (held (parts y))) (behind_arm (parts y)) (lists y) src (here m out) z
    → Walks k (union (arms v) body v) (parts x) (lists x) src (here a out) z
by_arm_lists parts lists arms body v x y c b src out a m k z e same told goes is fits p =
    rw (ap lists e) (by_arm parts arms body v x y c b src out a m k (lists y) z e same told goes is fits p)
