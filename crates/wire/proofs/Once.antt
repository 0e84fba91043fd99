-- The parts of a record determine it, and what an answer means determines the answer. Assumes nothing.
-- A structure is added by `fields`: its fields as pairs, the literal that makes it of them, and `both` of what is shown of two fields.
-- A union is added by `union`: a row for each arm, what it `holds` or that it is `bare`, and a case for each arm that cites the `back` of what it holds; its answers by `answers`.
use Prim.Native.Nat.{ℕ}
use mathlib.Core.Path.{◌≡◌, refl, sym, ap, ◌∙◌}
use mathlib.Core.Bool.{true, false}
use mathlib.Core.List.{List, [], ◌∷◌, ◌++◌, append-nil, append_assoc}
use mathlib.Core.Option.{Option, none, some}
use lib.Dec.{eqb}
use Rattle.faults.specs.declared.Refusal.{Refusal}
use Rattle.wire.specs.declared.span.Span.{Span}
use Rattle.wire.specs.Answers.{span_part}
use Rattle.wire.specs.Records.{Part, num, tag, span, Ans, found, refused, Parsed, parsed}

-- f takes no two values to one
abbrev pub Injective : {A B : Type 0} → (A → B) → Type 0
Injective {A} f = (x y : A) → f x ≡ f y → x ≡ y

pub undone : {A B : Type 0} (f : A → B) (g : B → Option A) → ((x : A) → g (f x) ≡ some x) → Injective f
undone f g back x y p = let same : some x ≡ some y = sym (back x) ∙ ap g p ∙ back y in cc

-- a value that was taken off the front of some parts, and the parts behind it
abbrev pub Taken : Type 0 → Type 0
Taken A = Option (A × List Part)

-- every value can be taken back off the front of its parts, whatever stands behind them
pub record Once {A : Type 0} (parts : A → List Part) : Type 0 where
  pub take : List Part → Taken A
  pub back : (x : A) (qs : List Part) → take (parts x ++ qs) ≡ some (x, qs)

-- so they determine it, and what stands behind them
pub determined : {A : Type 0} {parts : A → List Part} → Once parts → (x y : A) (qs rs : List Part) → parts x ++ qs ≡ parts y ++ rs → (x ≡ y) × (qs ≡ rs)
determined {A} {parts} o x y qs rs p =
    let same = undone {A = A × List Part} (λ z. parts z.0 ++ z.1) o.take (λ z. o.back z.0 z.1) (x, qs) (y, rs) p in
    (ap (λ z. z.0) same, ap (λ z. z.1) same)

-- ---- one part

take_number : List Part → Taken ℕ
take_number [] = none
take_number (num n ∷ ps) = some (n, ps)
take_number (tag t ∷ ps) = none
take_number (span start len ∷ ps) = none

pub number_once : Once (λ n. num n ∷ [])
unfolding take_number
number_once = record { take = take_number; back = λ n qs. refl }

take_span : List Part → Taken Span
take_span [] = none
take_span (num n ∷ ps) = none
take_span (tag t ∷ ps) = none
take_span (span start len ∷ ps) = some (record { start = start; len = len }, ps)

pub span_once : Once (λ s. span_part s ∷ [])
unfolding take_span
span_once = record { take = take_span; back = λ s qs. refl }

-- ---- structures

abbrev change : {A B : Type 0} → (A → B) → Taken A → Taken B
change f none = none
change f (some z) = some (f z.0, z.1)

abbrev behind : {A B : Type 0} → Taken A → (List Part → Taken B) → Taken (A × B)
behind none k = none
behind (some z) k = change (λ b. (z.0, b)) (k z.1)

-- the parts of one value, and behind them those of another
pub both : {A B : Type 0} {f : A → List Part} {g : B → List Part} → Once f → Once g → Once (λ (z : A × B). f z.0 ++ g z.1)
both {f} {g} a b = record {
  take = λ ps. behind (a.take ps) b.take;
  back = λ z qs. rw (append_assoc (f z.0) (g z.1) qs, a.back z.0 (g z.1 ++ qs), b.back z.1 qs);
}

-- the parts of a structure, which `to` takes apart and `of` makes again
pub fields : {A B : Type 0} {f : A → List Part} (to : B → A) (of : A → B) → ((x : B) → of (to x) ≡ x) → Once f → Once (λ x. f (to x))
fields to of same o = record { take = λ ps. change of (o.take ps); back = λ x qs. rw (o.back (to x) qs, same x) }

-- ---- unions

-- an arm's number, and how what it holds is taken
pub record Arm (A : Type 0) : Type 0 where
  pub number : ℕ
  pub take : List Part → Taken A

abbrev pub holds : {A B : Type 0} {f : A → List Part} → ℕ → (A → B) → Once f → Arm B
holds t make o = record { number = t; take = λ ps. change make (o.take ps) }

abbrev pub bare : {A : Type 0} → ℕ → A → Arm A
bare t x = record { number = t; take = λ ps. some (x, ps) }

abbrev among : {A : Type 0} → List (Arm A) → ℕ → List Part → Taken A
among [] t ps = none
among (a ∷ rest) t ps = elim (eqb t a.number) [ true ↦ a.take ps | false ↦ among rest t ps ]

-- what the arm in front decides
abbrev pub tagged : {A : Type 0} → (ℕ → List Part → Taken A) → List Part → Taken A
tagged k [] = none
tagged k (num n ∷ ps) = none
tagged k (tag t ∷ ps) = k t ps
tagged k (span start len ∷ ps) = none

pub union : {A : Type 0} {parts : A → List Part} (arms : List (Arm A)) → ((x : A) (qs : List Part) → tagged (among arms) (parts x ++ qs) ≡ some (x, qs)) → Once parts
union arms back = record { take = tagged (among arms); back = back }

-- ---- answers

abbrev yielded : {A R : Type 0} → (A → ℕ → R) → ℕ → Taken A → Option R
yielded yields e none = none
yielded yields e (some z) = some (yields z.0 e)

-- the answer that has a meaning
abbrev answer : {A R : Type 0} → (List Part → Taken A) → (A → ℕ → R) → (Refusal → R) → Ans Parsed → Option R
answer take yields refuses (found r) = yielded yields r.stops (take r.parts)
answer take yields refuses (refused f) = some (refuses f)

module _ {A R : Type 0} {parts : A → List Part} (o : Once parts) (yields : A → ℕ → R) (refuses : Refusal → R) where
  -- the meaning m leads back to the answer r
  abbrev Back : Ans Parsed → R → Type 0
  Back m r = answer o.take yields refuses m ≡ some r

  -- no two answers mean the same, if every one leads back; that a record which was found does is handed to the cases
  pub answers : (means : R → Ans Parsed) → (((x : A) (e : ℕ) → Back (parsed (parts x) e) (yields x e)) → (r : R) → Back (means r) r) → Injective means
  answers means back = undone means (answer o.take yields refuses) (back leads)
    where
      leads : (x : A) (e : ℕ) → Back (parsed (parts x) e) (yields x e)
      leads x e = ap (yielded yields e) (ap o.take (sym (append-nil (parts x))) ∙ o.back x [])
