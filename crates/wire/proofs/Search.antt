-- Laws for `search`: what a callee answered, once it is known which answer it was, in its place in the layout that is read. A law's
-- premises are what is known where a function returns: first which answer it was, then what the callee ensures. Assumes nothing.
use Prim.Native.Nat.{ℕ}
use Rattle.std.specs.Prelude.{Option, Some, None, Result, Ok, Err, IsErr, IsErrAnd}
use mathlib.Core.Path.{◌≡◌, refl, sym, ap, subst, ◌∙◌}
use mathlib.Core.Bool.{Bool, false}
use mathlib.Core.List.{List, [], ◌∷◌, ◌++◌}
use Rattle.faults.specs.declared.Refusal.{Refusal}
use Rattle.faults.specs.Faults.{no_such_arm}
use Rattle.wire.specs.Answers.{answer, measure_answer}
use Rattle.wire.specs.Layout.{Rule, Layout, stop, arm, number, buffer, one, ◌then◌}
use Rattle.wire.specs.Records.{Part, num, tag, span, Ans, found, Parsed, refused, parsed, next}
use Rattle.wire.specs.Reading.{also, field, read}
use Rattle.wire.specs.Unions.{union, is_arm, held}
use Rattle.wire.proofs.Then.{both, behind, behind_none, behind_also, read_then}
pub use borrow.Author.Rules.{rules}

-- ---- what a callee answered

-- f of the answer is x, and the answer was b
pub known : {A B : Type 0} (f : A → B) {a b : A} {z x : B} → a ≡ b → f a ≡ x → z ≡ f b → z ≡ x
known f q p s = s ∙ sym (ap f q) ∙ p

-- the answer was b, and it is c
pub via : {A : Type 0} {a b c : A} → a ≡ b → a ≡ c → b ≡ c
via p q = sym p ∙ q

-- ---- what is shown

-- z is the answer x. It is a relation of its own, so that a law of reading is not tried where a fact is looked for
pub data Shows : Ans Parsed → Ans Parsed → Type 0 where
  same : {x : Ans Parsed} → Shows x x

pub shown : {z x : Ans Parsed} → Shows z x → z ≡ x
shown same = refl

-- the exit of a `?` returns the refusal that came
left_by : {A : Type 0} (r : Result A Refusal) (f : Refusal) → IsErr r × IsErrAnd r (λ e. e ≡ f) → r ≡ Err f
left_by (Ok x) f (p, q) = absurd q
left_by (Err e) f (p, q) = ap Err q

-- so what holds of that refusal holds of what is returned
pub leaves_as : {A : Type 0} (P : Result A Refusal → Type 0) (r : Result A Refusal) (f : Refusal) → IsErr r × IsErrAnd r (λ e. e ≡ f) → P (Err f) → P r
leaves_as P r f p q = subst P (sym (left_by r f p)) q

pub leaves : {A : Type 0} (parts : A → List Part) (r : Result (A × ℕ) Refusal) (f : Refusal) {x : Ans Parsed} → IsErr r × IsErrAnd r (λ e. e ≡ f) → refused f ≡ x → answer parts r ≡ x
leaves parts r f {x} p q = leaves_as (λ r. answer parts r ≡ x) r f p q

pub leaves_measure : (r : Result ℕ Refusal) (f : Refusal) {x : Ans ℕ} → IsErr r × IsErrAnd r (λ e. e ≡ f) → refused f ≡ x → measure_answer r ≡ x
leaves_measure r f {x} p q = leaves_as (λ r. measure_answer r ≡ x) r f p q

-- a record that was found, and a refusal: the form of the answer is computed once, before the search
pub finds : {ps : List Part} {e : ℕ} {x : Ans Parsed} → Shows (parsed ps e) x → parsed ps e ≡ x
finds p = shown p

pub refuses : {f : Refusal} {x : Ans Parsed} → Shows (refused f) x → refused f ≡ x
refuses p = shown p

showing : {z x : Ans Parsed} → z ≡ x → Shows z x
showing {z} p = subst (λ x. Shows z x) p same

-- ---- one field, or one record, of a layout; z is the answer that is to be shown

-- a number's answer, and with the number what is read behind it
abbrev within : List Part → (ℕ → Ans Parsed) → Ans Parsed
within [] k = k 0
within (num n ∷ ps) k = also (num n) (k n)
within (tag n ∷ ps) k = k 0
within (span s n ∷ ps) k = k 0

abbrev pub onward : Ans Parsed → (ℕ → ℕ → Ans Parsed) → Ans Parsed
onward (refused f) k = refused f
onward (found r) k = within r.parts (λ n. k n r.stops)

onward_field : (k : ℕ → Layout) (src : List ℕ) (e : ℕ) (a : Ans ℕ) → onward (next a (λ n. also (num n) (parsed [] e))) (λ n x. read (k n) src x) ≡ next a (λ n. also (num n) (read (k n) src e))
onward_field k src e (found n) = refl
onward_field k src e (refused f) = refl

-- an answer's parts one by one, and behind them what is read from where it ends
abbrev heads : List Part → Ans Parsed → Ans Parsed
heads [] a = a
heads (p ∷ ps) a = also p (heads ps a)

abbrev pub ahead : Ans Parsed → (ℕ → Ans Parsed) → Ans Parsed
ahead (refused f) k = refused f
ahead (found r) k = heads r.parts (k r.stops)

heads_behind : (ps : List Part) (a : Ans Parsed) → heads ps a ≡ behind ps a
heads_behind [] a = behind_none a
heads_behind (p ∷ ps) a = ap (λ a. also p a) (heads_behind ps a) ∙ behind_also p ps a

ahead_both : (a : Ans Parsed) (k : ℕ → Ans Parsed) → ahead a k ≡ both a k
ahead_both (found r) k = heads_behind r.parts (k r.stops)
ahead_both (refused f) k = refl

-- x is what was answered of the field in front, as its reader ensures it
module _ {x z : Ans Parsed} (src : List ℕ) (at : ℕ) where
  pub by_number : (w : ℕ) (r : Rule) (k : ℕ → Layout) → x ≡ read (one w r) src at → Shows z (onward x (λ n e. read (k n) src e)) → Shows z (read (number w r k) src at)
  unfolding read
  by_number w r k p s = showing (shown s ∙ ap (λ x. onward x (λ n e. read (k n) src e)) p ∙ onward_field k src _ (field w r src at))

  pub by_then : (l m : Layout) → x ≡ read l src at → Shows z (both x (λ e. read m src e)) → Shows z (read (l then m) src at)
  by_then l m p s = showing (shown s ∙ ap (λ x. both x (λ e. read m src e)) p ∙ sym (read_then l m src at))

  pub by_buffer : (w m : ℕ) (l : Layout) → x ≡ read (buffer w m stop) src at → Shows z (ahead x (λ e. read l src e)) → Shows z (read (buffer w m l) src at)
  unfolding ◌then◌
  by_buffer w m l p s = by_then (buffer w m stop) l p (showing (shown s ∙ ahead_both x (λ e. read l src e)))

  pub by_whole : (l : Layout) → x ≡ read l src at → Shows z x → Shows z (read l src at)
  by_whole l p s = showing (shown s ∙ p)

-- ---- what stands in front

-- an answer, with something in front of its parts
along : (f : Ans Parsed → Ans Parsed) {z a : Ans Parsed} → Shows z a → Shows (f z) (f a)
along f same = same

pub front_no : (p : Part) {f : Refusal} {a : Ans Parsed} → Shows (refused f) a → Shows (refused f) (also p a)
front_no p e = along (λ a. also p a) e

pub front : (p : Part) {ps : List Part} {e : ℕ} {a : Ans Parsed} → Shows (parsed ps e) a → Shows (parsed (p ∷ ps) e) (also p a)
front p e = along (λ a. also p a) e

pub front_same : (p : Part) {a b : Ans Parsed} → Shows a b → Shows (also p a) (also p b)
front_same p e = along (λ a. also p a) e

pub fronts_no : (ps : List Part) {f : Refusal} {a : Ans Parsed} → Shows (refused f) a → Shows (refused f) (behind ps a)
fronts_no ps e = along (λ a. behind ps a) e

pub fronts : (ps : List Part) {qs : List Part} {e : ℕ} {a : Ans Parsed} → Shows (parsed qs e) a → Shows (parsed (ps ++ qs) e) (behind ps a)
fronts ps e = along (λ a. behind ps a) e

-- ---- the arms of a union

pub at_arm : (v t : ℕ) (l : Layout) {z : Ans Parsed} (src : List ℕ) (at : ℕ) → Shows z (also (tag t) (read l src at)) → Shows z (read (arm v t l) src at)
unfolding read
at_arm v t l src at p = p

pub at_stop : (src : List ℕ) (at : ℕ) → Shows (parsed [] at) (read stop src at)
unfolding read
at_stop src at = same

-- the selector has the value x
pub in_arm : (by : ℕ → Layout) {v x : ℕ} {z : Ans Parsed} (src : List ℕ) (at : ℕ) → v ≡ x → Shows z (read (by x) src at) → Shows z (read (by v) src at)
in_arm by src at q p = rw q p

-- a callee says which arm the selector v chooses
module _ (arm : ℕ → Option ℕ) (body : ℕ → Layout) where
  -- it is t, which is u
  pub chosen : (u : ℕ) {a : Option ℕ} {t : ℕ} {z : Ans Parsed} (v : ℕ) (src : List ℕ) (at : ℕ)
      → a ≡ Some t → a ≡ arm v → t ≡ u → Shows z (also (tag u) (read (body u) src at)) → Shows z (read (union (arm v) body v) src at)
  unfolding read
  chosen u v src at q p e s = rw (← p, q, e) s

  -- it answers b, by which f chooses
  pub chosen_by : {A : Type 0} (f : A → Option ℕ) {a b : A} {z : Ans Parsed} (v : ℕ) (src : List ℕ) (at : ℕ)
      → a ≡ b → f a ≡ arm v → Shows z (read (union (f b) body v) src at) → Shows z (read (union (arm v) body v) src at)
  chosen_by f v src at q p s = rw (← p, q) s

  -- there is none, and the refusal says so
  pub no_arm_due : {f : Refusal} {w : ℕ} (v : ℕ) (src : List ℕ) (at : ℕ)
      → f ≡ no_such_arm at w → w ≡ v → None ≡ arm v → refused f ≡ read (union (arm v) body v) src at
  unfolding read
  no_arm_due v src at p q e = rw (p, q, ← e)

-- the payload s is the arm s', and c is the choice d
pub is_arm_lem : {S : Type 0} (parts : S → List Part) {s s' : S} {c d : Option ℕ} {r : Bool} → s ≡ s' → c ≡ d → r ≡ is_arm c (held (parts s')) → r ≡ is_arm d (held (parts s))
is_arm_lem parts q p h = rw (q, ← p) h

-- the callee answers b, by which f chooses
pub is_arm_by : {A S : Type 0} (f : A → Option ℕ) (parts : S → List Part) {s s' : S} {a b : A} {d : Option ℕ} {r : Bool}
    → s ≡ s' → a ≡ b → f a ≡ d → r ≡ is_arm (f b) (held (parts s')) → r ≡ is_arm d (held (parts s))
is_arm_by f parts e q p h = is_arm_lem parts e (sym (ap f q) ∙ p) h

pub is_none_by : {A : Type 0} (f : A → Option ℕ) {a b : A} {d : Option ℕ} (t : ℕ) → a ≡ b → f a ≡ d → None ≡ f b → false ≡ is_arm d t
is_none_by f t q p h = rw (← p, q, ← h)

pub ruleset rests = (same, front_no, front, front_same, fronts_no, fronts, at_arm, at_stop)

-- field by field; what was answered of each is listed beside it
pub ruleset reading = (by_number, by_buffer, by_then, by_whole, same, front_no, front, front_same, fronts_no, fronts, at_arm, at_stop)
