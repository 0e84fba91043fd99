-- A record of a later edition whose codes and arms are all ours is a record of ours, and is read; any other is refused at its first code
-- or arm that is not. Assumes nothing.
use Prim.Native.Nat.{ℕ, ◌+◌, ◌≤◌, ◌<◌}
use native.Mathlib.Omega.{arith}
use mathlib.Core.Path.{◌≡◌, refl, sym, ap, ◌∙◌}
use mathlib.Core.Logic.{◌⊎◌, inl, inr}
use mathlib.Core.Bool.{Bool, true, false}
use mathlib.Core.List.{List, [], ◌∷◌, ◌++◌, append-nil}
use lib.ListN.{length, drop, length-append, length-drop}
use borrow.Author.Tests.{le-leb, lt-leb}
use Rattle.faults.specs.declared.Refusal.{Refusal}
use Rattle.faults.specs.declared.Fault.TheVariants.{Short}
use Rattle.faults.specs.Faults.{short, unknown_code, no_such_arm, trailing}
use Rattle.wire.specs.Bytes.{Bytes, digits}
use Rattle.wire.specs.Layout.{Layout, number, count_to, allows}
use Rattle.wire.specs.Records.{refused, parsed, left}
use Rattle.wire.specs.Reading.{read, read_whole, IsShort}
use Rattle.wire.specs.Grammar.{Token, Spells, Items, ends, holds, says, shows, sizes, counts, none, more, placed, Stands}
use Rattle.wire.specs.Refusals.{Field, not_allowed, Refuses, RefusesItems, no_arm_due, no_number, in_list, past_arm, past_number, past_bytes, past_buffer, past_list, in_item, past_item}
use Rattle.wire.specs.Editions.{Later, stop_same, arm_new, arm_same, number_later, plain_same, buffer_same, counted_same, EachItem, Ours, Newer, NewerIn, new_code, new_arm, Foreign}
use Rattle.wire.proofs.Digits.{length_digits}
use Rattle.wire.proofs.Stand.{stands_start, stands_front, stands_back}
use Rattle.wire.proofs.Steps.{found_refused}
use Rattle.wire.proofs.Rules.{adds_code}
use Rattle.wire.proofs.Complete.{read_complete}
use Rattle.wire.proofs.Refused.{refuses_read}
use Rattle.wire.proofs.Whole.{read_is_whole, read_is_trailing, refused_is_refused_whole}
use Rattle.wire.proofs.Stable.{Stays, read_stable, cut_stands, cut_short}

-- ---- what is all ours

-- the record d of a later edition is one of l too, with the same parts
abbrev pub Kept : {l' : Layout} {ts : List Token} {bs : List ℕ} (l : Layout) → Spells l' ts bs → Type 0
Kept {ts = ts} {bs = bs} l d = (c : Spells l ts bs) × ((at : ℕ) → placed c at ≡ placed d at)

items_kept : {i i' : Layout} {n : ℕ} {bs : List ℕ} (P : (ts : List Token) (xs : List ℕ) → Spells i' ts xs → Type 0)
    → ((ts : List Token) (xs : List ℕ) (d : Spells i' ts xs) → P ts xs d → Spells i ts xs) → (is : Items i' n bs) → EachItem P is → Items i n bs
items_kept P one none o = none
items_kept P one (more {ts = ts} {xs = xs} e d ds) o = more e (one ts xs d o.0) (items_kept P one ds o.1)

-- a record that is all ours is a record of ours
pub ours_kept : {l l' : Layout} {ts : List Token} {bs : List ℕ} (x : Later l l') (d : Spells l' ts bs) → Ours x d → Kept l d
ours_kept stop_same ends o = (ends, λ a. refl)
ours_kept arm_new d o = absurd o
ours_kept (arm_same x) (holds d) o = let c = ours_kept x d o in (holds c.0, λ a. rw (c.1 a))
ours_kept (number_later {w} rule x) (says n h a e d) o = let c = ours_kept (x n o.0) d o.1 in (says n h o.0 e c.0, λ a. rw (c.1 (a + w)))
ours_kept (plain_same {n} x) (shows xs h b e d) o = let c = ours_kept x d o in (shows xs h b e c.0, λ a. rw (c.1 (a + n)))
ours_kept (buffer_same {w} x) (sizes xs h le b e d) o = let c = ours_kept x d o in (sizes xs h le b e c.0, λ a. rw (c.1 (a + w + length xs)))
ours_kept (counted_same y x) (counts {xs = xs} n h le c is e d) o =
    let k = ours_kept x d o.1 in
    (counts n h le c (items_kept (λ ts xs d. Ours y d) (λ ts xs d p. (ours_kept y d p).0) is o.0) e k.0, λ a. rw (k.1 (a + length xs)))

-- if its codes and arms are all ours it is read, with its fields, and ends where it ends, whatever stands behind
pub ours_is_read : {l l' : Layout} {ts : List Token} {bs src : List ℕ} {at : ℕ} (x : Later l l') (d : Spells l' ts bs) → Stands src at bs → Ours x d
    → read l src at ≡ parsed (placed d at) (at + length bs)
ours_is_read {bs = bs} {at = at} x d s o = let c = ours_kept x d o in read_complete c.0 s ∙ ap (λ ps. parsed ps (at + length bs)) (c.1 at)

-- ---- what is not

-- a refusal as R has it, of a code or an arm that is new, in a record from `at` to e
abbrev Strange : (Refusal → Type 0) → (at e : ℕ) → Type 0
Strange R at e = (f : Refusal) × NewerIn at e f × R f

-- such a refusal in a part of a record is one in the record
widened : {at at' e e' : ℕ} {f : Refusal} → at ≤ at' → e' ≤ e → NewerIn at' e' f → NewerIn at e f
widened b t (new_code p h k) = new_code p (omega arith) (omega arith)
widened b t (new_arm p h k) = new_arm p (omega arith) (omega arith)

-- behind a field that is ours
past : {A B : Type 0} {R S : Refusal → Type 0} {at at' e e' : ℕ} → at ≤ at' → e' ≤ e → (A → B) → ((f : Refusal) → R f → S f) → A ⊎ Strange R at' e' → B ⊎ Strange S at e
past b t o g (inl a) = inl (o a)
past b t o g (inr (f, newer, r)) = inr (f, widened b t newer, g f r)

-- of two parts, one behind the other, the first that is not ours
both : {A B : Type 0} {R S T : Refusal → Type 0} {at at₁ at₂ e e₁ e₂ : ℕ} → at ≤ at₁ → e₁ ≤ e → at ≤ at₂ → e₂ ≤ e → ((f : Refusal) → R f → T f) → (A → (f : Refusal) → S f → T f)
    → A ⊎ Strange R at₁ e₁ → B ⊎ Strange S at₂ e₂ → (A × B) ⊎ Strange T at e
both b₁ t₁ b₂ t₂ first second (inl o) v = past b₂ t₂ (λ os. (o, os)) (second o) v
both b₁ t₁ b₂ t₂ first second (inr (f, newer, r)) v = inr (f, widened b₁ t₁ newer, first f r)

-- where a list of a later edition stands: its items are all ours, or the first that is not is refused
items_or_strange : {i i' : Layout} {n : ℕ} {bs src : List ℕ} {at : ℕ} (P : (ts : List Token) (xs : List ℕ) → Spells i' ts xs → Type 0)
    → ((ts : List Token) (xs : List ℕ) (d : Spells i' ts xs) (at : ℕ) → Stands src at xs → P ts xs d ⊎ Strange (λ f. Refuses src i at f) at (at + length xs))
    → ((ts : List Token) (xs : List ℕ) (d : Spells i' ts xs) → P ts xs d → Spells i ts xs)
    → (is : Items i' n bs) → Stands src at bs → EachItem P is ⊎ Strange (λ f. RefusesItems src i n at f) at (at + length bs)
items_or_strange P one kept none s = inl tt
items_or_strange {at = at} P one kept (more {ts = ts} {xs = xs} {ys = ys} e d ds) s =
    let t = stands_front xs ys s e in
    let size = ap length e ∙ length-append xs ys in
    both (omega arith) (omega arith) (omega arith) (omega arith) (λ f g. in_item g) (λ o f g. past_item t (kept ts xs d o) g)
    (one ts xs d at t) (items_or_strange P one kept ds (stands_back xs ys refl s e))

-- where a record of a later edition stands: it is all ours, or the first code or arm that is not is refused
ours_or_strange : {l l' : Layout} {ts : List Token} {bs src : List ℕ} {at : ℕ} (x : Later l l') (d : Spells l' ts bs) → Stands src at bs
    → Ours x d ⊎ Strange (λ f. Refuses src l at f) at (at + length bs)
ours_or_strange stop_same ends s = inl tt
ours_or_strange {at = at} (arm_new {v}) d s = inr (no_such_arm at v, new_arm refl (omega arith) (omega arith), no_arm_due refl)
ours_or_strange (arm_same x) (holds d) s = past (omega arith) (omega arith) (λ o. o) (λ f g. past_arm g) (ours_or_strange x d s)
ours_or_strange {bs = bs} {src} {at} (number_later {w} {r} {r'} {k} {k'} rule x) (says {cs = cs} n h a e d) s =
    go (allows r n) refl (λ q. ours_or_strange (x n q) d (stands_back (digits w n) cs (length_digits w n) s e))
  where
    front : Stands src at (digits w n)
    front = stands_front (digits w n) cs s e

    size : length bs ≡ w + length cs
    size = omega (arith, ap length e, length-append (digits w n) cs, length_digits w n)

    unlisted : allows r n ≡ false → Strange (λ f. Refuses src (number w r k) at f) at (at + length bs)
    unlisted q =
        let (code, wide) = adds_code rule at n q a in
        (unknown_code at n, new_code refl (omega arith) (omega (arith, size)), no_number (not_allowed n h q front (sym code)))

    go : (b : Bool) → allows r n ≡ b → ((q : allows r n ≡ true) → Ours (x n q) d ⊎ Strange (λ f. Refuses src (k n) (at + w) f) (at + w) (at + w + length cs))
        → ((q : allows r n ≡ true) × Ours (x n q) d) ⊎ Strange (λ f. Refuses src (number w r k) at f) at (at + length bs)
    go true q known = past (omega arith) (omega (arith, size)) (λ o. (q, o)) (λ f g. past_number n (record { fits = h; allowed = q; stands = front }) g) (known q)
    go false q known = inr (unlisted q)
ours_or_strange (plain_same x) (shows {cs = cs} xs h b e d) s =
    past (omega arith) (omega (arith, ap length e, length-append xs cs)) (λ o. o) (λ f g. past_bytes xs h (stands_front xs cs s e) g)
    (ours_or_strange x d (stands_back xs cs h s e))
ours_or_strange (buffer_same {w} {m} x) (sizes {cs = cs} xs h le b e d) s =
    let t = stands_back (digits w (length xs)) (xs ++ cs) (length_digits w (length xs)) s e in
    let size = ap length e ∙ length-append (digits w (length xs)) (xs ++ cs) in
    past (omega arith) (omega (arith, size, length_digits w (length xs), length-append xs cs)) (λ o. o)
    (λ f g. past_buffer xs (record { fits = h; allowed = le-leb (length xs) m le; stands = stands_front (digits w (length xs)) (xs ++ cs) s e }) (stands_front xs cs t refl) g)
    (ours_or_strange x d (stands_back xs cs refl t refl))
ours_or_strange {bs = bs} {src} {at} (counted_same {m} {i} {i'} {l} y x) (counts {xs = xs} {ys} {cs} n h le c is e d) s =
    let t = stands_front xs cs s e in
    let u = stands_back (digits 4 n) ys (length_digits 4 n) t c in
    let count : Field src 4 (count_to m) at n = record { fits = h; allowed = le-leb n m le; stands = stands_front (digits 4 n) ys t c } in
    let size : length bs ≡ length xs + length cs = ap length e ∙ length-append xs cs in
    let head : at + length xs ≡ at + 4 + length ys = omega (arith, ap length c, length-append (digits 4 n) ys, length_digits 4 n) in
    let kept = items_kept (λ ts xs d. Ours y d) (λ ts xs d p. (ours_kept y d p).0) is in
    both {A = EachItem (λ ts xs d. Ours y d) is} {B = Ours x d} (omega arith) (omega arith) (omega arith) (omega arith) (λ f g. in_list n count g) (λ os f g. past_list n count u (kept os) (rw head at g))
    (items_or_strange (λ ts xs d. Ours y d) (λ ts xs d at s. ours_or_strange y d s) (λ ts xs d p. (ours_kept y d p).0) is u)
    (ours_or_strange x d (stands_back xs cs refl s e))

-- any other is refused at the first code or arm that is not ours, which stands in the record
pub not_ours_is_refused : {l l' : Layout} {ts : List Token} {bs src : List ℕ} {at : ℕ} (x : Later l l') (d : Spells l' ts bs) → Stands src at bs → (Ours x d → ⊥)
    → (f : Refusal) × Foreign l src at (at + length bs) f × (read l src at ≡ refused f)
not_ours_is_refused {l} {bs = bs} {src} {at} x d s foreign = by (ours_or_strange x d s)
  where
    by : Ours x d ⊎ Strange (λ f. Refuses src l at f) at (at + length bs) → (f : Refusal) × Foreign l src at (at + length bs) f × (read l src at ≡ refused f)
    by (inl o) = absurd (foreign o)
    by (inr (f, newer, first)) = (f, record { newer = newer; first = first }, refuses_read first)

-- a record that our layout spells too is all ours
pub legal_is_ours : {l l' : Layout} {ts us : List Token} {bs : List ℕ} (x : Later l l') (d : Spells l' ts bs) → Spells l us bs → Ours x d
legal_is_ours {l} {bs = bs} x d c = by (ours_or_strange x d (stands_start bs []))
  where
    by : Ours x d ⊎ Strange (λ f. Refuses (bs ++ []) l 0 f) 0 (0 + length bs) → Ours x d
    by (inl o) = o
    by (inr (f, newer, first)) = absurd (found_refused (sym (refuses_read first) ∙ read_complete c (stands_start bs [])))

-- whether a record is all ours can be told
pub ours_or_not : {l l' : Layout} {ts : List Token} {bs : List ℕ} (x : Later l l') (d : Spells l' ts bs) → Ours x d ⊎ (Ours x d → ⊥)
ours_or_not {l} {bs = bs} x d = by (ours_or_strange x d (stands_start bs []))
  where
    by : Ours x d ⊎ Strange (λ f. Refuses (bs ++ []) l 0 f) 0 (0 + length bs) → Ours x d ⊎ (Ours x d → ⊥)
    by (inl o) = inl o
    by (inr (f, newer, first)) = inr (λ o. found_refused (sym (refuses_read first) ∙ ours_is_read x d (stands_start bs []) o))

-- ---- read whole

-- a record that is all ours, and all that stands there, is read whole
pub ours_is_read_whole : {l l' : Layout} {ts : List Token} {bs : List ℕ} (src : List ℕ) (at : ℕ) (x : Later l l') (d : Spells l' ts bs) → drop at src ≡ bs → Ours x d
    → read_whole l src at ≡ parsed (placed d at) (at + length bs)
ours_is_read_whole {l} {bs = bs} src at x d all o =
    let s : Stands src at bs = record { rest = []; begins = all ∙ sym (append-nil bs) } in
    read_is_whole l src at (ours_is_read x d s o) (omega (arith, ap length all, length-drop at src))

-- with bytes behind it, it is Trailing: where it ends, and how many are left
pub ours_with_a_tail_is_trailing : {l l' : Layout} {ts : List Token} {bs src : List ℕ} {at : ℕ} (x : Later l l') (d : Spells l' ts bs) → Stands src at bs → at + length bs < length src → Ours x d
    → read_whole l src at ≡ refused (trailing (at + length bs) (left src (at + length bs)))
ours_with_a_tail_is_trailing {l} {bs = bs} {src} {at} x d s behind o = read_is_trailing l src at (ours_is_read x d s o) (lt-leb (length src) (at + length bs) behind)

-- any other is refused whole as it is refused
pub not_ours_is_refused_whole : {l l' : Layout} {ts : List Token} {bs src : List ℕ} {at : ℕ} (x : Later l l') (d : Spells l' ts bs) → Stands src at bs → (Ours x d → ⊥)
    → (f : Refusal) × Foreign l src at (at + length bs) f × (read_whole l src at ≡ refused f)
not_ours_is_refused_whole {l} {src = src} {at} x d s foreign = let (f, g, p) = not_ours_is_refused x d s foreign in (f, g, refused_is_refused_whole l src at p)

-- ---- cut

-- a record that is all ours and is cut is Short: xs stands at the end of the input, and the record goes on
pub cut_ours_is_short : {l l' : Layout} {ts : List Token} (before xs : List ℕ) (y : ℕ) (ys : List ℕ) → Bytes before → (x : Later l l') (d : Spells l' ts (xs ++ (y ∷ ys))) → Ours x d
    → IsShort (before ++ xs) (read l (before ++ xs) (length before))
cut_ours_is_short before xs y ys b x d o = cut_short before xs y ys b (ours_kept x d o).0

-- any that is cut is refused: with Short, or at a code or arm that is not ours
pub later_cut : {l l' : Layout} {ts : List Token} (before xs : List ℕ) (y : ℕ) (ys : List ℕ) → Bytes before → Later l l' → Spells l' ts (xs ++ (y ∷ ys))
    → (f : Refusal) × (read l (before ++ xs) (length before) ≡ refused f) × ((f.fault ≡ Short) ⊎ Newer f)
later_cut {l} before xs y ys b x d = by (ours_or_not x d) (read_stable l cut (y ∷ ys) (length before))
  where
    cut : List ℕ
    cut = before ++ xs

    newer : {at e : ℕ} {f : Refusal} → NewerIn at e f → Newer f
    newer (new_code p h k) = inl p
    newer (new_arm p h k) = inr p

    by : Ours x d ⊎ (Ours x d → ⊥) → Stays cut (read l cut (length before)) (read l (cut ++ (y ∷ ys)) (length before))
        → (f : Refusal) × (read l cut (length before) ≡ refused f) × ((f.fault ≡ Short) ⊎ Newer f)
    by v (inl (place, needed, p)) = (short place needed (left cut place), p, inl refl)
    by (inl o) (inr e) = let (place, needed, p) = cut_ours_is_short before xs y ys b x d o in (short place needed (left cut place), p, inl refl)
    by (inr foreign) (inr e) = let (f, g, p) = not_ours_is_refused x d (cut_stands before xs y ys) foreign in (f, sym e ∙ p, inr (newer g.newer))
