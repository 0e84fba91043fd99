-- What is sought by a walk over a record is sought in the record. Assumes nothing.
use Prim.Native.Nat.{ℕ, zero, suc}
use mathlib.Core.Path.{◌≡◌, refl, sym, ap, ◌∙◌, subst}
use mathlib.Core.List.{List, [], ◌∷◌}
use denote.Ref.{Bor}
use Rattle.faults.specs.Faults.{no_field}
use Rattle.wire.specs.declared.span.Span.{Span}
use Rattle.wire.specs.Answers.{start_of, len_of, span_part}
use Rattle.wire.specs.Layout.{Layout}
use Rattle.wire.specs.Records.{Part, num, tag, span, Ans, refused}
use Rattle.wire.specs.Writing.{cut}
use Rattle.wire.specs.Fields.{spans, pick_field, field_of, part_of, size_of}
use Rattle.wire.specs.Places.{StandsAt, start_if, start_at, item_start}
use Rattle.format.specs.declared.list.ListOf.{ListOf}
use Rattle.format.specs.Kinds.{item_layout, most_items}
use Rattle.wire.specs.Items.{item_of}
use Rattle.steps.specs.declared.walk.Walk.{Walk}
use Rattle.steps.specs.Walks.{here, seeking, list_seeking, found_by, seek_answer, seek_start, run, Walks}
use Rattle.steps.proofs.Runs.{Sought, seen, picked, run_seeks, run_list}
pub use borrow.Author.Rules.{rules}

-- only byte fields are counted
pick_spans : (ps : List Part) (i asked : ℕ) (src : List ℕ) → picked (spans ps) i asked src ≡ picked ps i asked src
pick_spans [] i asked src = refl
pick_spans (num n ∷ ps) i asked src = pick_spans ps i asked src
pick_spans (tag t ∷ ps) i asked src = pick_spans ps i asked src
pick_spans (span start len ∷ ps) zero asked src = refl
pick_spans (span start len ∷ ps) (suc i) asked src = pick_spans ps i asked src

-- what a walk over a record found, and where: what the record has
module _ (k : ℕ) (l : Layout) (ps ls : List Part) (src old last : List ℕ) (u w : Walk) (i : ℕ) where
  pub sought : u ≡ seeking i → Walks k l ps ls src (here u old) (here w last) → seen (here w last) i src ≡ picked ps i i src
  sought begin p =
      ap (λ h. seen h i src) (p.goes.same ∙ ap (λ y. run p.steps src (here y old)) begin)
      ∙ run_seeks p.steps src i i old ∙ ap (λ y. picked y i i src) p.plans.fields ∙ pick_spans ps i i src

  pub listed : u ≡ list_seeking → Walks k l ps ls src (here u old) (here w last) → seen (here w last) i src ≡ picked ls 0 i src
  listed begin p =
      ap (λ h. seen h i src) (p.goes.same ∙ ap (λ y. run p.steps src (here y old)) begin)
      ∙ run_list p.steps src i old ∙ ap (λ y. picked y 0 i src) p.plans.lists

-- the span of a walk that found one, and of one that did not
module _ (w : Walk) (src : List ℕ) (asked : ℕ) where
  pub found_seen : (t : Span) → w.mode ≡ 5 → span_part t ≡ span w.at w.value → picked (span_part t ∷ []) 0 asked src ≡ seen (here w []) asked src
  found_seen t m e = ap (λ y. picked (y ∷ []) 0 asked src) e ∙ ap (λ n. by n) (sym m)
    where
      by : ℕ → Sought
      by n = (found_by n w asked src, start_if (found_by n w 0 src) w.at)

  pub none_seen : (w.mode ≡ 5 → ⊥) → ◌≡◌ {A = Sought} (refused (no_field asked), 0) (seen (here w []) asked src)
  none_seen h = by w.mode h
    where
      by : (m : ℕ) → (m ≡ 5 → ⊥) → ◌≡◌ {A = Sought} (refused (no_field asked), 0) (found_by m w asked src, start_if (found_by m w 0 src) w.at)
      by zero h = refl
      by (suc zero) h = refl
      by (suc (suc zero)) h = refl
      by (suc (suc (suc zero))) h = refl
      by (suc (suc (suc (suc zero)))) h = refl
      by (suc (suc (suc (suc (suc zero))))) h = absurd (h refl)
      by (suc (suc (suc (suc (suc (suc n)))))) h = refl

-- what is answered of it: g says which part of the answer
module _ {A : Type 0} (g : Ans (List ℕ) → A) where
  pub found_part : (w : Walk) (t : Span) (src : List ℕ) (x : A) (asked : ℕ) → w.mode ≡ 5 → span_part t ≡ span w.at w.value → x ≡ g (cut src (start_of t) (len_of t) 0) → x ≡ g (seek_answer w asked src)
  found_part w t src x asked m e p = p ∙ ap (λ y. g y.0) (found_seen w src asked t m e)

  pub none_part : (w : Walk) (src : List ℕ) (asked : ℕ) (x : A) → (w.mode ≡ 5 → ⊥) → x ≡ g (refused (no_field asked)) → x ≡ g (seek_answer w asked src)
  none_part w src asked x h p = p ∙ ap (λ y. g y.0) (none_seen w src asked h)

-- and where it stands
module _ {s r : Bor (List ℕ)} where
  pub found_place : (w : Walk) (t : Span) (src : List ℕ) → w.mode ≡ 5 → span_part t ≡ span w.at w.value → StandsAt s r (start_if (cut src (start_of t) (len_of t) 0) (start_of t)) → StandsAt s r (seek_start w src)
  found_place w t src m e p = subst (λ y. StandsAt s r y.1) (found_seen w src 0 t m e) p

  pub none_place : (w : Walk) (src : List ℕ) → (w.mode ≡ 5 → ⊥) → StandsAt s r 0 → StandsAt s r (seek_start w src)
  none_place w src h p = subst (λ y. StandsAt s r y.1) (none_seen w src 0 h) p

-- ---- a byte field of a record: its part of the source, which stands there, and its size

pub sought_part : {k : ℕ} {l : Layout} {ps ls : List Part} {src old last : List ℕ} {u w : Walk} {x : List ℕ} {s r : Bor (List ℕ)} {i : ℕ} → u ≡ seeking i → Walks k l ps ls src (here u old) (here w last)
    → ((asked : ℕ) → x ≡ part_of (seek_answer w asked src)) × StandsAt s r (seek_start w src) → (x ≡ part_of (field_of ps i src)) × StandsAt s r (start_at ps i src)
unfolding field_of
sought_part {k} {l} {ps} {ls} {src} {old} {last} {u} {w} {x} {s} {r} {i} begin p e = subst (λ y. (x ≡ part_of y.0) × StandsAt s r y.1) (sought k l ps ls src old last u w i begin p) (e.0 i, e.1)

pub sought_bytes : (k : ℕ) (l : Layout) (ps ls : List Part) (src old last : List ℕ) (u w : Walk) (x : List ℕ) (i : ℕ) → u ≡ seeking i → Walks k l ps ls src (here u old) (here w last)
    → ((asked : ℕ) → x ≡ part_of (seek_answer w asked src)) → x ≡ part_of (field_of ps i src)
unfolding field_of
sought_bytes k l ps ls src old last u w x i begin p e = e i ∙ ap (λ y. part_of y.0) (sought k l ps ls src old last u w i begin p)

pub sought_place : (s r : Bor (List ℕ)) (k : ℕ) (l : Layout) (ps ls : List Part) (src old last : List ℕ) (u w : Walk) (i : ℕ) → u ≡ seeking i → Walks k l ps ls src (here u old) (here w last)
    → StandsAt s r (seek_start w src) → StandsAt s r (start_at ps i src)
unfolding field_of
sought_place s r k l ps ls src old last u w i begin p e = subst (λ y. StandsAt s r y.1) (sought k l ps ls src old last u w i begin p) e

pub sought_size : (k : ℕ) (l : Layout) (ps ls : List Part) (src old last : List ℕ) (u w : Walk) (x : Ans ℕ) (i : ℕ) → u ≡ seeking i → Walks k l ps ls src (here u old) (here w last)
    → x ≡ size_of (seek_answer w i src) → x ≡ size_of (field_of ps i src)
unfolding field_of
sought_size k l ps ls src old last u w x i begin p e = e ∙ ap (λ y. size_of y.0) (sought k l ps ls src old last u w i begin p)

-- ---- and an item of its list: what is answered of any list that is the one found is so of the record's

pub listed_part : (which : ListOf) {k : ℕ} {l : Layout} {ps ls : List Part} {src old last : List ℕ} {u w : Walk} {x : List ℕ} {s r : Bor (List ℕ)} {i : ℕ} → u ≡ list_seeking → Walks k l ps ls src (here u old) (here w last)
    → ((ms : List Part) → pick_field ms 0 i src ≡ seek_answer w i src → x ≡ part_of (item_of (most_items which) (item_layout which) ms i src))
    × ((ms : List Part) → pick_field ms 0 i src ≡ seek_answer w i src → start_at ms 0 src ≡ seek_start w src → StandsAt s r (item_start (most_items which) (item_layout which) ms i src))
    → (x ≡ part_of (item_of (most_items which) (item_layout which) ls i src)) × StandsAt s r (item_start (most_items which) (item_layout which) ls i src)
listed_part which {k} {l} {ps} {ls} {src} {old} {last} {u} {w} {x} {s} {r} {i} begin p e =
    let same = sym (listed k l ps ls src old last u w i begin p) in
    (e.0 ls (ap (λ y. y.0) same), e.1 ls (ap (λ y. y.0) same) (ap (λ y. y.1) same))

pub listed_size : (which : ListOf) (k : ℕ) (l : Layout) (ps ls : List Part) (src old last : List ℕ) (u w : Walk) (x : Ans ℕ) (i : ℕ) → u ≡ list_seeking → Walks k l ps ls src (here u old) (here w last)
    → ((ms : List Part) → pick_field ms 0 i src ≡ seek_answer w i src → x ≡ size_of (item_of (most_items which) (item_layout which) ms i src)) → x ≡ size_of (item_of (most_items which) (item_layout which) ls i src)
listed_size which k l ps ls src old last u w x i begin p e = e ls (ap (λ y. y.0) (sym (listed k l ps ls src old last u w i begin p)))
