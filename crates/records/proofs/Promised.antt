-- What the reader of a layout answers, in the grammar's words: each by the law over every layout. Assumes nothing.
use Prim.Native.Nat.{ℕ, ◌≤◌}
use mathlib.Core.Path.{◌≡◌, refl, sym, ap, ◌∙◌}
use mathlib.Core.Logic.{◌⊎◌}
use mathlib.Core.List.{List, ◌∷◌, ◌++◌}
use lib.ListN.{length, take, drop, take-append-drop}
use lib.Seq.{drop_at, drop-drop, length-take-le}
use Rattle.faults.specs.declared.Fault.TheVariants.{Short}
use Rattle.faults.specs.declared.Refusal.{Refusal}
use Rattle.wire.specs.Bytes.{Bytes}
use Rattle.wire.specs.Layout.{Layout}
use Rattle.wire.specs.Records.{Part, Ans, refused, Parsed, parsed}
use Rattle.wire.specs.Reading.{read, read_whole, IsShort}
use Rattle.wire.specs.Grammar.{Token, Spells, Starts, placed, shown}
use Rattle.wire.specs.Editions.{Later, Ours, Newer}
use Rattle.wire.proofs.Stand.{bytes_front}
use Rattle.wire.proofs.Complete.{read_complete, placed_shows}
use Rattle.wire.proofs.Prefix as prefix
use Rattle.wire.proofs.Refused.{refuses_read, read_refuses}
use Rattle.wire.proofs.Had.{refused_says_what_it_had, refused_whole_says_what_it_had}
use Rattle.wire.proofs.Stable.{cut_short}
use Rattle.wire.proofs.Ours as ours
use Rattle.wire.proofs.Whole.{refused_is_refused_whole}
use Rattle.wire.proofs.WholeExactly as whole
use Rattle.records.specs.Reads.{Reads, ReadsWhole}

-- ---- a record of which the input has only the beginning: the input is what stands in front of the place, and what stands there

module _ (l : Layout) (src : List ℕ) (at : ℕ) (b : Bytes src) (y : ℕ) (ys : List ℕ) (inside : at ≤ length src) where
  size : length (take at src) ≡ at
  size = length-take-le at src inside

  front : Bytes (take at src)
  front = bytes_front (take at src) (drop at src) (rw (take-append-drop at src) b)

  pub cut_there : {ts : List Token} → Spells l ts (drop at src ++ (y ∷ ys)) → IsShort src (read l src at)
  cut_there d = let (place, needed, p) = cut_short (take at src) (drop at src) y ys front d in (place, needed, rw (take-append-drop at src, size) at p)

  pub cut_ours_there : {l' : Layout} {ts : List Token} (x : Later l l') (d : Spells l' ts (drop at src ++ (y ∷ ys))) → Ours x d → IsShort src (read l src at)
  cut_ours_there x d all = let (place, needed, p) = ours.cut_ours_is_short (take at src) (drop at src) y ys front x d all in (place, needed, rw (take-append-drop at src, size) at p)

  pub later_cut_there : {l' : Layout} {ts : List Token} → Later l l' → Spells l' ts (drop at src ++ (y ∷ ys)) → (f : Refusal) × (read l src at ≡ refused f) × ((f.fault ≡ Short) ⊎ Newer f)
  later_cut_there x d = let (f, p, why) = ours.later_cut (take at src) (drop at src) y ys front x d in (f, rw (take-append-drop at src, size) at p, why)

-- ---- what is owed, from the equation

module _ (l : Layout) (src : List ℕ) (at : ℕ) {a : Ans Parsed} where
  -- a record as a prefix
  module _ (told : a ≡ read l src at) (b : Bytes src) where
    -- what follows an accepted record is what its end leaves
    accepted : {ps : List Part} {e : ℕ} → a ≡ parsed ps e → (d : Starts l src at e) × (ps ≡ placed d.spells at) × (shown src ps ≡ d.tokens) × (drop at src ≡ d.front ++ drop e src)
    accepted {e = e} found =
        let (d, same, shows) = prefix.accepted_is_legal l src at b (sym told ∙ found) in
        let n = length d.front in
        let rest = sym (drop_at d.front d.stands.rest n refl) ∙ ap (λ xs. drop n xs) (sym d.stands.begins) ∙ drop-drop n at src ∙ ap (λ m. drop m src) (sym d.ends) in
        (d, same, shows, d.stands.begins ∙ ap (λ xs. d.front ++ xs) rest)

    pub reads : Reads l src at a
    reads =
        record {
          answer = told;
          accepted_is_legal = accepted;
          legal_is_accepted = λ d stands. (told ∙ read_complete d stands, placed_shows d stands);
          refused_means_none = λ fails d. prefix.refused_none (sym told ∙ fails) d;
          none_means_refused = λ none. let (f, p) = prefix.none_refused l src at b none in (f, told ∙ p);
          refusal_is_first = λ {f} fails. read_refuses l src at f b (sym told ∙ fails);
          first_is_refusal = λ first. told ∙ refuses_read first;
          refusal_says_what_it_had = λ {f} fails. refused_says_what_it_had l src at f (sym told ∙ fails);
          ours_is_read = λ x d stands all. told ∙ ours.ours_is_read x d stands all;
          not_ours_is_refused = λ x d stands foreign. let (f, g, p) = ours.not_ours_is_refused x d stands foreign in (f, g, told ∙ p);
          cut_is_short = λ y ys inside d. let (place, needed, p) = cut_there l src at b y ys inside d in (place, needed, told ∙ p);
          cut_ours_is_short = λ y ys inside x d all. let (place, needed, p) = cut_ours_there l src at b y ys inside x d all in (place, needed, told ∙ p);
          later_cut_is_refused = λ y ys inside x d. let (f, p, why) = later_cut_there l src at b y ys inside x d in (f, told ∙ p, why);
        }

  -- a record that is all there is
  module _ (told : a ≡ read_whole l src at) (b : Bytes src) where
    pub reads_whole : ReadsWhole l src at a
    reads_whole =
        record {
          answer = told;
          accepted_is_all = λ found. whole.whole_accepts_only_all l src at b (sym told ∙ found);
          all_is_accepted = λ d alone. told ∙ whole.legal_is_accepted_whole l src at d alone;
          refusal_says_why = λ f fails. whole.whole_refusal_says_why l src at f b (sym told ∙ fails);
          why_is_refusal = λ why. told ∙ whole.why_is_whole_refusal l src at why;
          refusal_says_what_it_had = λ {f} fails. refused_whole_says_what_it_had l src at f (sym told ∙ fails);
          ours_is_read = λ x d alone all. told ∙ ours.ours_is_read_whole src at x d alone all;
          ours_with_a_tail_is_trailing = λ x d stands more all. told ∙ ours.ours_with_a_tail_is_trailing x d stands more all;
          not_ours_is_refused = λ x d stands foreign. let (f, g, p) = ours.not_ours_is_refused_whole x d stands foreign in (f, g, told ∙ p);
          cut_is_short = λ y ys inside d. let (place, needed, p) = cut_there l src at b y ys inside d in (place, needed, told ∙ refused_is_refused_whole l src at p);
          cut_ours_is_short = λ y ys inside x d all. let (place, needed, p) = cut_ours_there l src at b y ys inside x d all in (place, needed, told ∙ refused_is_refused_whole l src at p);
          later_cut_is_refused = λ y ys inside x d. let (f, p, why) = later_cut_there l src at b y ys inside x d in (f, told ∙ refused_is_refused_whole l src at p, why);
        }
