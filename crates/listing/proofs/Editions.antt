-- What is listed of a record of an edition that extends ours: as ours, if its codes and arms are all ours, and else the refusal at the first
-- that is not. Assumes nothing.
use Prim.Native.Nat.{ℕ, ◌+◌, ◌≤◌}
use mathlib.Core.Path.{◌≡◌, refl, ap, ◌∙◌}
use mathlib.Core.Logic.{◌⊎◌}
use mathlib.Core.Bool.{true}
use mathlib.Core.List.{List, [], ◌∷◌, ◌++◌}
use lib.ListN.{length}
use Rattle.faults.specs.declared.Fault.TheVariants.{Short}
use Rattle.faults.specs.declared.Refusal.{Refusal}
use Rattle.faults.specs.Faults.{short}
use Rattle.wire.specs.Records.{refused, left}
use Rattle.wire.specs.Reading.{read}
use Rattle.wire.specs.Grammar.{Token, Spells, placed}
use Rattle.wire.specs.Editions.{Newer, Foreign}
use Rattle.wire.specs.Lines.{lines}
use Rattle.wire.proofs.Stand.{stands_start, bytes_front}
use Rattle.wire.proofs.Complete.{spells_bytes}
use Rattle.wire.proofs.Ours.{ours_kept}
use Rattle.format.specs.Kinds.{is_kind, layout_of}
use Rattle.format.specs.Editions.{Edition, Extends}
use Rattle.format.specs.EditionKinds.{layout_in}
use Rattle.format.proofs.Editions.{extension_is_later}
use Rattle.records.proofs.Promises.{refusal_is_first}
use Rattle.records.proofs.Editions.{AllOurs, not_ours_is_refused, cut_ours_is_short, cut_is_refused}
use Rattle.text.specs.Text.{lines_text, read_text, refused_text}
use Rattle.listing.specs.Listing.{listing}
use Rattle.listing.proofs.Promises.{legal_record_is_listed, first_fault_is_listed}

module _ {e : Edition} (x : Extends e) (k : ℕ) {ts : List Token} {bs : List ℕ} (d : Spells (layout_in e k) ts bs) (tail : List ℕ)
    (some : is_kind k ≡ true) (few : length (bs ++ tail) ≤ 4096) where
  -- bytes with a legal record of the edition in front that is all ours: where it ends, how many bytes are left behind it, and its fields
  pub ours_is_listed : AllOurs x k d
      → listing (k ∷ (bs ++ tail)) ≡ read_text k (length bs) (length tail) ++ lines_text (lines (layout_of k) (placed d 0) (bs ++ tail) 0)
  ours_is_listed all =
      let (c, same) = ours_kept (extension_is_later x k) d all in
      legal_record_is_listed k c tail some few ∙ ap (λ ps. read_text k (length bs) (length tail) ++ lines_text (lines (layout_of k) ps (bs ++ tail) 0)) (same 0)

  -- any other: the line of its refusal, which is UnknownCode or NoArm at the first code or arm, in wire order, that is not ours
  pub not_ours_is_listed : (AllOurs x k d → ⊥)
      → (f : Refusal) × Foreign (layout_of k) (bs ++ tail) 0 (0 + length bs) f
      × (listing (k ∷ (bs ++ tail)) ≡ refused_text k f)
  not_ours_is_listed foreign =
      let (f, g, p) = not_ours_is_refused x k (bs ++ tail) 0 refl d (stands_start bs tail) foreign in
      (f, g, first_fault_is_listed k g.first some few)

-- a record of the edition that is cut: xs is all that there is, and the record goes on
module _ {e : Edition} (x : Extends e) (k : ℕ) (xs : List ℕ) (y : ℕ) (ys : List ℕ) {ts : List Token} (d : Spells (layout_in e k) ts (xs ++ (y ∷ ys)))
    (some : is_kind k ≡ true) (few : length xs ≤ 4096) where
  refused_as : {f : Refusal} → read (layout_of k) xs 0 ≡ refused f → listing (k ∷ xs) ≡ refused_text k f
  refused_as {f} p = first_fault_is_listed k (refusal_is_first k xs 0 f (bytes_front xs (y ∷ ys) (spells_bytes d)) p) some few

  -- if it is all ours: refusal 1, Short, and how many bytes there are from its place on
  pub cut_ours_is_listed : AllOurs x k d → (place : ℕ) × (needed : ℕ) × (listing (k ∷ xs) ≡ refused_text k (short place needed (left xs place)))
  cut_ours_is_listed all = let (place, needed, p) = cut_ours_is_short x k [] xs y ys tt d refl all in (place, needed, refused_as p)

  -- and any: Short, or the refusal of a code or an arm that is not ours
  pub cut_is_listed : (f : Refusal) × (listing (k ∷ xs) ≡ refused_text k f) × ((f.fault ≡ Short) ⊎ Newer f)
  cut_is_listed = let (f, p, why) = cut_is_refused x k [] xs y ys tt d refl in (f, refused_as p, why)
