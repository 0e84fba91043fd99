-- The format's numbers tell the faults apart, and the table gives each refusal by name the value that it is named with. Assumes nothing.
use Prim.Native.Nat.{ℕ}
use mathlib.Core.Path.{◌≡◌, refl, sym, ap, ◌∙◌}
use mathlib.Core.List.{[], ◌∷◌}
use lib.ListN.{get_or}
use Rattle.faults.specs.declared.Fault.{Fault}
use Rattle.faults.specs.declared.Fault.TheVariants.{Short, UnknownCode, NoArm, TooLong, TooManyItems, BadValue, Mismatch, BadSpan, NoRoom, NoField, Trailing, BadKind, Oversize}
use Rattle.faults.specs.declared.Refusal.{Refusal}
use Rattle.faults.specs.Faults.{Met, paper, placed_at, short, unknown_code, no_such_arm, too_long, too_many_items, bad_value, mismatch, bad_span, no_room, no_field, trailing, bad_kind, oversize}

-- the faults by their numbers, from 1 on
abbrev numbered : ℕ → Fault
numbered n =
    get_or
    (Short ∷ Short ∷ UnknownCode ∷ NoArm ∷ TooLong ∷ TooManyItems ∷ BadValue ∷ Mismatch ∷ BadSpan ∷ NoRoom ∷ NoField ∷ Trailing ∷ BadKind ∷ Oversize ∷ [])
    n Short

number_back : (f : Fault) → numbered (paper f).number ≡ f
number_back Short = refl
number_back UnknownCode = refl
number_back NoArm = refl
number_back TooLong = refl
number_back TooManyItems = refl
number_back BadValue = refl
number_back Mismatch = refl
number_back BadSpan = refl
number_back NoRoom = refl
number_back NoField = refl
number_back Trailing = refl
number_back BadKind = refl
number_back Oversize = refl

-- two faults with one number are one fault
pub one_number_one_fault : (f g : Fault) → (paper f).number ≡ (paper g).number → f ≡ g
one_number_one_fault f g e = sym (number_back f) ∙ ap numbered e ∙ number_back g

-- the value of a refusal by name is the number that it is given; of Oversize one more byte than the listing takes
pub values_by_the_table : (p n h : ℕ)
    → ((short p n h).value ≡ n) × ((unknown_code p n).value ≡ n) × ((no_such_arm p n).value ≡ n) × ((too_long p n).value ≡ n) × ((too_many_items p n).value ≡ n)
    × ((bad_value p n).value ≡ n) × ((mismatch p n).value ≡ n) × ((bad_span p n).value ≡ n) × ((no_room p n).value ≡ n) × ((no_field n).value ≡ n)
    × ((trailing p n).value ≡ n) × ((bad_kind n).value ≡ n) × (oversize.value ≡ 4097)
values_by_the_table p n h = (refl, refl, refl, refl, refl, refl, refl, refl, refl, refl, refl, refl, refl)

-- by the table Short had the bytes that there are, and any other none, whatever was met
pub short_had : (m : Met) → (paper Short).had m ≡ m.there
short_had m = refl

pub only_short_had : (f : Fault) (m : Met) → (f ≡ Short → ⊥) → (paper f).had m ≡ 0
only_short_had Short m apart = absurd (apart refl)
only_short_had UnknownCode m apart = refl
only_short_had NoArm m apart = refl
only_short_had TooLong m apart = refl
only_short_had TooManyItems m apart = refl
only_short_had BadValue m apart = refl
only_short_had Mismatch m apart = refl
only_short_had BadSpan m apart = refl
only_short_had NoRoom m apart = refl
only_short_had NoField m apart = refl
only_short_had Trailing m apart = refl
only_short_had BadKind m apart = refl
only_short_had Oversize m apart = refl

-- so of a refusal by name, Short had the bytes that it is given, and any other none
pub had_by_the_table : (p n h : ℕ)
    → ((short p n h).had ≡ h) × ((unknown_code p n).had ≡ 0) × ((no_such_arm p n).had ≡ 0) × ((too_long p n).had ≡ 0) × ((too_many_items p n).had ≡ 0)
    × ((bad_value p n).had ≡ 0) × ((mismatch p n).had ≡ 0) × ((bad_span p n).had ≡ 0) × ((no_room p n).had ≡ 0) × ((no_field n).had ≡ 0)
    × ((trailing p n).had ≡ 0) × ((bad_kind n).had ≡ 0) × (oversize.had ≡ 0)
had_by_the_table p n h = (refl, refl, refl, refl, refl, refl, refl, refl, refl, refl, refl, refl, refl)

-- at another place a refusal is the same but for the place
pub placed_keeps_the_rest : (p : ℕ) (f : Refusal)
    → ((placed_at p f).place ≡ p) × ((placed_at p f).fault ≡ f.fault) × ((placed_at p f).value ≡ f.value) × ((placed_at p f).had ≡ f.had)
placed_keeps_the_rest p f = (refl, refl, refl, refl)
