-- The program reads no further than it must: with so many bytes its answer is that for all of them. Assumes nothing.
use Prim.Native.Nat.{ℕ, zero, suc, ◌<◌}
use native.Mathlib.Omega.{arith}
use borrow.Author.Tests.{leb-true, leb-false, le-leb, ne_eqb}
use mathlib.Core.Path.{◌≡◌, refl, sym, ap, ◌∙◌}
use mathlib.Core.Bool.{Bool, true, false, cond}
use mathlib.Core.List.{List, [], ◌∷◌}
use lib.ListN.{length, take, drop}
use lib.Seq.{length-take-le, take_all}
use lib.Dec.{leb}
use Rattle.faults.specs.Faults.{bad_kind, oversize}
use Rattle.wire.specs.Bytes.{Bytes, be}
use Rattle.wire.specs.Records.{refused}
use Rattle.wire.proofs.Digits.{be_lt}
use Rattle.wire.proofs.Steps.{clash}
use Rattle.format.specs.Kinds.{is_kind}
use Rattle.listing.specs.Listing.{judged, answer_text, record_text, listing, answered, is_found}
use Rattle.listing.proofs.Deposits.{judged_unread}
use Rattle.cabinet_list.specs.declared.form.Form.{Form}
use Rattle.cabinet_list.specs.Forms.{sizes_agree, most_of, text_of, answer_of}

-- by cases: all that there is was read, or that much and more is there
abbrev Enough : {A : Type 0} → (List ℕ → A) → ℕ → List ℕ → Type 0
Enough f n bs = f (take n bs) ≡ f bs

enough : {A : Type 0} (f : List ℕ → A) (n : ℕ) (bs : List ℕ) → (n < length bs → Enough f n bs) → Enough f n bs
enough f n bs more = by (leb (length bs) n) refl
  where
    by : (b : Bool) → leb (length bs) n ≡ b → Enough f n bs
    by true t = ap f (take_all n bs (leb-true (length bs) n t))
    by false t = more (leb-false (length bs) n t)

-- of more than 4,096 bytes the kind alone counts
long_text : (k : ℕ) (bs : List ℕ) → 4096 < length bs → record_text k bs ≡ answer_text k [] (refused (cond (is_kind k) oversize (bad_kind k)))
unfolding record_text
long_text k bs many = ap (λ a. answer_text k bs a) (judged_unread k bs many)

long_read : (k : ℕ) (bs : List ℕ) → 4096 < length bs → is_found (judged k bs) ≡ false
long_read k bs many = ap is_found (judged_unread k bs many)

record_by_4097 : (k : ℕ) (bs : List ℕ) → record_text k (take 4097 bs) ≡ record_text k bs
record_by_4097 k bs = enough (λ xs. record_text k xs) 4097 bs (λ many.
    long_text k (take 4097 bs) (omega (arith, length-take-le 4097 bs (omega arith))) ∙ sym (long_text k bs (omega arith)))

read_by_4097 : (k : ℕ) (bs : List ℕ) → is_found (judged k (take 4097 bs)) ≡ is_found (judged k bs)
read_by_4097 k bs = enough (λ xs. is_found (judged k xs)) 4097 bs (λ many.
    long_read k (take 4097 bs) (omega (arith, length-take-le 4097 bs (omega arith))) ∙ sym (long_read k bs (omega arith)))

deposit_by_4098 : (d : List ℕ) → listing (take 4098 d) ≡ listing d
unfolding listing
deposit_by_4098 [] = refl
deposit_by_4098 (k ∷ bs) = record_by_4097 k bs

deposit_read_by_4098 : (d : List ℕ) → is_found (answered (take 4098 d)) ≡ is_found (answered d)
unfolding answered
deposit_read_by_4098 [] = refl
deposit_read_by_4098 (k ∷ bs) = read_by_4097 k bs

-- a size in two bytes is below 65,536, so with 65,536 bytes behind it or more it is another
other_size : (k : ℕ) (bs : List ℕ) → Bytes bs → 65537 < length bs → sizes_agree (Form.Sized k) bs ≡ false
other_size k [] y many = absurd (omega arith)
other_size k (a ∷ []) y many = absurd (omega arith)
other_size k (a ∷ b ∷ bs) y many =
    rw (le-leb 2 (length (a ∷ b ∷ bs)) (omega arith))
    (ne_eqb (be (a ∷ b ∷ [])) (length bs) (λ same. absurd (omega (arith, be_lt 2 (a ∷ b ∷ []) (y.0, (y.1.0, tt)) refl))))

bytes_taken : (n : ℕ) (bs : List ℕ) → Bytes bs → Bytes (take n bs)
bytes_taken zero bs y = tt
bytes_taken (suc n) [] y = tt
bytes_taken (suc n) (b ∷ bs) y = (y.0, bytes_taken n bs y.1)

sizes_by_65538 : (k : ℕ) (bs : List ℕ) → Bytes bs → sizes_agree (Form.Sized k) (take 65538 bs) ≡ sizes_agree (Form.Sized k) bs
sizes_by_65538 k bs y = enough (λ xs. sizes_agree (Form.Sized k) xs) 65538 bs (λ many.
    other_size k (take 65538 bs) (bytes_taken 65538 bs y) (omega (arith, length-take-le 65538 bs (omega arith)))
    ∙ sym (other_size k bs y (omega arith)))

-- all of a TPM2B is read
all_of_it : (k : ℕ) (bs : List ℕ) → Bytes bs → sizes_agree (Form.Sized k) bs ≡ true → take 65538 bs ≡ bs
all_of_it k bs y agree = by (leb (length bs) 65538) refl
  where
    by : (b : Bool) → leb (length bs) 65538 ≡ b → take 65538 bs ≡ bs
    by true t = take_all 65538 bs (leb-true (length bs) 65538 t)
    by false t = absurd (other (sym agree ∙ other_size k bs y (omega (arith, leb-false (length bs) 65538 t))))
      where
        other : true ≡ false → ⊥
        other p = clash (cc)

-- whether the sizes agree, and, where they do, what is listed and whether that is a record, is the same of all bytes that there are
pub sizes_of_all : (f : Form) (bs : List ℕ) → Bytes bs → sizes_agree f (take (most_of f) bs) ≡ sizes_agree f bs
sizes_of_all Form.Deposit bs y = refl
sizes_of_all (Form.Record k) bs y = refl
sizes_of_all (Form.Sized k) bs y = sizes_by_65538 k bs y

pub text_of_all : (f : Form) (bs : List ℕ) → Bytes bs → sizes_agree f bs ≡ true → text_of f (take (most_of f) bs) ≡ text_of f bs
text_of_all Form.Deposit bs y agree = deposit_by_4098 bs
text_of_all (Form.Record k) bs y agree = record_by_4097 k bs
text_of_all (Form.Sized k) bs y agree = ap (λ xs. record_text k (drop 2 xs)) (all_of_it k bs y agree)

pub answer_of_all : (f : Form) (bs : List ℕ) → Bytes bs → sizes_agree f bs ≡ true → is_found (answer_of f (take (most_of f) bs)) ≡ is_found (answer_of f bs)
answer_of_all Form.Deposit bs y agree = deposit_read_by_4098 bs
answer_of_all (Form.Record k) bs y agree = read_by_4097 k bs
answer_of_all (Form.Sized k) bs y agree = ap (λ xs. is_found (judged k (drop 2 xs))) (all_of_it k bs y agree)
