-- Texts in a row: the room that is left behind each, and the lines that they make. Assumes nothing.
use Prim.Native.Nat.{ℕ, ◌+◌, ◌*◌, ◌≤◌}
use native.Mathlib.Omega.{arith}
use mathlib.Core.Path.{◌≡◌, refl, sym, ap, ◌∙◌, subst}
use mathlib.Core.Bool.{cond}
use mathlib.Core.List.{List, [], ◌++◌, append_assoc}
use lib.ListN.{length, length-append}
use lib.Dec.{eqb}
use Rattle.faults.specs.declared.Fault.{Fault}
use Rattle.faults.specs.declared.Fault.TheVariants.{Short, UnknownCode, NoArm, TooLong, TooManyItems, BadValue, Mismatch, BadSpan, NoRoom, NoField, Trailing, BadKind, Oversize}
use Rattle.faults.specs.declared.Refusal.{Refusal}
use Rattle.faults.specs.Faults.{paper}
use Rattle.text.specs.declared.line.Word.{Word}
use Rattle.wire.specs.Lines.{the_bytes, line}
use Rattle.text.specs.Puts.{Puts}
use Rattle.text.proofs.Putting.{puts_and, puts_length}
use Rattle.text.specs.Ascii.{ascii}
use Rattle.text.specs.Text.{decimal, hex, say_word, word_text, say_text, line_text, read_text, record_at_text, had_text, refused_text}
use Rattle.text.proofs.Decimals.{decimal_length}
use Rattle.text.proofs.Hexes.{hex_length}

-- ---- how long the parts of a line are

head_length : (place size : ℕ) → length (decimal place ++ (ascii " " ++ decimal size)) ≤ 41
head_length place size = omega (arith, length-append (decimal place) (ascii " " ++ decimal size), decimal_length place, decimal_length size)

abbrev bytes_head : (place size : ℕ) → List ℕ
bytes_head place size = (decimal place ++ (ascii " " ++ decimal size)) ++ ascii " bytes "

word_length : (w : Word) → length (word_text w) ≤ 8
word_length Word.Code = omega arith
word_length Word.Number = omega arith

-- ---- lines

head_joined : (place size : ℕ) (rest : List ℕ) → (decimal place ++ (ascii " " ++ decimal size)) ++ rest ≡ decimal place ++ (ascii " " ++ (decimal size ++ rest))
head_joined place size rest = append_assoc (decimal place) (ascii " " ++ decimal size) rest

number_line : (place size : ℕ) (w : Word) (n : ℕ)
    → (decimal place ++ (ascii " " ++ decimal size)) ++ (word_text w ++ (decimal n ++ ascii "\n")) ≡ line_text (line place size (say_word w n))
number_line place size w n = head_joined place size (word_text w ++ (decimal n ++ ascii "\n")) ∙ ap (λ x. decimal place ++ (ascii " " ++ (decimal size ++ x))) (by w)
  where
    by : (w : Word) → word_text w ++ (decimal n ++ ascii "\n") ≡ say_text (say_word w n) ++ ascii "\n"
    by Word.Code = sym (append_assoc (word_text Word.Code) (decimal n) (ascii "\n"))
    by Word.Number = sym (append_assoc (word_text Word.Number) (decimal n) (ascii "\n"))

bytes_line : (place size : ℕ) (xs : List ℕ)
    → bytes_head place size ++ (hex xs ++ ascii "\n") ≡ line_text (line place size (the_bytes xs))
bytes_line place size xs =
    append_assoc (decimal place ++ (ascii " " ++ decimal size)) (ascii " bytes ") (hex xs ++ ascii "\n")
    ∙ head_joined place size (ascii " bytes " ++ (hex xs ++ ascii "\n"))
    ∙ ap (λ x. decimal place ++ (ascii " " ++ (decimal size ++ x))) (sym (append_assoc (ascii " bytes ") (hex xs) (ascii "\n")))

pub puts_same : {at : ℕ} {xs ys old : List ℕ} {r : ℕ} {last : List ℕ} → xs ≡ ys → Puts at xs old r last → Puts at ys old r last
puts_same {at} {old = old} {r = r} {last = last} e p = subst (λ bs. Puts at bs old r last) e p

-- ---- how long lines are

pub number_line_most : (place size : ℕ) (w : Word) (n : ℕ) → length (line_text (line place size (say_word w n))) ≤ length (decimal place) + (length (decimal size) + 30)
number_line_most place size w n =
    let texts = decimal n ++ ascii "\n" in
    let whole = ap length (sym (number_line place size w n)) in
    omega (arith, length-append (decimal place ++ (ascii " " ++ decimal size)) (word_text w ++ texts), length-append (decimal place) (ascii " " ++ decimal size), length-append (word_text w) texts, word_length w, length-append (decimal n) (ascii "\n"), decimal_length n)

pub number_line_length : (place size : ℕ) (w : Word) (n : ℕ) → length (line_text (line place size (say_word w n))) ≤ 70
number_line_length place size w n = omega (arith, number_line_most place size w n, decimal_length place, decimal_length size)

pub bytes_line_most : (place size : ℕ) (xs : List ℕ) → length (line_text (line place size (the_bytes xs))) ≤ length (decimal place) + (length (decimal size) + (10 + 2 * length xs))
bytes_line_most place size xs =
    let head = decimal place ++ (ascii " " ++ decimal size) in
    omega (arith, ap length (sym (bytes_line place size xs)), length-append (bytes_head place size) (hex xs ++ ascii "\n"), length-append head (ascii " bytes "), length-append (decimal place) (ascii " " ++ decimal size), length-append (hex xs) (ascii "\n"), hex_length xs)

pub bytes_line_length : (place size : ℕ) (xs : List ℕ) → length (line_text (line place size (the_bytes xs))) ≤ 50 + 2 * length xs
bytes_line_length place size xs = omega (arith, bytes_line_most place size xs, decimal_length place, decimal_length size)

-- ---- lines, put part by part

pub number_line_puts : (place size : ℕ) (w : Word) (n : ℕ) {at i j k r : ℕ} {old first second third last : List ℕ}
    → Puts at (decimal place ++ (ascii " " ++ decimal size)) old i first → Puts i (word_text w) first j second → Puts j (decimal n) second k third → Puts k (ascii "\n") third r last
    → Puts at (line_text (line place size (say_word w n))) old r last
number_line_puts place size w n p q s t = puts_same (number_line place size w n) (puts_and p (puts_and q (puts_and s t)))

module _ (place size : ℕ) (xs : List ℕ) where
  pub bytes_line_puts : {at m r : ℕ} {old mid last : List ℕ} → Puts at (bytes_head place size) old m mid → Puts m (hex xs ++ ascii "\n") mid r last
      → Puts at (line_text (line place size (the_bytes xs))) old r last
  bytes_line_puts p q = puts_same (bytes_line place size xs) (puts_and p q)

  -- how long it is, if its front was made beside
  pub bytes_line_size : {blank row : List ℕ} {k n : ℕ} → Puts 0 (bytes_head place size) blank k row → n ≡ length (hex xs ++ ascii "\n") → k + n ≡ length (line_text (line place size (the_bytes xs)))
  bytes_line_size p e = omega (arith, p.behind, ap length (sym (bytes_line place size xs)), length-append (bytes_head place size) (hex xs ++ ascii "\n"))

-- ---- how long the lines of answers are

pub said_length : (w : List ℕ) (n k : ℕ) → length w ≤ k → length (w ++ decimal n) ≤ k + 20
said_length w n k h = omega (arith, length-append w (decimal n), decimal_length n)

said_behind : (w : List ℕ) (n : ℕ) (rest : List ℕ) (j m : ℕ) → length w ≤ j → length rest ≤ m → length (w ++ (decimal n ++ rest)) ≤ j + (20 + m)
said_behind w n rest j m few more = omega (arith, length-append w (decimal n ++ rest), length-append (decimal n) rest, decimal_length n)

pub read_text_length : (k e t : ℕ) → length (read_text k e t) ≤ 78
read_text_length k e t =
    said_behind (ascii "kind ") k _ 5 53 (omega arith)
    (said_behind (ascii " read ") e _ 6 27 (omega arith)
    (said_behind (ascii " tail ") t _ 6 1 (omega arith)
    (omega arith)))

pub record_at_text_length : (n p : ℕ) → length (record_at_text n p) ≤ 52
record_at_text_length n p =
    said_behind (ascii "record ") n _ 7 25 (omega arith)
    (said_behind (ascii " at ") p _ 4 1 (omega arith)
    (omega arith))

had_text_length : (t : Fault) (n : ℕ) → length (had_text t n) ≤ 25
had_text_length Short n = omega (arith, decimal_length n)
had_text_length _ n = omega arith

pub refused_text_length : (k : ℕ) (f : Refusal) → length (refused_text k f) ≤ 131
refused_text_length k f =
    said_behind (ascii "kind ") k _ 5 106 (omega arith)
    (said_behind (ascii " refused ") _ _ 9 77 (omega arith)
    (said_behind (ascii " at ") f.place _ 4 53 (omega arith)
    (said_behind (ascii " value ") f.value _ 7 26 (omega arith)
    (omega (arith, length-append (had_text f.fault f.had) (ascii "\n"), had_text_length f.fault f.had)))))

-- only Short, the fault with the number 1, says what it had
had_text_lem : (t : Fault) (n : ℕ) → had_text t n ≡ cond (eqb (paper t).number 1) (ascii " had " ++ decimal n) []
had_text_lem Short n = refl
had_text_lem UnknownCode n = refl
had_text_lem NoArm n = refl
had_text_lem TooLong n = refl
had_text_lem TooManyItems n = refl
had_text_lem BadValue n = refl
had_text_lem Mismatch n = refl
had_text_lem BadSpan n = refl
had_text_lem NoRoom n = refl
had_text_lem NoField n = refl
had_text_lem Trailing n = refl
had_text_lem BadKind n = refl
had_text_lem Oversize n = refl

-- ---- what is left of a room that is known beforehand

module _ {at : ℕ} {xs old : List ℕ} {m : ℕ} {mid : List ℕ} (k : ℕ) (p : Puts at xs old m mid) (few : length xs ≤ k) where
  -- where there was room for k and j bytes, and k at most were put, there is room for j
  pub puts_left : (j : ℕ) → at + (k + j) ≤ length old → m + j ≤ length mid
  puts_left j h = let fits : m ≤ length old = omega (arith, p.behind) in omega (arith, p.behind, puts_length fits p)

  pub puts_both : {ys : List ℕ} {r : ℕ} {last : List ℕ} → at + k ≤ length old → Puts m ys mid r last → Puts at (xs ++ ys) old r last
  puts_both h q = puts_and p q

pub said : (w d : List ℕ) {rest all : List ℕ} → rest ≡ all → (w ++ d) ++ rest ≡ w ++ (d ++ all)
said w d {rest} e = append_assoc w d rest ∙ ap (λ x. w ++ (d ++ x)) e

-- a word and the number behind it, where there was room for the longest and for j bytes more
module _ (w : List ℕ) (n : ℕ) {at : ℕ} {old : List ℕ} {m : ℕ} {mid : List ℕ} (p : Puts at (w ++ decimal n) old m mid) (j : ℕ) (room : at + (length w + 20 + j) ≤ length old) where
  pub said_left : m + j ≤ length mid
  said_left = puts_left (length w + 20) p (omega (arith, length-append w (decimal n), decimal_length n)) j room

  pub said_then : {ys : List ℕ} {r : ℕ} {last : List ℕ} → Puts m ys mid r last → Puts at (w ++ (decimal n ++ ys)) old r last
  said_then {ys} q = puts_same (append_assoc w (decimal n) ys) (puts_and p q)

-- ---- the line of a refusal in six parts, where there is room for the longest

module _ (k : ℕ) (f : Refusal) {at : ℕ} {old : List ℕ} (room : at + 131 ≤ length old) {a : ℕ} {first : List ℕ} (p : Puts at (ascii "kind " ++ decimal k) old a first) where
  pub behind_kind : a + 106 ≤ length first
  behind_kind = said_left (ascii "kind ") k p 106 room

  module _ (n : ℕ) {b : ℕ} {second : List ℕ} (q : Puts a (ascii " refused " ++ decimal n) first b second) where
    pub behind_number : b + 77 ≤ length second
    behind_number = said_left (ascii " refused ") n q 77 behind_kind

    module _ {c : ℕ} {third : List ℕ} (r : Puts b (ascii " at " ++ decimal f.place) second c third) where
      pub behind_place : c + 53 ≤ length third
      behind_place = said_left (ascii " at ") f.place r 53 behind_number

      module _ {d : ℕ} {fourth : List ℕ} (s : Puts c (ascii " value " ++ decimal f.value) third d fourth) where
        pub behind_value : d + 26 ≤ length fourth
        behind_value = said_left (ascii " value ") f.value s 26 behind_place

        module _ {e : ℕ} {fifth : List ℕ} (t : Puts d (had_text f.fault f.had) fourth e fifth) where
          pub behind_had : e + 1 ≤ length fifth
          behind_had = puts_left 25 t (had_text_length f.fault f.had) 1 behind_value

          pub refusal_line_puts : {z : ℕ} {last : List ℕ} → n ≡ (paper f.fault).number → Puts e (ascii "\n") fifth z last → Puts at (refused_text k f) old z last
          refusal_line_puts number u =
              puts_same
              (ap (λ m. ascii "kind " ++ (decimal k ++ (ascii " refused " ++ (decimal m ++ (ascii " at " ++ (decimal f.place ++ (ascii " value " ++ (decimal f.value ++ (had_text f.fault f.had ++ ascii "\n"))))))))) number)
              (said_then (ascii "kind ") k p 106 room
              (said_then (ascii " refused ") n q 77 behind_kind
              (said_then (ascii " at ") f.place r 53 behind_number
              (said_then (ascii " value ") f.value s 26 behind_place
              (puts_both 25 t (had_text_length f.fault f.had) (omega (arith, behind_value)) u)))))
