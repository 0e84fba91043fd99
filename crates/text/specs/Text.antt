-- The text of a listing's lines. Assumes nothing.
use Rattle.std.specs.Prelude.{ℕ, zero, suc, ◌/◌, ◌%◌, cond, List, [], ◌∷◌, ◌++◌, ltb}
use Rattle.io.specs.Digits.{hex_digit_ascii}
use Rattle.faults.specs.declared.Fault.{Fault}
use Rattle.faults.specs.declared.Fault.TheVariants.{Short, UnknownCode, NoArm, TooLong, TooManyItems, BadValue, Mismatch, BadSpan, NoRoom, NoField, Trailing, BadKind, Oversize}
use Rattle.faults.specs.declared.Refusal.{Refusal}
use Rattle.faults.specs.Faults.{paper}
use Rattle.wire.specs.Lines.{Says, a_code, a_number, the_bytes, Line}
use Rattle.text.specs.declared.answer.Answer.{Answer}
use Rattle.text.specs.declared.answer.Answer.TheVariants.{Read, RecordAt, Refused}
use Rattle.text.specs.declared.line.Word.{Word}
use Rattle.text.specs.Ascii.{ascii}

-- a number in decimal: the digits in front, if there are any, and the last one. A number of 64 bits has at most 20
abbrev pub decimal_in : (most n : ℕ) → List ℕ
decimal_in zero n = []
decimal_in (suc k) n = cond (ltb n 10) [] (decimal_in k (n / 10)) ++ (hex_digit_ascii (n % 10) ∷ [])

unfoldable pub decimal : ℕ → List ℕ
decimal n = decimal_in 20 n

-- bytes in hexadecimal, two digits a byte, in lower case
abbrev pub pairs : List ℕ → List ℕ
pairs [] = []
pairs (b ∷ bs) = hex_digit_ascii (b / 16) ∷ hex_digit_ascii (b % 16) ∷ pairs bs

-- and `-` where there are none
abbrev pub hex : List ℕ → List ℕ
hex [] = ascii "-"
hex (b ∷ bs) = pairs (b ∷ bs)

-- a number by its word
abbrev pub say_word : Word → ℕ → Says
say_word Word.Code n = a_code n
say_word Word.Number n = a_number n

-- the word for a number
abbrev pub word_text : Word → List ℕ
word_text Word.Code = ascii " code "
word_text Word.Number = ascii " number "

-- what a line says
abbrev pub say_text : Says → List ℕ
say_text (a_code n) = word_text Word.Code ++ decimal n
say_text (a_number n) = word_text Word.Number ++ decimal n
say_text (the_bytes xs) = ascii " bytes " ++ hex xs

-- a line: place, size, and what it says
abbrev pub line_text : Line → List ℕ
line_text l = decimal l.place ++ (ascii " " ++ (decimal l.size ++ (say_text l.says ++ ascii "\n")))

abbrev pub lines_text : List Line → List ℕ
lines_text [] = []
lines_text (l ∷ ls) = line_text l ++ lines_text ls

-- the first line of a record that was read: its kind, where it ends, and how many bytes are left behind it
abbrev pub read_text : (kind end tail : ℕ) → List ℕ
read_text k e t = ascii "kind " ++ (decimal k ++ (ascii " read " ++ (decimal e ++ (ascii " tail " ++ (decimal t ++ ascii "\n")))))

-- the line in front of a record in a row: its number, counted from 1, and the place where it starts
abbrev pub record_at_text : (number place : ℕ) → List ℕ
record_at_text n p = ascii "record " ++ (decimal n ++ (ascii " at " ++ (decimal p ++ ascii "\n")))

-- behind the value of a refusal: of Short how many bytes it had, 0 too; of any other nothing
abbrev pub had_text : Fault → (had : ℕ) → List ℕ
had_text Short n = ascii " had " ++ decimal n
had_text UnknownCode n = []
had_text NoArm n = []
had_text TooLong n = []
had_text TooManyItems n = []
had_text BadValue n = []
had_text Mismatch n = []
had_text BadSpan n = []
had_text NoRoom n = []
had_text NoField n = []
had_text Trailing n = []
had_text BadKind n = []
had_text Oversize n = []

-- the one line of a refusal: the fault's number, its place, its value, and what it had
abbrev pub refused_text : (kind : ℕ) → Refusal → List ℕ
refused_text k f =
    ascii "kind " ++ (decimal k ++ (ascii " refused " ++ (decimal (paper f.fault).number ++ (ascii " at " ++ (decimal f.place
    ++ (ascii " value " ++ (decimal f.value ++ (had_text f.fault f.had ++ ascii "\n"))))))))

-- the line of an answer
abbrev pub answer_text : Answer → List ℕ
answer_text (Read k e t) = read_text k e t
answer_text (RecordAt n p) = record_at_text n p
answer_text (Refused k f) = refused_text k f
