-- What the code's widths, spans and answers mean, as numbers, parts and answers of the definitions. Assumes nothing.
use Rattle.std.specs.Prelude.{ℕ, List, [], ◌∷◌, Result, Ok, Err}
use Rattle.wire.specs.declared.width.Width.{Width}
use Rattle.wire.specs.declared.width.Width.TheVariants.{One, Two, Four, Eight}
use Rattle.wire.specs.declared.span.Span.{Span}
use Rattle.faults.specs.declared.Refusal.{Refusal}
use Rattle.wire.specs.Records.{Part, num, span, Ans, found, refused, Parsed, parsed}

-- how many bytes a number of that width has
abbrev pub width_of : Width → ℕ
width_of One = 1
width_of Two = 2
width_of Four = 4
width_of Eight = 8

-- where a span starts, and how long it is
abbrev pub start_of : Span → ℕ
start_of s = s.start

abbrev pub len_of : Span → ℕ
len_of s = s.len

-- the part that a record keeps of a byte field
abbrev pub span_part : Span → Part
span_part s = span (start_of s) (len_of s)

-- what a number, and what a span, keeps
abbrev pub number_parts : ℕ → List Part
number_parts n = num n ∷ []

abbrev pub span_parts : Span → List Part
span_parts s = span_part s ∷ []

-- what was read, by its parts, and where it ends; or the refusal
abbrev pub answer : {A : Type 0} → (parts : A → List Part) → Result (A × ℕ) Refusal → Ans Parsed
answer parts (Ok (x, e)) = parsed (parts x) e
answer parts (Err f) = refused f

-- how many bytes there are, were read or were put
abbrev pub measure_answer : Result ℕ Refusal → Ans ℕ
measure_answer (Ok n) = found n
measure_answer (Err f) = refused f
