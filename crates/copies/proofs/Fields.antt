-- The byte fields of a record that was read, by its kind's number, are the bytes tokens of the legal record that starts there: a record of
-- a kind has a byte, so it starts in the input and its spans lie there. Assumes nothing.
use Prim.Native.Nat.{ℕ}
use native.Mathlib.Omega.{arith}
use mathlib.Core.Path.{◌≡◌, ap, ◌∙◌}
use mathlib.Core.List.{List}
use Rattle.std.specs.Prelude.{Result}
use Rattle.faults.specs.declared.Refusal.{Refusal}
use Rattle.wire.specs.Answers.{measure_answer}
use Rattle.wire.specs.Bytes.{Bytes}
use Rattle.wire.specs.Records.{Part, parsed}
use Rattle.wire.specs.Reading.{read}
use Rattle.wire.specs.Grammar.{Starts, placed}
use Rattle.wire.specs.Fields.{field_of, bytes_token, part_of, size_of}
use Rattle.wire.proofs.FieldsSpelled.{read_records_field_is_its_bytes_token}
use Rattle.format.specs.Kinds.{layout_of}
use Rattle.format.proofs.Begun.{read_lies_in}

module _ (k : ℕ) (src : List ℕ) (at : ℕ) {ps : List Part} {e : ℕ} (b : Bytes src) (there : read (layout_of k) src at ≡ parsed ps e) where
  -- the byte field with any index is the bytes token with that index, or refused as there is no such token
  pub byte_fields_are_the_bytes_tokens : (d : Starts (layout_of k) src at e) × (ps ≡ placed d.spells at) × ((i : ℕ) → field_of ps i src ≡ bytes_token d.tokens i)
  byte_fields_are_the_bytes_tokens =
      let (behind, inside) = read_lies_in k src at b there in
      read_records_field_is_its_bytes_token (layout_of k) src at b (omega arith) there

  -- so is what the calls of the kind answer: `part` is what `field` hands out for an index, and `size` what `field_size` answers
  pub field_handed_out_is_the_bytes_token : (i : ℕ) {part : List ℕ} (size : Result ℕ Refusal) → part ≡ part_of (field_of ps i src) → measure_answer size ≡ size_of (field_of ps i src)
      → (d : Starts (layout_of k) src at e) × (ps ≡ placed d.spells at) × (part ≡ part_of (bytes_token d.tokens i)) × (measure_answer size ≡ size_of (bytes_token d.tokens i))
  field_handed_out_is_the_bytes_token i size handed measured =
      let (d, same, fields) = byte_fields_are_the_bytes_tokens in
      (d, same, handed ∙ ap part_of (fields i), measured ∙ ap size_of (fields i))
