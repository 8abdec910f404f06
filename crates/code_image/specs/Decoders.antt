-- Decoders of specifications.
use Rattle.std.specs.Prelude.{ℕ, Bool, true, false, Option, Some, None, List}
use Rattle.spec_ir.specs.declared.spec.Machine.{Machine}
use Rattle.spec_ir.specs.Specification.{Spec, Row}
use Rattle.semantics_values.specs.Values.{Val, made, val_then}
use Rattle.semantics.specs.Decode.{decoded}
use Rattle.code_image.specs.declared.decoder.Decoder.{Decoder}
use Rattle.code_image.specs.Tree.{LosesNone}
use Rattle.code_image.specs.Views.{tree}

-- The groups of a decoder are those of these rows.
abbrev pub IsDecoderOf : List Row → Decoder → Type 0
IsDecoderOf rows d = LosesNone rows (tree d.tree) rows

-- the number of the datatype of instructions
abbrev pub instr_of : Option Machine → ℕ
instr_of None = 0
instr_of (Some m) = m.instr

-- the instruction that a word is, if any
abbrev pub decoding : Spec → ℕ → Option Val
decoding spec code = decoded (instr_of spec.machine) spec.rows code

-- whether an instruction is one with fields
abbrev pub has_fields : Option Val → Bool
has_fields (Some (made ty case (val_then v vs))) = true
has_fields _ = false
