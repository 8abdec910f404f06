use Rattle.std.proofs.Common.{◌≡◌, ap, ◌∙◌, Some, false}
use Rattle.std.specs.Prelude.{option_map}
use Rattle.spec_ir.specs.Views.{row_of}
use Rattle.semantics.specs.Decode.{instruction_of}
use Rattle.code_image.specs.Decoders.{has_fields, instr_of}
use Rattle.code_image.proofs.Groups.{bare_row}
use Rattle.code_image.proofs.decoder.Decoder.find.Goals as goal

pub returns-in_err-build_instruction-in-Some-clause-bare : goal.returns-in_err-build_instruction-in-Some-clause-bare
returns-in_err-build_instruction-in-Some-clause-bare c = λ bare.
    let instr = instr_of c.args.spec.now.machine in
    let row = row_of c.in-Some.row.now in
    let is : has_fields (Some (instruction_of instr c.args.word row)) ≡ false = ap (λ r. has_fields (option_map (instruction_of instr c.args.word) r)) c.in-Some.ensures ∙ bare in
    let none = bare_row instr c.args.word row is in
    let bad = c.in_err-build_instruction-in-Some.ensures.bare none in
    cc
