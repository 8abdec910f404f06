use Rattle.std.proofs.Common.{◌++◌, ap, ◌∙◌}
use Rattle.std.specs.Prelude.{codes, option_map}
use Rattle.spec_ir.specs.Views.{specification}
use Rattle.semantics_values.specs.Types.{environment_of}
use Rattle.semantics_values.specs.Views.{val}
use Rattle.code_image.specs.Decoders.{decoding}
use Rattle.code_image.specs.Listing.{hex_digits, instruction_text, line_at}
use Rattle.code_image.proofs.Fields.{lent, line_parts}
use Rattle.code_image.proofs.listing.push_line.Goals as goal

pub returns : goal.returns
returns c =
    let spec = specification c.args.spec.now in
    let a = c.args.address in
    let w = c.in-Some.word in
    let found = lent c.as_ref.result ∙ ap (option_map val) c.as_ref.ensures.value ∙ c.in_ok-instruction.ensures.instruction in
    let text = ap (instruction_text (environment_of spec)) found in
    let shown = c.in_ok-push_instruction.ensures ∙ ap (λ t. c.push_text-2.new.out.items ++ t) text in
    let e₁ = c.in_ok-push_hex.ensures ∙ ap (λ n. c.args.out.now.items ++ hex_digits 8 n) c.from.ensures in
    let e₃ = c.in_ok-push_hex-2.ensures ∙ ap (λ n. c.push_text.new.out.items ++ hex_digits 8 n) c.from-2.ensures in
    let line = line_parts c.args.out.now.items c.push_hex.new.out.items c.push_text.new.out.items c.push_hex-2.new.out.items c.push_text-2.new.out.items c.push_instruction.new.out.items c.push_text-3.new.out.items
    (hex_digits 8 a) (hex_digits 8 w) (instruction_text (environment_of spec) (decoding spec w)) (codes " ") (codes "\n")
    e₁ c.in_ok-push_text.ensures e₃ c.in_ok-push_text-2.ensures shown c.in_ok-push_text-3.ensures in
    line ∙ ap (λ r. c.args.out.now.items ++ line_at spec a r) c.in-Some.ensures
