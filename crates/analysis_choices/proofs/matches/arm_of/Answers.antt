use Rattle.std.proofs.Common.{◌∙◌, ap, map, option_map, sym}
use Rattle.std.proofs.lemmas.Result.{IfOk-weaker}
use Rattle.spec_match_compiler.specs.Views.{tree}
use Rattle.semantics_values.specs.Views.{val}
use Rattle.analysis_choices.specs.declared.symbol.Symbol.TheVariants.{Instruction}
use Rattle.analysis_choices.specs.Matches as of
use Rattle.analysis_choices.proofs.Arms.{arm_taken}
use Rattle.analysis_choices.proofs.matches.arm_of.Goals as goal

pub returns-in-Instruction-Made : goal.returns-in-Instruction-Made
returns-in-Instruction-Made c =
    let made = c.in-Instruction-Made in
    let by = tree c.args.by.now in
    let same = ap (λ qs. option_map (of.named (of.in_instruction (map val qs))) (of.row_of made.case by)) c.deref.ensures.value
    ∙ arm_taken made.ty-1 made.case made.parts by ∙ ap (λ z. of.arm_of (val z) Instruction by) (sym made.is-1) ∙ ap (λ x. of.arm_of (val c.args.instruction.now) x by) (sym made.is-0) in
    IfOk-weaker c.arm_of_instruction.result _ _ (λ r e. e ∙ same) c.arm_of_instruction.ensures
