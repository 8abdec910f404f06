use Rattle.std.proofs.Common.{◌≡◌, ◌∙◌, ℕ, ◌+◌, List, ap, subst, sym}
use Rattle.std.specs.Prelude.{Ok}
use Rattle.spec_ir.specs.Views.{specification}
use Rattle.code_image.specs.Image.{code_at}
use Rattle.state_text.specs.Stops.{stop_name}
use Rattle.program_stress_code.specs.Summary.{summary_text}
use Rattle.semantics_values.specs.Views.{state}
use Rattle.concrete_emulator.specs.Ends.{IsEmulated}
use Rattle.program_common.specs.declared.outcome.Answer.{Answer}
use Rattle.program_common.specs.Outcome.{text}
use Rattle.program_common.specs.Outcomes.{answer_of}
use Rattle.program_machine.specs.Views.{analysis_inputs_of}
use Rattle.program_analyses.specs.StressSteps.{SummaryOf, stress_turns}
use Rattle.program_analyses.proofs.Giving.{run_summed}
use Rattle.program_analyses.proofs.stress.summarise.Goals as goal

pub returns : goal.returns
returns c =
    let posed = analysis_inputs_of c.args.posed.now in
    let bytes = c.in_ok-stopped_summary.field-0.items in
    let end = c.in_ok-end.end in
    let emulated = subst (λ (n : ℕ). IsEmulated posed.spec (code_at posed.image) stress_turns (n + 1) (state c.args.start) end) c.from-bound.ensures c.in_ok-end.ensures in
    let told = c.in_ok-stopped_summary.ensures ∙ ap (λ (xs : List ℕ). summary_text c.args.count xs end.done (stop_name end.stop)) c.deref.ensures.value in
    subst (λ (m : Answer). SummaryOf c.args.count posed (state c.args.start) (answer_of m) (Ok (text bytes))) (sym c.in-Text.is)
    (run_summed c.args.count posed (state c.args.start) c.in-Text.lines.items bytes end c.requires.machine emulated told)
