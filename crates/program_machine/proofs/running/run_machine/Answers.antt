use Rattle.std.proofs.Common.{List, ℕ, ap, subst, ◌∙◌}
use Rattle.spec_ir.specs.Views.{specification}
use Rattle.semantics_values.specs.Views.{state}
use Rattle.code_image.specs.Image.{code_at}
use Rattle.concrete_emulator.specs.Ends.{IsEmulated}
use Rattle.program_common.specs.Outcomes.{answer_of as seen}
use Rattle.program_machine.specs.Running.{answer_of}
use Rattle.program_machine.proofs.Giving.{run_told}
use Rattle.program_machine.proofs.running.run_machine.Goals as goal

pub returns : goal.returns
returns c =
    let emulated = subst (λ (bound : ℕ). IsEmulated (specification c.args.spec.now) (code_at c.args.image.now) c.args.turns bound (state c.args.start) c.in_ok-end.end) c.from.ensures c.in_ok-end.ensures in
    run_told (specification c.args.spec.now) c.args.image.now c.args.turns c.args.bound (state c.args.start) c.in_ok-end.end (seen c.answer_of.result) c.requires.accepted c.requires.machine c.requires.typed emulated
    (c.answer_of.ensures ∙ ap (λ (bytes : List ℕ). answer_of c.in_ok-end.end.stop bytes) c.in_ok-text.ensures)
