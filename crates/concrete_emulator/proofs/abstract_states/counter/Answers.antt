use Rattle.std.proofs.Common.{ap, sym, ◌∙◌}
use Rattle.abstract_value.specs.View.{abs}
use Rattle.abstract_value.proofs.Views.{abs_Data}
use Rattle.concrete_emulator.specs.States.{counter_in}
use Rattle.concrete_emulator.proofs.abstract_states.counter.Goals as goal

pub returns-in-Data : goal.returns-in-Data
returns-in-Data c =
    let is = ap (λ x. counter_in (abs x)) c.in-Data.is ∙ ap counter_in (abs_Data c.in-Data._ty c.in-Data.cases) in
    c.counter_in_cases.ensures ∙ sym is
