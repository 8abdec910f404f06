use Rattle.std.proofs.Common.{ap, sym, ◌∙◌}
use Rattle.domain_laws.specs.Calls.{fields_of}
use Rattle.abstract_value.specs.View.{abs}
use Rattle.abstract_value.proofs.Views.{abs_Data}
use Rattle.domain_cells.proofs.states.behind_counter.Goals as goal

pub returns-in-Data : goal.returns-in-Data
returns-in-Data g c =
    c.of_one.ensures ∙ sym (ap (λ v. fields_of (abs v)) c.in-Data.is ∙ ap fields_of (abs_Data c.in-Data._ty c.in-Data.cases))
