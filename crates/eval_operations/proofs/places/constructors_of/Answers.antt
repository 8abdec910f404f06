use Rattle.std.proofs.Common.{Some, sym, ap, ◌∙◌}
use Rattle.abstract_value.specs.View.{abs}
use Rattle.abstract_value.proofs.Views.{abs_Data}
use Rattle.abstract_semantics.specs.Choices as choices
use Rattle.eval_operations.proofs.places.constructors_of.Goals as goal

pub returns-in-Data : goal.returns-in-Data
returns-in-Data g c = sym (ap (λ x. choices.cases_there (Some x)) (ap abs c.in-Data.is ∙ abs_Data c.in-Data._ty c.in-Data.cases))
