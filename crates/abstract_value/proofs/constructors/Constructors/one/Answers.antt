use Rattle.std.proofs.Common.{ap, ◌∙◌}
use Rattle.abstract_value.specs.Constructors.{only}
use Rattle.abstract_value.proofs.Places.{one_alone}
use Rattle.abstract_value.proofs.constructors.Constructors.one.Goals as goal

pub returns-clause-value : goal.returns-clause-value
returns-clause-value g c = one_alone c.args.count c.args.number c.in_ok-fields.fields.value.items c.requires ∙ ap (λ f. only c.args.count c.args.number f) c.in_ok-fields.ensures
