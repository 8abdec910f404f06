use Rattle.std.proofs.Common.{ap₂}
use Rattle.spec_ir.specs.Views.{specification}
use Rattle.domain_laws.proofs.Fields.{made_for}
use Rattle.domain_cells.proofs.domain.StateDomain.new.Goals as goal

pub returns-clause-made : goal.returns-clause-made
returns-clause-made g c =
    made_for g.B.Base.algebra (record { number = c.state_number.result; fields = c.in_ok-fields_of.field-0.items }) (specification c.args.spec.now) c.requires.joins c.requires.unseen c.requires.states
    (ap₂ (λ n fs. record { number = n; fields = fs }) c.state_number.ensures c.in_ok-fields_of.ensures)
