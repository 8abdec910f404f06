use Rattle.std.proofs.Common.{map}
use Rattle.spec_ir.specs.Views.{specification}
use Rattle.abstract_value_laws.specs.Abs.{parts}
use Rattle.abstract_value.specs.View.{abs}
use Rattle.domain_cells.specs.Views.{context_of, states_of}
use Rattle.domain_product_states.proofs.Made.{closed_fit, closed_is}
use Rattle.domain_product_states.proofs.domain.PairedStatesDomain.close.Goals as goal

pub returns-clause-value : goal.returns-clause-value
returns-clause-value g c =
    let states = c.args.self.now.states in
    closed_is g.A.Base.algebra g.B.Base.algebra g.A.Base.CAP g.B.Base.CAP (context_of states) (states_of states) (abs c.args.value.now) (parts (map abs c.in_ok-values.values.items)) c.in_ok-values.ensures

pub returns-clause-fits : goal.returns-clause-fits
returns-clause-fits g c =
    let states = c.args.self.now.states in
    closed_fit g.A.Base.algebra g.B.Base.algebra g.A.Base.CAP g.B.Base.CAP g.met.A.Base.capacity g.met.B.Base.capacity (context_of states) (states_of states) (specification c.args._spec.now) c.requires.made g.met.A.Base.laws g.met.B.Base.laws
    (abs c.args.value.now) (parts (map abs c.in_ok-values.values.items)) c.in_ok-values.ensures c.requires.state
