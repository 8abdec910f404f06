use Rattle.std.specs.Prelude.{◌&&◌}
use Rattle.base_trait.proofs.Tests.{and_parts}
use Rattle.spec_ir.specs.Views.{specification}
use Rattle.domain_laws.specs.States.{state_type}
use Rattle.abstract_value.specs.View.{abs}
use Rattle.domain_product_laws.specs.Domain.{may_pair}
use Rattle.domain_product.proofs.Parts.{closed_parts}
use Rattle.domain_product.proofs.domain.PairDomainDomain.close.Goals as goal

pub closed_first-requires-clause-state : goal.closed_first-requires-clause-state
closed_first-requires-clause-state g c =
    let first = g.A.Domain.meaning c.args.self.now.first in
    let second = g.B.Domain.meaning c.args.self.now.second in
    let spec = specification c.args.spec.now in
    (closed_parts g.A.B.Base.algebra g.B.B.Base.algebra g.A.B.Base.CAP g.B.B.Base.CAP g.met.A.B.Base.capacity g.met.B.B.Base.capacity (g.A.Domain.is_for c.args.self.now.first spec) (g.B.Domain.is_for c.args.self.now.second spec) c.requires.made
    (first.context, second.context) (state_type spec) (abs c.args.value.now) c.requires.state).0

pub closed_second-requires-clause-state : goal.closed_second-requires-clause-state
closed_second-requires-clause-state g c =
    let first = g.A.Domain.meaning c.args.self.now.first in
    let second = g.B.Domain.meaning c.args.self.now.second in
    let spec = specification c.args.spec.now in
    (closed_parts g.A.B.Base.algebra g.B.B.Base.algebra g.A.B.Base.CAP g.B.B.Base.CAP g.met.A.B.Base.capacity g.met.B.B.Base.capacity (g.A.Domain.is_for c.args.self.now.first spec) (g.B.Domain.is_for c.args.self.now.second spec) c.requires.made
    (first.context, second.context) (state_type spec) (abs c.args.value.now) c.requires.state).1

pub returns-clause-value : goal.returns-clause-value
returns-clause-value g c = (c.in_ok-closed_first.ensures.value, c.in_ok-closed_second.ensures.value)

pub returns-clause-fits : goal.returns-clause-fits
returns-clause-fits g c = (c.in_ok-closed_first.ensures.fits, c.in_ok-closed_second.ensures.fits)

pub closed_first-requires-clause-made : goal.closed_first-requires-clause-made
closed_first-requires-clause-made g c =
    let spec = specification c.args.spec.now in
    (and_parts (g.A.Domain.is_for c.args.self.now.first spec) (g.B.Domain.is_for c.args.self.now.second spec && may_pair g.A.B.Base.algebra g.B.B.Base.algebra) c.requires.made).0

pub closed_second-requires-clause-made : goal.closed_second-requires-clause-made
closed_second-requires-clause-made g c =
    let spec = specification c.args.spec.now in
    let others = (and_parts (g.A.Domain.is_for c.args.self.now.first spec) (g.B.Domain.is_for c.args.self.now.second spec && may_pair g.A.B.Base.algebra g.B.B.Base.algebra) c.requires.made).1 in
    (and_parts (g.B.Domain.is_for c.args.self.now.second spec) (may_pair g.A.B.Base.algebra g.B.B.Base.algebra) others).0
