use Rattle.std.specs.Prelude.{◌&&◌}
use Rattle.base_trait.proofs.Tests.{and_parts}
use Rattle.spec_ir.specs.Views.{specification}
use Rattle.domain_product_laws.specs.Domain.{may_pair}
use Rattle.test_relation_cases.proofs.domains.PairDomainShownDomain.element.Goals as goal

pub element-requires : goal.element-requires
element-requires g c =
    let spec = specification c.args.spec.now in
    let p = g.A.Domain.is_for c.args.self.now.first spec in
    let q = g.B.Domain.is_for c.args.self.now.second spec in
    record { made = (and_parts p (q && may_pair g.A.B.Base.algebra g.B.B.Base.algebra) c.requires.made).0 }

pub element-requires-2 : goal.element-requires-2
element-requires-2 g c =
    let spec = specification c.args.spec.now in
    let p = g.A.Domain.is_for c.args.self.now.first spec in
    let q = g.B.Domain.is_for c.args.self.now.second spec in
    let may = may_pair g.A.B.Base.algebra g.B.B.Base.algebra in
    record { made = (and_parts q may (and_parts p (q && may) c.requires.made).1).0 }
