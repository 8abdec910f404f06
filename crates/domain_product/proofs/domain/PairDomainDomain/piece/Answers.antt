use Rattle.std.proofs.Common.{subst, sym}
use Rattle.std.specs.Prelude.{◌&&◌, IfSome, option_map}
use Rattle.base_trait.proofs.Tests.{and_parts}
use Rattle.spec_ir.specs.Views.{specification}
use Rattle.fixpoint_theory.specs.Pairs.{paired}
use Rattle.fixpoint_cases.specs.Pieces.{both_there}
use Rattle.fixpoint_cases.specs.Same.{IsSamePiece}
use Rattle.domain_laws.proofs.Pieces.{both_kept, both_seen}
use Rattle.domain_product_laws.specs.Domain.{may_pair}
use Rattle.domain_product.proofs.domain.PairDomainDomain.piece.Goals as goal

pub piece-requires-clause-made : goal.piece-requires-clause-made
piece-requires-clause-made g c =
    let spec = specification c.args.spec.now in
    (and_parts (g.A.Domain.is_for c.args.self.now.first spec) (g.B.Domain.is_for c.args.self.now.second spec && may_pair g.A.B.Base.algebra g.B.B.Base.algebra) c.requires.made).0

pub piece-requires-2-clause-made : goal.piece-requires-2-clause-made
piece-requires-2-clause-made g c =
    let spec = specification c.args.spec.now in
    let others = (and_parts (g.A.Domain.is_for c.args.self.now.first spec) (g.B.Domain.is_for c.args.self.now.second spec && may_pair g.A.B.Base.algebra g.B.B.Base.algebra) c.requires.made).1 in
    (and_parts (g.B.Domain.is_for c.args.self.now.second spec) (may_pair g.A.B.Base.algebra g.B.B.Base.algebra) others).0

pub returns-clause-value : goal.returns-clause-value
returns-clause-value g c =
    let cut = c.args.cut in
    subst (λ r. IsSamePiece (paired (g.A.Domain.elements c.args.self.now.first) (g.B.Domain.elements c.args.self.now.second)) (option_map (λ x. (g.A.Domain.view x.0, g.B.Domain.view x.1)) r)
    (both_there (g.A.Domain.pieces c.args.self.now.first (cut.place, cut.key) cut.low cut.high (g.A.Domain.view c.args.x.now.0)) (g.B.Domain.pieces c.args.self.now.second (cut.place, cut.key) cut.low cut.high (g.B.Domain.view c.args.x.now.1))))
    (sym c.both_there.ensures)
    (both_seen (g.A.Domain.elements c.args.self.now.first) (g.B.Domain.elements c.args.self.now.second) g.A.Domain.view g.B.Domain.view c.in_ok-first.first c.in_ok-second.second
    (g.A.Domain.pieces c.args.self.now.first (cut.place, cut.key) cut.low cut.high (g.A.Domain.view c.args.x.now.0)) (g.B.Domain.pieces c.args.self.now.second (cut.place, cut.key) cut.low cut.high (g.B.Domain.view c.args.x.now.1))
    c.in_ok-first.ensures.value c.in_ok-second.ensures.value)

pub returns-clause-fits : goal.returns-clause-fits
returns-clause-fits g c =
    subst (λ r. IfSome r (λ z. (g.A.Domain.elements c.args.self.now.first).fits (g.A.Domain.view z.0) × (g.B.Domain.elements c.args.self.now.second).fits (g.B.Domain.view z.1))) (sym c.both_there.ensures)
    (both_kept (λ x. (g.A.Domain.elements c.args.self.now.first).fits (g.A.Domain.view x)) (λ y. (g.B.Domain.elements c.args.self.now.second).fits (g.B.Domain.view y))
    c.in_ok-first.first c.in_ok-second.second c.in_ok-first.ensures.fits c.in_ok-second.ensures.fits)
