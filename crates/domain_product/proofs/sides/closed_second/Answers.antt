use Rattle.std.proofs.Common.{refl, subst}
use Rattle.spec_ir.specs.Views.{specification}
use Rattle.domain_laws.specs.States.{state_type}
use Rattle.abstract_map.proofs.Whole.{if_ok}
use Rattle.abstract_value.specs.View.{abs}
use Rattle.domain_product_laws.specs.Calls.{second_value}
use Rattle.domain_product.proofs.Parts.{state_at}
use Rattle.domain_product.proofs.sides.closed_second.Goals as goal

pub close-closed-requires-clause-state : goal.close-closed-requires-clause-state
close-closed-requires-clause-state g c =
    let context = (g.D.Domain.meaning c.args.domain.now).context in
    state_at g.D.B.Base.algebra g.D.B.Base.CAP (state_type (specification c.args.spec.now)) context context (abs c.in_ok-part.part) (second_value (abs c.args.value.now)) refl c.in_ok-part.ensures.value c.requires.state

pub returns-clause-value : goal.returns-clause-value
returns-clause-value g c =
    let elements = g.D.Domain.elements c.args.domain.now in
    let meaning = g.D.Domain.meaning c.args.domain.now in
    let before = g.D.Domain.view c.args.before.now in
    if_ok (λ r. elements.same (g.D.Domain.view r) (meaning.closed before (abs c.in_ok-part.part))) (λ r. elements.same (g.D.Domain.view r) (meaning.closed before (second_value (abs c.args.value.now)))) c.close-closed.result
    (λ r h. subst (λ z. elements.same (g.D.Domain.view r) (meaning.closed before z)) c.in_ok-part.ensures.value h) c.close-closed.ensures.value
