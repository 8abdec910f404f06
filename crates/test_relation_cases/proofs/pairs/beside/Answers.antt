use Rattle.std.proofs.Common.{sym, ap, subst, ◌≡◌, ◌∙◌}
use Rattle.abstract_map.proofs.Whole.{if_ok}
use Rattle.domain_cells.specs.Views.{context_of, states_of}
use Rattle.domain_laws.specs.Values.{FieldsFit}
use Rattle.domain_product_states.specs.Views.{apart, seen}
use Rattle.test_relation_cases.proofs.pairs.beside.Goals as goal

pub returns : goal.returns
returns g c =
    let A = g.A.Base.algebra in
    let B = g.B.Base.algebra in
    let m = g.A.Base.CAP in
    let n = g.B.Base.CAP in
    let k = context_of c.args.domain.now.states in
    let t = states_of c.args.domain.now.states in
    let left = c.in_ok-left.left in
    let right = c.in_ok-right.right in
    if_ok (λ r. seen r ≡ apart left.0.items right.1.items) (λ r. FieldsFit A k.0 m t.fields (seen r).0 × FieldsFit B k.1 n t.fields (seen r).1) c.of_parts.result
    (λ r h. (subst (FieldsFit A k.0 m t.fields) (sym (ap (λ p. p.0) h ∙ ap (λ p. p.0) c.in_ok-left.ensures)) c.requires.first.0, subst (FieldsFit B k.1 n t.fields) (sym (ap (λ p. p.1) h ∙ ap (λ p. p.1) c.in_ok-right.ensures)) c.requires.second.1))
    c.of_parts.ensures
