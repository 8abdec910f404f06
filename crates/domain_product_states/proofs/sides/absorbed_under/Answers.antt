use Rattle.std.proofs.Common.{map, ap, subst, sym, ◌∙◌}
use Rattle.abstract_value_laws.specs.Abs.{parts}
use Rattle.abstract_value_laws.specs.Calls.{absorbs_parts}
use Rattle.abstract_value_laws.specs.Fits.{PartsFit}
use Rattle.abstract_value.specs.View.{abs}
use Rattle.domain_product_states.specs.Parts.{first_parts, second_parts}
use Rattle.domain_product_states.proofs.Values.{parts_same}
use Rattle.domain_product_states.proofs.Walks.{both_off, both_on}
use Rattle.domain_product_states.proofs.sides.absorbed_under.Goals as goal

pub absorbs_values-requires-clause-old : goal.absorbs_values-requires-clause-old
absorbs_values-requires-clause-old g c = subst (PartsFit g.A.Base.algebra c.ctx.inside.0 g.A.Base.CAP) (sym (parts_same (parts (map abs c.args.xs.now)))) (subst (λ k. PartsFit g.A.Base.algebra k.0 g.A.Base.CAP (parts (map abs c.args.xs.now))) (sym c.ctx.view_is) c.requires.old.0)

pub absorbs_values-requires-then-absorbs_values-clause-old : goal.absorbs_values-requires-then-absorbs_values-clause-old
absorbs_values-requires-then-absorbs_values-clause-old g c = subst (PartsFit g.B.Base.algebra c.ctx.inside.1 g.B.Base.CAP) (sym (parts_same (parts (map abs c.args.ys.now)))) (subst (λ k. PartsFit g.B.Base.algebra k.1 g.B.Base.CAP (parts (map abs c.args.ys.now))) (sym c.ctx.view_is) c.requires.old.1)

pub returns-then-absorbs_values : goal.returns-then-absorbs_values
returns-then-absorbs_values g c =
    let A = g.A.Base.algebra in
    let B = g.B.Base.algebra in
    let k = c.ctx.inside in
    let z = parts (map abs c.args.news.now) in
    let x = parts (map abs c.args.xs.now) in
    let y = parts (map abs c.args.ys.now) in
    rw (← c.ctx.view_is) (both_on c.absorbs_values.result c.absorbs_values-then-absorbs_values.result (absorbs_parts A k.0 x (first_parts z)) (absorbs_parts B k.1 y (second_parts z))
    (c.absorbs_values.ensures ∙ ap (λ t. absorbs_parts A k.0 t (first_parts z)) (parts_same x)) (c.absorbs_values-then-absorbs_values.ensures ∙ ap (λ t. absorbs_parts B k.1 t (second_parts z)) (parts_same y)) c.if-absorbs_values.true)

pub returns-else-absorbs_values : goal.returns-else-absorbs_values
returns-else-absorbs_values g c =
    let A = g.A.Base.algebra in
    let B = g.B.Base.algebra in
    let k = c.ctx.inside in
    let z = parts (map abs c.args.news.now) in
    let x = parts (map abs c.args.xs.now) in
    let y = parts (map abs c.args.ys.now) in
    rw (← c.ctx.view_is) (both_off c.absorbs_values.result (absorbs_parts A k.0 x (first_parts z)) (absorbs_parts B k.1 y (second_parts z)) (c.absorbs_values.ensures ∙ ap (λ t. absorbs_parts A k.0 t (first_parts z)) (parts_same x)) c.if-absorbs_values.false)
