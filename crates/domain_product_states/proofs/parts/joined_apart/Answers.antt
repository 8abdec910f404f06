use Rattle.std.proofs.Common.{sym, subst, ap₂, ◌∙◌}
use Rattle.abstract_value_laws.specs.Calls.{join_parts}
use Rattle.abstract_value_laws.specs.Fits.{PartsFit}
use Rattle.domain_product_states.specs.Views.{seen}
use Rattle.domain_product_states.proofs.Seen.{first_taken, second_taken}
use Rattle.domain_product_states.proofs.parts.joined_apart.Goals as goal

pub join_values-requires : goal.join_values-requires
join_values-requires g c =
    let left = c.in_ok-left.left in
    let right = c.in_ok-right.right in
    let fit = subst (λ k. PartsFit g.A.Base.algebra k.0 g.A.Base.CAP (seen c.args.x.now).0 × PartsFit g.A.Base.algebra k.0 g.A.Base.CAP (seen c.args.y.now).0) (sym c.ctx.view_is) c.requires.first in
    record {
      left = subst (PartsFit g.A.Base.algebra c.ctx.inside.0 g.A.Base.CAP) (sym (first_taken left.0 left.1 (seen c.args.x.now) c.in_ok-left.ensures c.deref.result.now c.deref.ensures.value)) fit.0;
      right = subst (PartsFit g.A.Base.algebra c.ctx.inside.0 g.A.Base.CAP) (sym (first_taken right.0 right.1 (seen c.args.y.now) c.in_ok-right.ensures c.deref-2.result.now c.deref-2.ensures.value)) fit.1;
    }

pub join_values-requires-2 : goal.join_values-requires-2
join_values-requires-2 g c =
    let left = c.in_ok-left.left in
    let right = c.in_ok-right.right in
    let fit = subst (λ k. PartsFit g.B.Base.algebra k.1 g.B.Base.CAP (seen c.args.x.now).1 × PartsFit g.B.Base.algebra k.1 g.B.Base.CAP (seen c.args.y.now).1) (sym c.ctx.view_is) c.requires.second in
    record {
      left = subst (PartsFit g.B.Base.algebra c.ctx.inside.1 g.B.Base.CAP) (sym (second_taken left.0 left.1 (seen c.args.x.now) c.in_ok-left.ensures c.deref-3.result.now c.deref-3.ensures.value)) fit.0;
      right = subst (PartsFit g.B.Base.algebra c.ctx.inside.1 g.B.Base.CAP) (sym (second_taken right.0 right.1 (seen c.args.y.now) c.in_ok-right.ensures c.deref-4.result.now c.deref-4.ensures.value)) fit.1;
    }

pub returns : goal.returns
returns g c =
    let A = g.A.Base.algebra in
    let B = g.B.Base.algebra in
    let m = g.A.Base.CAP in
    let n = g.B.Base.CAP in
    let k = c.ctx.inside in
    let left = c.in_ok-left.left in
    let right = c.in_ok-right.right in
    let x = seen c.args.x.now in
    let y = seen c.args.y.now in
    rw (← c.ctx.view_is) (ap₂ (λ p q. (p, q))
    (c.in_ok-first.ensures ∙ ap₂ (join_parts A k.0 m) (first_taken left.0 left.1 x c.in_ok-left.ensures c.deref.result.now c.deref.ensures.value) (first_taken right.0 right.1 y c.in_ok-right.ensures c.deref-2.result.now c.deref-2.ensures.value))
    (c.in_ok-second.ensures ∙ ap₂ (join_parts B k.1 n) (second_taken left.0 left.1 x c.in_ok-left.ensures c.deref-3.result.now c.deref-3.ensures.value) (second_taken right.0 right.1 y c.in_ok-right.ensures c.deref-4.result.now c.deref-4.ensures.value)))
