use Rattle.std.proofs.Common.{sym, subst, ap₂, ◌∙◌}
use Rattle.abstract_value_laws.specs.Calls.{widen_parts}
use Rattle.abstract_value_laws.specs.Fits.{PartsFit}
use Rattle.domain_product_states.specs.Views.{seen}
use Rattle.domain_product_states.proofs.Seen.{first_taken, second_taken}
use Rattle.domain_product_states.proofs.parts.widened_apart.Goals as goal

pub widen_values-requires : goal.widen_values-requires
widen_values-requires g c =
    let before = c.in_ok-before.before in
    let after = c.in_ok-after.after in
    let fit = subst (λ k. PartsFit g.A.Base.algebra k.0 g.A.Base.CAP (seen c.args.old.now).0 × PartsFit g.A.Base.algebra k.0 g.A.Base.CAP (seen c.args.new.now).0) (sym c.ctx.view_is) c.requires.first in
    record {
      old = subst (PartsFit g.A.Base.algebra c.ctx.inside.0 g.A.Base.CAP) (sym (first_taken before.0 before.1 (seen c.args.old.now) c.in_ok-before.ensures c.deref.result.now c.deref.ensures.value)) fit.0;
      new = subst (PartsFit g.A.Base.algebra c.ctx.inside.0 g.A.Base.CAP) (sym (first_taken after.0 after.1 (seen c.args.new.now) c.in_ok-after.ensures c.deref-2.result.now c.deref-2.ensures.value)) fit.1;
    }

pub widen_values-requires-2 : goal.widen_values-requires-2
widen_values-requires-2 g c =
    let before = c.in_ok-before.before in
    let after = c.in_ok-after.after in
    let fit = subst (λ k. PartsFit g.B.Base.algebra k.1 g.B.Base.CAP (seen c.args.old.now).1 × PartsFit g.B.Base.algebra k.1 g.B.Base.CAP (seen c.args.new.now).1) (sym c.ctx.view_is) c.requires.second in
    record {
      old = subst (PartsFit g.B.Base.algebra c.ctx.inside.1 g.B.Base.CAP) (sym (second_taken before.0 before.1 (seen c.args.old.now) c.in_ok-before.ensures c.deref-3.result.now c.deref-3.ensures.value)) fit.0;
      new = subst (PartsFit g.B.Base.algebra c.ctx.inside.1 g.B.Base.CAP) (sym (second_taken after.0 after.1 (seen c.args.new.now) c.in_ok-after.ensures c.deref-4.result.now c.deref-4.ensures.value)) fit.1;
    }

pub returns : goal.returns
returns g c =
    let A = g.A.Base.algebra in
    let B = g.B.Base.algebra in
    let m = g.A.Base.CAP in
    let n = g.B.Base.CAP in
    let k = c.ctx.inside in
    let before = c.in_ok-before.before in
    let after = c.in_ok-after.after in
    let x = seen c.args.old.now in
    let y = seen c.args.new.now in
    rw (← c.ctx.view_is) (ap₂ (λ p q. (p, q))
    (c.in_ok-first.ensures ∙ ap₂ (widen_parts A k.0) (first_taken before.0 before.1 x c.in_ok-before.ensures c.deref.result.now c.deref.ensures.value) (first_taken after.0 after.1 y c.in_ok-after.ensures c.deref-2.result.now c.deref-2.ensures.value))
    (c.in_ok-second.ensures ∙ ap₂ (widen_parts B k.1) (second_taken before.0 before.1 x c.in_ok-before.ensures c.deref-3.result.now c.deref-3.ensures.value) (second_taken after.0 after.1 y c.in_ok-after.ensures c.deref-4.result.now c.deref-4.ensures.value)))
