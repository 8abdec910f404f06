use Rattle.std.proofs.Common.{map, ap₂, subst, sym, ◌∙◌}
use Rattle.std.specs.Prelude.{◌&&◌}
use Rattle.abstract_value_laws.specs.Abs.{parts}
use Rattle.abstract_value_laws.specs.Calls.{absorbs_parts}
use Rattle.abstract_value_laws.specs.Fits.{PartsFit}
use Rattle.abstract_value.specs.View.{abs}
use Rattle.domain_product_states.specs.Leaves.{AreLeaves}
use Rattle.domain_product_states.proofs.Seen.{apart_seen, together_seen}
use Rattle.domain_product_states.proofs.Values.{absorbs_both_parts, parts_both}
use Rattle.domain_product_states.proofs.Walks.{leaves_before}
use Rattle.domain_product_states.proofs.sides.absorbed_both.Goals as goal

pub values_absorb-requires : goal.values_absorb-requires
values_absorb-requires g c =
    let A = g.A.Base.algebra in
    let B = g.B.Base.algebra in
    let m = g.A.Base.CAP in
    let n = g.B.Base.CAP in
    let k = c.args.ctx.now in
    let left = together_seen c.args.old.now c.in-Together-Together.olds c.deref.result.now c.in-Together-Together.is-0 c.deref.ensures.value in
    let right = together_seen c.args.new.now c.in-Together-Together.news c.deref-in-Together-Together.result.now c.in-Together-Together.is-1 c.deref-in-Together-Together.ensures.value in
    record {
      old = parts_both A B k m n (parts (map abs c.deref.result.now)) (subst (λ p. PartsFit A k.0 m p.0) (sym left) c.requires.old.0) (subst (λ p. PartsFit B k.1 n p.1) (sym left) c.requires.old.1);
      new = parts_both A B k m n (parts (map abs c.deref-in-Together-Together.result.now)) (subst (λ p. PartsFit A k.0 m p.0) (sym right) c.requires.new.0) (subst (λ p. PartsFit B k.1 n p.1) (sym right) c.requires.new.1);
    }

pub returns-in-Together-Together : goal.returns-in-Together-Together
returns-in-Together-Together g c =
    let A = g.A.Base.algebra in
    let B = g.B.Base.algebra in
    let k = c.args.ctx.now in
    let left = together_seen c.args.old.now c.in-Together-Together.olds c.deref.result.now c.in-Together-Together.is-0 c.deref.ensures.value in
    let right = together_seen c.args.new.now c.in-Together-Together.news c.deref-in-Together-Together.result.now c.in-Together-Together.is-1 c.deref-in-Together-Together.ensures.value in
    c.values_absorb.ensures ∙ absorbs_both_parts A B k (parts (map abs c.deref.result.now)) (parts (map abs c.deref-in-Together-Together.result.now))
    ∙ ap₂ (λ p q. absorbs_parts A k.0 p.0 q.0 && absorbs_parts B k.1 p.1 q.1) left right

pub absorbed_over-requires : goal.absorbed_over-requires
absorbed_over-requires g c =
    let A = g.A.Base.algebra in
    let B = g.B.Base.algebra in
    let m = g.A.Base.CAP in
    let n = g.B.Base.CAP in
    let k = c.args.ctx.now in
    let left = together_seen c.args.old.now c.in-Together-Apart.olds c.deref-in-Together-Apart.result.now c.in-Together-Apart.is-0 c.deref-in-Together-Apart.ensures.value in
    let right = apart_seen c.args.new.now c.in-Together-Apart.xs c.in-Together-Apart.ys c.deref-in-Together-Apart-2.result.now c.deref-in-Together-Apart-3.result.now c.in-Together-Apart.is-1 c.deref-in-Together-Apart-2.ensures.value c.deref-in-Together-Apart-3.ensures.value in
    record {
      leaves = leaves_before (λ x. x.0) (λ x. x.0) (parts (map abs c.deref-in-Together-Apart.result.now)) (subst (λ p. AreLeaves p.0) (sym left) c.requires.leaves.0);
      old = (subst (λ p. PartsFit A k.0 m p.0) (sym left) c.requires.old.0, subst (λ p. PartsFit B k.1 n p.1) (sym left) c.requires.old.1);
      new = (subst (λ p. PartsFit A k.0 m p.0) (sym right) c.requires.new.0, subst (λ p. PartsFit B k.1 n p.1) (sym right) c.requires.new.1);
    }

pub returns-in-Together-Apart : goal.returns-in-Together-Apart
returns-in-Together-Apart g c =
    let A = g.A.Base.algebra in
    let B = g.B.Base.algebra in
    let k = c.args.ctx.now in
    let left = together_seen c.args.old.now c.in-Together-Apart.olds c.deref-in-Together-Apart.result.now c.in-Together-Apart.is-0 c.deref-in-Together-Apart.ensures.value in
    let right = apart_seen c.args.new.now c.in-Together-Apart.xs c.in-Together-Apart.ys c.deref-in-Together-Apart-2.result.now c.deref-in-Together-Apart-3.result.now c.in-Together-Apart.is-1 c.deref-in-Together-Apart-2.ensures.value c.deref-in-Together-Apart-3.ensures.value in
    c.absorbed_over.ensures ∙ ap₂ (λ p q. absorbs_parts A k.0 p.0 q.0 && absorbs_parts B k.1 p.1 q.1) left right

pub absorbed_under-requires : goal.absorbed_under-requires
absorbed_under-requires g c =
    let A = g.A.Base.algebra in
    let B = g.B.Base.algebra in
    let m = g.A.Base.CAP in
    let n = g.B.Base.CAP in
    let k = c.args.ctx.now in
    let left = apart_seen c.args.old.now c.in-Apart-Together.xs c.in-Apart-Together.ys c.deref-in-Apart-Together.result.now c.deref-in-Apart-Together-2.result.now c.in-Apart-Together.is-0 c.deref-in-Apart-Together.ensures.value c.deref-in-Apart-Together-2.ensures.value in
    let right = together_seen c.args.new.now c.in-Apart-Together.news c.deref-in-Apart-Together-3.result.now c.in-Apart-Together.is-1 c.deref-in-Apart-Together-3.ensures.value in
    record {
      leaves = (subst (λ p. AreLeaves p.0) (sym left) c.requires.leaves.0, subst (λ p. AreLeaves p.1) (sym left) c.requires.leaves.1);
      old = (subst (λ p. PartsFit A k.0 m p.0) (sym left) c.requires.old.0, subst (λ p. PartsFit B k.1 n p.1) (sym left) c.requires.old.1);
      new = (subst (λ p. PartsFit A k.0 m p.0) (sym right) c.requires.new.0, subst (λ p. PartsFit B k.1 n p.1) (sym right) c.requires.new.1);
    }

pub returns-in-Apart-Together : goal.returns-in-Apart-Together
returns-in-Apart-Together g c =
    let A = g.A.Base.algebra in
    let B = g.B.Base.algebra in
    let k = c.args.ctx.now in
    let left = apart_seen c.args.old.now c.in-Apart-Together.xs c.in-Apart-Together.ys c.deref-in-Apart-Together.result.now c.deref-in-Apart-Together-2.result.now c.in-Apart-Together.is-0 c.deref-in-Apart-Together.ensures.value c.deref-in-Apart-Together-2.ensures.value in
    let right = together_seen c.args.new.now c.in-Apart-Together.news c.deref-in-Apart-Together-3.result.now c.in-Apart-Together.is-1 c.deref-in-Apart-Together-3.ensures.value in
    c.absorbed_under.ensures ∙ ap₂ (λ p q. absorbs_parts A k.0 p.0 q.0 && absorbs_parts B k.1 p.1 q.1) left right

pub absorbed_apart-requires : goal.absorbed_apart-requires
absorbed_apart-requires g c =
    let A = g.A.Base.algebra in
    let B = g.B.Base.algebra in
    let m = g.A.Base.CAP in
    let n = g.B.Base.CAP in
    let k = c.args.ctx.now in
    let left = apart_seen c.args.old.now c.in-Apart-Apart.xs c.in-Apart-Apart.ys c.deref-in-Apart-Apart.result.now c.deref-in-Apart-Apart-2.result.now c.in-Apart-Apart.is-0 c.deref-in-Apart-Apart.ensures.value c.deref-in-Apart-Apart-2.ensures.value in
    let right = apart_seen c.args.new.now c.in-Apart-Apart.us c.in-Apart-Apart.vs c.deref-in-Apart-Apart-3.result.now c.deref-in-Apart-Apart-4.result.now c.in-Apart-Apart.is-1 c.deref-in-Apart-Apart-3.ensures.value c.deref-in-Apart-Apart-4.ensures.value in
    record {
      old = (subst (λ p. PartsFit A k.0 m p.0) (sym left) c.requires.old.0, subst (λ p. PartsFit B k.1 n p.1) (sym left) c.requires.old.1);
      new = (subst (λ p. PartsFit A k.0 m p.0) (sym right) c.requires.new.0, subst (λ p. PartsFit B k.1 n p.1) (sym right) c.requires.new.1);
    }

pub returns-in-Apart-Apart : goal.returns-in-Apart-Apart
returns-in-Apart-Apart g c =
    let A = g.A.Base.algebra in
    let B = g.B.Base.algebra in
    let k = c.args.ctx.now in
    let left = apart_seen c.args.old.now c.in-Apart-Apart.xs c.in-Apart-Apart.ys c.deref-in-Apart-Apart.result.now c.deref-in-Apart-Apart-2.result.now c.in-Apart-Apart.is-0 c.deref-in-Apart-Apart.ensures.value c.deref-in-Apart-Apart-2.ensures.value in
    let right = apart_seen c.args.new.now c.in-Apart-Apart.us c.in-Apart-Apart.vs c.deref-in-Apart-Apart-3.result.now c.deref-in-Apart-Apart-4.result.now c.in-Apart-Apart.is-1 c.deref-in-Apart-Apart-3.ensures.value c.deref-in-Apart-Apart-4.ensures.value in
    c.absorbed_apart.ensures ∙ ap₂ (λ p q. absorbs_parts A k.0 p.0 q.0 && absorbs_parts B k.1 p.1 q.1) left right
