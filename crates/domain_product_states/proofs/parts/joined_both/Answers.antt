use Rattle.std.proofs.Common.{◌≡◌, map, sym, subst, ap₂, ◌∙◌}
use Rattle.abstract_value_laws.specs.Abs.{parts}
use Rattle.abstract_value_laws.specs.Calls.{join_parts}
use Rattle.abstract_value_laws.specs.Fits.{PartsFit}
use Rattle.abstract_map.proofs.Whole.{if_ok}
use Rattle.abstract_value.specs.View.{abs}
use Rattle.domain_product_states.specs.Parts.{both_parts}
use Rattle.domain_product_states.specs.Views.{seen}
use Rattle.domain_product_states.proofs.Seen.{together_seen}
use Rattle.domain_product_states.proofs.parts.joined_both.Goals as goal

pub joined_together-requires-clause-first : goal.joined_together-requires-clause-first
joined_together-requires-clause-first g c =
    let left = together_seen c.args.x.now c.in-Together-Together.xs c.deref.result.now c.in-Together-Together.is-0 c.deref.ensures.value in
    let right = together_seen c.args.y.now c.in-Together-Together.ys c.deref-in-Together-Together.result.now c.in-Together-Together.is-1 c.deref-in-Together-Together.ensures.value in
    (subst (λ p. PartsFit g.A.Base.algebra c.args.ctx.now.0 g.A.Base.CAP p.0) (sym left) c.requires.first.0, subst (λ p. PartsFit g.A.Base.algebra c.args.ctx.now.0 g.A.Base.CAP p.0) (sym right) c.requires.first.1)

pub joined_together-requires-clause-second : goal.joined_together-requires-clause-second
joined_together-requires-clause-second g c =
    let left = together_seen c.args.x.now c.in-Together-Together.xs c.deref.result.now c.in-Together-Together.is-0 c.deref.ensures.value in
    let right = together_seen c.args.y.now c.in-Together-Together.ys c.deref-in-Together-Together.result.now c.in-Together-Together.is-1 c.deref-in-Together-Together.ensures.value in
    (subst (λ p. PartsFit g.B.Base.algebra c.args.ctx.now.1 g.B.Base.CAP p.1) (sym left) c.requires.second.0, subst (λ p. PartsFit g.B.Base.algebra c.args.ctx.now.1 g.B.Base.CAP p.1) (sym right) c.requires.second.1)

pub returns-in-Together-Together : goal.returns-in-Together-Together
returns-in-Together-Together g c =
    let A = g.A.Base.algebra in
    let B = g.B.Base.algebra in
    let m = g.A.Base.CAP in
    let n = g.B.Base.CAP in
    let k = c.args.ctx.now in
    let x = both_parts (parts (map abs c.deref.result.now)) in
    let y = both_parts (parts (map abs c.deref-in-Together-Together.result.now)) in
    let left = together_seen c.args.x.now c.in-Together-Together.xs c.deref.result.now c.in-Together-Together.is-0 c.deref.ensures.value in
    let right = together_seen c.args.y.now c.in-Together-Together.ys c.deref-in-Together-Together.result.now c.in-Together-Together.is-1 c.deref-in-Together-Together.ensures.value in
    if_ok (λ r. seen r ≡ (join_parts A k.0 m x.0 y.0, join_parts B k.1 n x.1 y.1)) (λ r. seen r ≡ (join_parts A k.0 m (seen c.args.x.now).0 (seen c.args.y.now).0, join_parts B k.1 n (seen c.args.x.now).1 (seen c.args.y.now).1)) c.joined_together.result
    (λ r h. h ∙ ap₂ (λ p q. (join_parts A k.0 m p.0 q.0, join_parts B k.1 n p.1 q.1)) left right) c.joined_together.ensures
