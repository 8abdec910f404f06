use Rattle.std.proofs.Common.{◌+◌, ◌-◌, ◌^◌, map, min, sym, subst, ap, ◌∙◌}
use Rattle.abstract_value_laws.specs.Abs.{parts}
use Rattle.abstract_value_laws.specs.Fits.{PartsFit}
use Rattle.domain_laws.specs.Calls.{values_rank}
use Rattle.abstract_value.specs.View.{abs}
use Rattle.domain_product_states.specs.Leaves.{AreLeaves}
use Rattle.domain_product_states.proofs.Made.{together_ranked}
use Rattle.domain_product_states.proofs.Seen.{apart_seen, together_seen}
use Rattle.domain_product_states.proofs.Values.{parts_both}
use Rattle.domain_product_states.proofs.parts.ranked_both.Goals as goal

pub rank_of_values-requires : goal.rank_of_values-requires
rank_of_values-requires g c =
    let here = together_seen c.args.x.now c.in-Together.values c.deref.result.now c.in-Together.is c.deref.ensures.value in
    record {
      fits = parts_both g.A.Base.algebra g.B.Base.algebra c.args.ctx.now g.A.Base.CAP g.B.Base.CAP (parts (map abs c.deref.result.now))
          (subst (λ p. PartsFit g.A.Base.algebra c.args.ctx.now.0 g.A.Base.CAP p.0) (sym here) c.requires.first) (subst (λ p. PartsFit g.B.Base.algebra c.args.ctx.now.1 g.B.Base.CAP p.1) (sym here) c.requires.second);
    }

pub returns-in-Together : goal.returns-in-Together
returns-in-Together g c =
    let here = together_seen c.args.x.now c.in-Together.values c.deref.result.now c.in-Together.is c.deref.ensures.value in
    together_ranked g.A.Base.algebra g.B.Base.algebra c.args.ctx.now (parts (map abs c.deref.result.now)) c.rank_of_values.result (2 ^ 64 - 1) (subst (λ p. AreLeaves p.0) (sym here) c.requires.leaves) c.rank_of_values.ensures
    ∙ ap (λ p. min (values_rank g.A.Base.algebra c.args.ctx.now.0 p.0 + values_rank g.B.Base.algebra c.args.ctx.now.1 p.1) (2 ^ 64 - 1)) here

pub ranked_apart-requires : goal.ranked_apart-requires
ranked_apart-requires g c =
    let here = apart_seen c.args.x.now c.in-Apart.xs c.in-Apart.ys c.deref-in-Apart.result.now c.deref-in-Apart-2.result.now c.in-Apart.is c.deref-in-Apart.ensures.value c.deref-in-Apart-2.ensures.value in
    record {
      first = subst (λ p. PartsFit g.A.Base.algebra c.args.ctx.now.0 g.A.Base.CAP p.0) (sym here) c.requires.first;
      second = subst (λ p. PartsFit g.B.Base.algebra c.args.ctx.now.1 g.B.Base.CAP p.1) (sym here) c.requires.second;
    }

pub returns-in-Apart : goal.returns-in-Apart
returns-in-Apart g c =
    let here = apart_seen c.args.x.now c.in-Apart.xs c.in-Apart.ys c.deref-in-Apart.result.now c.deref-in-Apart-2.result.now c.in-Apart.is c.deref-in-Apart.ensures.value c.deref-in-Apart-2.ensures.value in
    c.ranked_apart.ensures ∙ ap (λ p. min (values_rank g.A.Base.algebra c.args.ctx.now.0 p.0 + values_rank g.B.Base.algebra c.args.ctx.now.1 p.1) (2 ^ 64 - 1)) here
