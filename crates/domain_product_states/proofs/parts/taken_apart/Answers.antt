use Rattle.std.proofs.Common.{◌≡◌, map, sym, subst, ◌∙◌}
use Rattle.abstract_value_laws.specs.Abs.{parts}
use Rattle.abstract_value_laws.specs.Fits.{PartsFit}
use Rattle.abstract_map.proofs.Whole.{if_ok}
use Rattle.abstract_value.specs.View.{abs}
use Rattle.domain_product_states.specs.Parts.{both_parts}
use Rattle.domain_product_states.specs.Views.{apart, seen}
use Rattle.domain_product_states.proofs.Seen.{apart_seen, together_seen}
use Rattle.domain_product_states.proofs.parts.taken_apart.Goals as goal

pub projected-requires : goal.projected-requires
projected-requires g c =
    let here = together_seen c.args.x.now c.in-Together.values c.deref.result.now c.in-Together.is c.deref.ensures.value in
    record {
      first = subst (λ p. PartsFit g.A.Base.algebra c.args.ctx.now.0 g.A.Base.CAP p.0) (sym here) c.requires.first;
      second = subst (λ p. PartsFit g.B.Base.algebra c.args.ctx.now.1 g.B.Base.CAP p.1) (sym here) c.requires.second;
    }

pub returns-in-Together : goal.returns-in-Together
returns-in-Together g c =
    if_ok (λ r. apart r.0.items r.1.items ≡ both_parts (parts (map abs c.deref.result.now))) (λ r. apart r.0.items r.1.items ≡ seen c.args.x.now) c.projected.result
    (λ r h. h ∙ together_seen c.args.x.now c.in-Together.values c.deref.result.now c.in-Together.is c.deref.ensures.value) c.projected.ensures

pub returns-in-Apart : goal.returns-in-Apart
returns-in-Apart g c =
    if_ok (λ r. apart r.0.items r.1.items ≡ apart c.deref-in-Apart.result.now c.deref-in-Apart-2.result.now) (λ r. apart r.0.items r.1.items ≡ seen c.args.x.now) c.both_copies.result
    (λ r h. h ∙ apart_seen c.args.x.now c.in-Apart.xs c.in-Apart.ys c.deref-in-Apart.result.now c.deref-in-Apart-2.result.now c.in-Apart.is c.deref-in-Apart.ensures.value c.deref-in-Apart-2.ensures.value) c.both_copies.ensures
