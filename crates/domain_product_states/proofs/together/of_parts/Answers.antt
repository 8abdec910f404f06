use Rattle.std.proofs.Common.{map, max, subst, sym, ap, ap₂, ◌∙◌}
use Rattle.abstract_value_laws.specs.Abs.{parts}
use Rattle.abstract_value_laws.specs.Fits.{PartsFit}
use Rattle.abstract_value.specs.View.{abs}
use Rattle.domain_product_laws.specs.Calls.{zip_parts}
use Rattle.domain_product_laws.proofs.Values.{PartsMeet}
use Rattle.domain_product_states.specs.Alike.{AreAlike}
use Rattle.domain_product_states.specs.Parts.{both_parts}
use Rattle.domain_product_states.proofs.Alike.{alike_meet, apart_again}
use Rattle.domain_product_states.proofs.together.of_parts.Goals as goal

pub zip_values-requires : goal.zip_values-requires
zip_values-requires g c =
    let xs = c.args.xs.items in
    let ys = c.args.ys.items in
    let alike = subst (λ l. AreAlike (parts (map abs l)) (parts (map abs ys))) c.deref.ensures.value (subst (λ l. AreAlike (parts (map abs c.deref.result.now)) (parts (map abs l))) c.deref-2.ensures.value (c.are_alike.ensures c.if-not-are_alike.false)) in
    record {
      left = subst (λ l. PartsFit g.A.Base.algebra c.args.ctx.now.0 g.A.Base.CAP (parts (map abs l))) (sym c.deref-3.ensures.value) c.requires.first;
      right = subst (λ l. PartsFit g.B.Base.algebra c.args.ctx.now.1 g.B.Base.CAP (parts (map abs l))) (sym c.deref-4.ensures.value) c.requires.second;
      widths = subst (λ l. PartsMeet (parts (map abs l)) (parts (map abs c.deref-4.result.now))) (sym c.deref-3.ensures.value) (subst (λ l. PartsMeet (parts (map abs xs)) (parts (map abs l))) (sym c.deref-4.ensures.value) (alike_meet (parts (map abs xs)) (parts (map abs ys)) alike));
    }

pub returns : goal.returns
returns g c =
    let A = g.A.Base.algebra in
    let B = g.B.Base.algebra in
    let m = g.A.Base.CAP in
    let n = g.B.Base.CAP in
    let k = c.args.ctx.now in
    let xs = c.args.xs.items in
    let ys = c.args.ys.items in
    let alike = subst (λ l. AreAlike (parts (map abs l)) (parts (map abs ys))) c.deref.ensures.value (subst (λ l. AreAlike (parts (map abs c.deref.result.now)) (parts (map abs l))) c.deref-2.ensures.value (c.are_alike.ensures c.if-not-are_alike.false)) in
    ap (λ z. both_parts z) (c.in_ok-values.ensures.value ∙ ap₂ (λ p q. zip_parts A B k (max m n) (parts (map abs p)) (parts (map abs q))) c.deref-3.ensures.value c.deref-4.ensures.value)
    ∙ apart_again A B k m n (parts (map abs xs)) (parts (map abs ys)) alike c.requires.first
