use Rattle.std.proofs.Common.{◌≡◌, sym, subst, ap, ◌∙◌, rules}
use Rattle.domain_laws.specs.declared.field.Field.TheVariants.{Map}
use Rattle.domain_laws.specs.Values.{IsOf}
use Rattle.abstract_value.specs.View.{abs}
use Rattle.abstract_value.proofs.Views.{abs_Map}
use Rattle.test_affine_text.proofs.forms.is_of.Goals as goal

pub returns-else-width : goal.returns-else-width
returns-else-width c h =
    let of = c.in-Map-Map in
    let same : of.n ≡ of.map = search rules in
    let wide : of.m.width ≡ of.width = search rules in
    subst (λ f. IsOf f (abs c.args.value.now)) (sym of.is-0) (subst (λ v. IsOf (Map of.map of.keys of.width of._default) v) (sym (ap abs of.is-1 ∙ abs_Map _ _ of.n of.m)) (same, wide, c.lists_below.ensures h))
