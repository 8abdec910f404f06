use Rattle.std.proofs.Common.{◌≤◌, sym, ◌∙◌, ap, subst}
use Rattle.std.proofs.lemmas.Result.{IfOk-weaker}
use Rattle.base_trait.specs.Lists.{Each}
use Rattle.base_kset.specs.Sets.{items_or_none, union}
use Rattle.text_words.proofs.SetsGrown.{grown_greatest, union_grown}
use Rattle.text_words.proofs.sets.with_greatest.Goals as goal

pub returns-clause-value : goal.returns-clause-value
returns-clause-value g c =
    IfOk-weaker c.join.result _ _
    (λ r p. p ∙ ap (union g.row.K c.args.set.now) c.in_ok-one.ensures.value ∙ union_grown g.row.K c.args.w c.args.number c.args.set.now c.requires.set c.requires.greatest)
    c.join.ensures.value

pub returns-clause-greatest : goal.returns-clause-greatest
returns-clause-greatest g c =
    IfOk-weaker c.join.result _ _
    (λ r p. subst (λ s. Each (λ n. n ≤ c.args.number) (items_or_none s))
    (sym (p ∙ ap (union g.row.K c.args.set.now) c.in_ok-one.ensures.value ∙ union_grown g.row.K c.args.w c.args.number c.args.set.now c.requires.set c.requires.greatest))
    (grown_greatest g.row.K c.args.number c.args.set.now c.requires.greatest))
    c.join.ensures.value
