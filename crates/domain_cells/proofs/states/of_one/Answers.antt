use Rattle.std.proofs.Common.{◌≡◌, None, Some, get_or, length, option_map, ap, sym, subst, ◌∙◌}
use Rattle.abstract_value.specs.Constructors.{spread}
use Rattle.domain_cells.proofs.Lists.{none_is, not_one, one_is}
use Rattle.domain_cells.proofs.states.of_one.Goals as goal

pub returns-then-len-ne1 : goal.returns-then-len-ne1
returns-then-len-ne1 g c = sym (not_one (spread c.args.cases.now) (λ e. c.if-len-ne1.true (c.len.ensures ∙ e)))

pub returns-in-Some : goal.returns-in-Some
returns-in-Some g c =
    let cs = spread c.args.cases.now in
    let found : get_or cs 0 None ≡ Some c.in-Some.fields.now = sym c.fields.ensures ∙ ap (λ o. option_map (λ f. f.now) o) c.in-Some.is in
    one_is cs c.in-Some.fields.now c.behind_first.result.now (sym c.len.ensures ∙ c.if-len-ne1.false) found c.behind_first.ensures

pub returns-in-None : goal.returns-in-None
returns-in-None g c =
    let cs = spread c.args.cases.now in
    let none : get_or cs 0 None ≡ None = sym c.fields.ensures ∙ ap (λ o. option_map (λ f. f.now) o) c.in-None.is in
    none_is cs (sym c.len.ensures ∙ c.if-len-ne1.false) none
