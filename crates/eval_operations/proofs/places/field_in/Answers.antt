use Rattle.std.proofs.Common.{◌≡◌, Some, None, get_or, option_map, sym, ap, ◌∙◌, rules}
use Rattle.abstract_value.specs.Constructors.{spread}
use Rattle.abstract_value.specs.View.{abs}
use Rattle.eval_operations.proofs.Steps.{case_there, field_in, seen_there}
use Rattle.eval_operations.proofs.places.field_in.Goals as goal

pub returns-in-Some : goal.returns-in-Some
returns-in-Some g c =
    let cases = spread c.args.cases.now in
    let found : get_or cases c.args.case None ≡ Some c.in-Some.fields.now = sym c.fields.ensures ∙ ap (λ o. option_map (λ f. f.now) o) c.in-Some.is in
    seen_there (λ v. abs v) c.item_at.result c.in-Some.fields.now c.args.field (search rules)
    ∙ sym (case_there c.args.case c.args.field cases ∙ ap (field_in c.args.field) found)

pub returns-in-None : goal.returns-in-None
returns-in-None g c =
    let cases = spread c.args.cases.now in
    let none : get_or cases c.args.case None ≡ None = sym c.fields.ensures ∙ ap (λ o. option_map (λ f. f.now) o) c.in-None.is in
    sym (case_there c.args.case c.args.field cases ∙ ap (field_in c.args.field) none)
