use Rattle.std.proofs.Common.{◌≡◌, [], ◌∷◌, map, sym, ap, ◌∙◌, rules}
use Rattle.std.specs.Prelude.{option_map}
use Rattle.abstract_value.specs.View.{abs, cases_of}
use Rattle.abstract_value.proofs.Views.{abs_Data}
use Rattle.abstract_semantics.specs.Choices as choices
use Rattle.eval_operations.proofs.places.field_of.Goals as goal

pub returns-in-Data : goal.returns-in-Data
returns-in-Data g c =
    let here : option_map (λ v. abs v.now) c.field_in.result ≡ choices.abs_in [] c.args.step.now.0 c.args.step.now.1 (cases_of c.in-Data.cases) = search rules in
    here ∙ sym (ap (λ x. choices.abs_at (c.args.step.now ∷ []) x) (ap abs c.in-Data.is ∙ abs_Data c.in-Data._ty c.in-Data.cases))
