use Rattle.std.proofs.Common.{◌≡◌, None, Some, get_or, option_map, ap, sym, ◌∙◌}
use Rattle.abstract_value.specs.Constructors.{spread}
use Rattle.test_affine_text.proofs.Values.{first_fit}
use Rattle.test_affine_text.proofs.changes.first_fields.Goals as goal

pub copies-requires : goal.copies-requires
copies-requires c =
    let found : get_or (spread c.args.cases.now) 0 None ≡ Some c.in-Some.fields.now = sym c.fields.ensures ∙ ap (λ o. option_map (λ f. f.now) o) c.in-Some.is in
    first_fit c.args.ctx.now (spread c.args.cases.now) c.in-Some.fields.now found c.requires
