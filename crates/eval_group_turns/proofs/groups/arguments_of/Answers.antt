use Rattle.std.proofs.Common.{◌≡◌, ◌<◌, ◌≤◌, Some, None, length, sym, ap, refl, ◌∙◌, rules}
use Rattle.std.specs.Prelude.{slice_get}
use Rattle.std.proofs.lemmas.Option.{slice_get_past, slice_get_read}
use Rattle.eval_group_turns.proofs.Functions.{held_in, held_there}
use Rattle.eval_group_turns.proofs.groups.arguments_of.Goals as goal

pub returns-in-Some-Some : goal.returns-in-Some-Some
returns-in-Some-Some g c =
    let within : c.args.fun < length c.args.args.now = search rules in
    let found : slice_get c.args.args.now c.args.fun ≡ Some (Some c.in-Some-Some.xs) = slice_get_read c.args.args.now (length c.args.args.now) c.args.fun (Some c.in-Some-Some.xs) refl within (search rules) in
    sym (held_there c.args.fun c.args.args.now ∙ ap held_in found)

pub returns-in-Some-None : goal.returns-in-Some-None
returns-in-Some-None g c =
    let within : c.args.fun < length c.args.args.now = search rules in
    let found : slice_get c.args.args.now c.args.fun ≡ Some None = slice_get_read c.args.args.now (length c.args.args.now) c.args.fun None refl within (search rules) in
    sym (held_there c.args.fun c.args.args.now ∙ ap held_in found)

pub returns-in-None : goal.returns-in-None
returns-in-None g c =
    let past : length c.args.args.now ≤ c.args.fun = search rules in
    sym (held_there c.args.fun c.args.args.now ∙ ap held_in (slice_get_past c.args.args.now c.args.fun past))
