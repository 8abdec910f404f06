use Rattle.std.proofs.Common.{◌<◌, ◌≤◌, length, sym, ap, ◌∙◌, rules}
use Rattle.std.specs.Prelude.{option_map}
use Rattle.std.proofs.lemmas.Option.{slice_get-map, slice_get_past}
use Rattle.abstract_value.specs.View.{abs}
use Rattle.eval_group_turns.proofs.Items.{item_seen}
use Rattle.eval_group_turns.proofs.lists.other_at.Goals as goal

pub returns-in-Some : goal.returns-in-Some
returns-in-Some g c =
    let within : c.args.i < length c.args.ys.now = search rules in
    sym (item_seen abs c.args.ys.now c.args.i c.in-Some.y.now within c.in-Some.ensures.lookup.1)

pub returns-in-None : goal.returns-in-None
returns-in-None g c =
    let past : length c.args.ys.now ≤ c.args.i = search rules in
    sym (slice_get-map abs c.args.ys.now c.args.i ∙ ap (option_map abs) (slice_get_past c.args.ys.now c.args.i past))
