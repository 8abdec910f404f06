use Rattle.std.proofs.Common.{◌<◌, ◌≤◌, length, sym, refl, rules}
use Rattle.std.proofs.lemmas.Option.{slice_get_past, slice_get_read}
use Rattle.eval_operations.proofs.items.item_at.Goals as goal

pub returns-in-Some : goal.returns-in-Some
returns-in-Some g c =
    let within : c.args.place < length c.args.items.now = search rules in
    sym (slice_get_read c.args.items.now (length c.args.items.now) c.args.place c.in-Some.item.now refl within c.in-Some.ensures.lookup.1)

pub returns-in-None : goal.returns-in-None
returns-in-None g c =
    let past : length c.args.items.now ≤ c.args.place = search rules in
    sym (slice_get_past c.args.items.now c.args.place past)
