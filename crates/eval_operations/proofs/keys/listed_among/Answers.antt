use Rattle.abstract_map_laws.specs.Keys.{has_key}
use Rattle.abstract_map_laws.specs.Maps.{keys}
use Rattle.eval_operations.proofs.Picking.{filter_next}
use Rattle.eval_operations.proofs.keys.listed_among.Goals as goal

pub loop-place-preserved : goal.loop-place-preserved
loop-place-preserved g c =
    filter_next (has_key c.args.others.now) (keys c.args.m.now) c.loop-place.listed.items c.push_if.new.picked.items c.loop-place.place c.key_at-key.result c.contains.result
    c.key_at-key.ensures c.contains.ensures.value c.in_ok-push_if.ensures c.loop-place.invariant
