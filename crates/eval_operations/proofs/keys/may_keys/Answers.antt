use Rattle.abstract_map_laws.specs.Maps.{keys}
use Rattle.eval_operations.proofs.Picking.{filter_next}
use Rattle.eval_operations.proofs.keys.may_keys.Goals as goal

pub loop-place-preserved : goal.loop-place-preserved
loop-place-preserved g c =
    filter_next (g.B.Base.algebra.words.may c.args.ctx.now c.args.w c.args.x.now) (keys c.args.m.now) c.loop-place.listed.items c.push_if.new.picked.items c.loop-place.place c.key_at-key.result c.may.result
    c.key_at-key.ensures c.may.ensures.value c.in_ok-push_if.ensures c.loop-place.invariant
