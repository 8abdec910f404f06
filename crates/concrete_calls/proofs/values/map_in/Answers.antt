use Rattle.std.proofs.Common.{◌∙◌}
use Rattle.concrete_calls.proofs.Views.{cell_more}
use Rattle.concrete_calls.proofs.values.map_in.Goals as goal

pub loop-place-preserved : goal.loop-place-preserved
loop-place-preserved c =
    cell_more c.args.m.now c.loop-place.cells.items c.push.new.self.items c.loop-place.place _ c.key_at.result (record { word = c.cell_at.result.0.now; note = c.cell_at.result.1.now }) c.loop-place.invariant c.cell_at.ensures c.key_at.ensures c.in_ok-push.ensures.items
