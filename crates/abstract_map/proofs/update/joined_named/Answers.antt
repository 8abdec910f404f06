use Rattle.std.proofs.Common.{◌∙◌, ap, map, cond}
use Rattle.abstract_map_laws.specs.Cells.{join_cells}
use Rattle.abstract_map_laws.specs.Keys.{has_key}
use Rattle.abstract_map_laws.proofs.Joining.{take_all}
use Rattle.abstract_map.proofs.Named.{changed_more, changed_none}
use Rattle.abstract_map.proofs.update.joined_named.Goals as goal

pub loop-key-init : goal.loop-key-init
loop-key-init g c = c.in_ok-out.ensures ∙ changed_none (λ y. join_cells g.B.Base.algebra c.args.ctx.now c.args.w y c.args.cell.now) c.args.cells.now

pub loop-key-preserved : goal.loop-key-preserved
loop-key-preserved g c =
    changed_more (λ y. join_cells g.B.Base.algebra c.args.ctx.now c.args.w y c.args.cell.now) c.args.named.now c.loop-key.key-index 0 c.args.cells.now c.loop-key.out c.in_ok-out-2.out c.loop-key-test.true c.requires.order c.loop-key.invariant
    c.in_ok-out-2.ensures.value

pub returns : goal.returns
returns g c = record {
  value = c.loop-key.invariant ∙ ap (λ l. map (λ e. (e.0, cond (has_key l e.0) (join_cells g.B.Base.algebra c.args.ctx.now c.args.w e.1 c.args.cell.now) e.1)) c.args.cells.now) (take_all c.loop-key.key-index c.args.named.now c.loop-key-test.false);
}
