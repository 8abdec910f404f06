use Rattle.std.proofs.Common.{sym, subst}
use Rattle.abstract_map_laws.specs.Cells.{CellFits}
use Rattle.abstract_map.proofs.abstract_maps.AbstractMap.update.Goals as goal

pub joined_at-requires-clause-cell : goal.joined_at-requires-clause-cell
joined_at-requires-clause-cell g c = subst (λ x. CellFits g.B.Base.algebra c.args.ctx.now c.args.self.now.width x) (sym c.in_ok-cell-in-Some.ensures.value) c.requires.word
