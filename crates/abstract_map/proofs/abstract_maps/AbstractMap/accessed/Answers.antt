use Rattle.std.proofs.Common.{◌≡◌, refl, ◌∙◌}
use Rattle.abstract_map_laws.specs.Cells.{CellFits}
use Rattle.abstract_map.proofs.ByKey.{fits_at}
use Rattle.abstract_map.proofs.Whole.{if_ok}
use Rattle.abstract_map.proofs.abstract_maps.AbstractMap.accessed.Goals as goal

pub returns-in-One-clause-fits : goal.returns-in-One-clause-fits
returns-in-One-clause-fits g c =
    let m = c.args.self.now in
    if_ok (λ r. r ≡ c.cell.result.now) (λ r. CellFits g.B.Base.algebra c.args.ctx.now m.width r) c.copy_cell.result
    (λ x e. fits_at g.B.Base.algebra c.args.ctx.now g.B.Base.CAP m.width m c.in-One.key x refl c.requires.map (e ∙ c.cell.ensures.value)) c.copy_cell.ensures.value
