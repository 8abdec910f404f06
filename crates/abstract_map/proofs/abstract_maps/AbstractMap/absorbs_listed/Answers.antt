use Rattle.std.proofs.Common.{refl}
use Rattle.abstract_map_laws.specs.Cells.{absorbs_cell}
use Rattle.abstract_map_laws.specs.Maps.{cell}
use Rattle.abstract_map.proofs.ByKey.{first_test, second_test}
use Rattle.abstract_map.proofs.abstract_maps.AbstractMap.absorbs_listed.Goals as goal

pub returns-then-absorbs_at : goal.returns-then-absorbs_at
returns-then-absorbs_at g c =
    let m = c.args.self.now in
    let n = c.args.new.now in
    record {
      value = second_test (λ k. absorbs_cell g.B.Base.algebra c.args.ctx.now m.width (cell m k) (cell n k)) m n m n _ _ c.absorbs_at.result c.absorbs_at-then-absorbs_at.result
          refl refl c.root-old_cells.ensures.value c.root-new_cells.ensures.value c.absorbs_at.ensures.value c.absorbs_at-then-absorbs_at.ensures.value c.if-absorbs_at.true;
    }

pub returns-else-absorbs_at : goal.returns-else-absorbs_at
returns-else-absorbs_at g c =
    let m = c.args.self.now in
    let n = c.args.new.now in
    record {
      value = first_test (λ k. absorbs_cell g.B.Base.algebra c.args.ctx.now m.width (cell m k) (cell n k)) m n m n _ n.cells c.absorbs_at.result c.absorbs_at.result
          refl c.root-old_cells.ensures.value c.absorbs_at.ensures.value c.if-absorbs_at.false;
    }
