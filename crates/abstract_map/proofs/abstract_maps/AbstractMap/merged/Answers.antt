use Rattle.abstract_map_laws.specs.Calls.{merged}
use Rattle.abstract_map.proofs.Whole.{merged_is, merged_unfolded, unfolded_at}
use Rattle.abstract_map.proofs.abstract_maps.AbstractMap.merged.Goals as goal

pub returns-in-Ok : goal.returns-in-Ok
returns-in-Ok g c =
    let B = g.B.Base.algebra in
    let ctx = c.args.ctx.now in
    let m = c.args.self.now in
    let n = c.args.other.now in
    let same = merged_is B ctx _ _ m n c.in_ok-rest.rest c.in-Ok.cells c.self.view_is c.other.view_is c.in_ok-rest.ensures.value c.in-Ok.ensures.value in
    record {
      value = same;
      fits = unfolded_at B ctx _ (merged B ctx m n) same (merged_unfolded B ctx g.met.B.Base.laws g.B.Base.CAP m n c.requires.left c.requires.right c.requires.width);
    }
