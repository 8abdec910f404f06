use Rattle.std.proofs.Common.{sym, subst}
use Rattle.abstract_map_laws.specs.Maps.{Fits}
use Rattle.abstract_map_laws.proofs.Fitting.{widen_fits}
use Rattle.abstract_map.proofs.Whole.{widened_is}
use Rattle.abstract_map.proofs.abstract_maps.AbstractMap.widen.Goals as goal

pub returns-in-Ok : goal.returns-in-Ok
returns-in-Ok g c =
    let B = g.B.Base.algebra in
    let ctx = c.args.ctx.now in
    let m = c.args.self.now in
    let n = c.args.new.now in
    let same = widened_is B ctx _ m n c.in_ok-rest.rest c.in-Ok.cells c.self.view_is c.requires.old.order c.in_ok-rest.ensures.value c.in-Ok.ensures.value in
    record {
      value = same;
      fits = subst (λ t. Fits B ctx g.B.Base.CAP t) (sym same) (widen_fits B g.met.B.Base.laws ctx g.B.Base.CAP m n c.requires.old c.requires.new c.requires.width);
    }
