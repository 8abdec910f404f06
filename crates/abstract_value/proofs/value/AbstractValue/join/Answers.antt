use Rattle.std.proofs.Common.{◌≡◌, sym, subst}
use Rattle.abstract_map_laws.proofs.Fitting.{room}
use Rattle.abstract_value_laws.specs.Calls.{join_of}
use Rattle.abstract_value_laws.specs.Fits.{Fits}
use Rattle.abstract_map.proofs.Whole.{if_ok}
use Rattle.abstract_value.specs.View.{abs}
use Rattle.abstract_value_laws.proofs.Joining.{join_fits}
use Rattle.abstract_value.proofs.value.AbstractValue.join.Goals as goal

pub returns-clause-fits : goal.returns-clause-fits
returns-clause-fits g c =
    let B = g.B.Base.algebra in
    let ctx = c.args.ctx.now in
    let cap = g.B.Base.CAP in
    let x = abs c.args.self.now in
    let y = abs c.args.other.now in
    if_ok (λ r. abs r ≡ join_of B ctx cap x y) (λ r. Fits B ctx cap (abs r)) c.merge.result
    (λ r e. subst (λ v. Fits B ctx cap v) (sym e) (join_fits B g.met.B.Base.laws ctx cap x y (room B cap g.met.B.Base.capacity) c.requires.left c.requires.right)) c.merge.ensures
