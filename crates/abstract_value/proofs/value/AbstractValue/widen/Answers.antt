use Rattle.std.proofs.Common.{◌≡◌, sym, subst}
use Rattle.abstract_value_laws.specs.Calls.{widen_of}
use Rattle.abstract_value_laws.specs.Fits.{Fits}
use Rattle.abstract_map.proofs.Whole.{if_ok}
use Rattle.abstract_value.specs.View.{abs}
use Rattle.abstract_value_laws.proofs.Widening.{widen_fits}
use Rattle.abstract_value.proofs.value.AbstractValue.widen.Goals as goal

pub returns-clause-fits : goal.returns-clause-fits
returns-clause-fits g c =
    let B = g.B.Base.algebra in
    let ctx = c.args.ctx.now in
    let cap = g.B.Base.CAP in
    let x = abs c.args.self.now in
    let y = abs c.args.new.now in
    if_ok (λ r. abs r ≡ widen_of B ctx x y) (λ r. Fits B ctx cap (abs r)) c.merge.result
    (λ r e. subst (λ v. Fits B ctx cap v) (sym e) (widen_fits B g.met.B.Base.laws ctx cap x y c.requires.old c.requires.new)) c.merge.ensures
