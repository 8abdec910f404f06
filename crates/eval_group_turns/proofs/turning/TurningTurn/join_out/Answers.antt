use Rattle.abstract_value.specs.View.{abs}
use Rattle.abstract_semantics.proofs.Tested.{fit_told}
use Rattle.eval_group_turns.proofs.turning.TurningTurn.join_out.Goals as goal

pub join-requires-clause-left : goal.join-requires-clause-left
join-requires-clause-left g c = fit_told g.B.Base.algebra g.met.B.Base.laws c.args.self.now.ctx g.B.Base.CAP (abs c.args.x.now) c.requires.x_fits

pub join-requires-clause-right : goal.join-requires-clause-right
join-requires-clause-right g c = fit_told g.B.Base.algebra g.met.B.Base.laws c.args.self.now.ctx g.B.Base.CAP (abs c.args.y.now) c.requires.y_fits
