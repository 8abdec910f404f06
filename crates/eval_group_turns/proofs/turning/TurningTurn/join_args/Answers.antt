use Rattle.std.proofs.Common.{sym, subst}
use Rattle.eval_group_turns.specs.Fitting.{EachFits}
use Rattle.eval_group_turns.specs.Turning.{stamps_from}
use Rattle.eval_group_turns.specs.Views.{all_abs, each_abs}
use Rattle.eval_group_turns.proofs.Turns.{each_fits}
use Rattle.eval_group_turns.proofs.turning.TurningTurn.join_args.Goals as goal

pub merge_groups-requires-clause-left : goal.merge_groups-requires-clause-left
merge_groups-requires-clause-left g c =
    let t = c.args.self.now in
    subst (λ xs. EachFits g.B.Base.algebra t.ctx g.B.Base.CAP (each_abs xs)) (sym c.deref.ensures.value)
    (each_fits g.B.Base.algebra g.met.B.Base.laws t.ctx g.B.Base.CAP g.K.Specified.spec t.at (stamps_from g.B.Base.algebra t.at (all_abs t.origin)) t.group (each_abs c.args.x.now.items) c.requires.x_fits)

pub merge_groups-requires-clause-right : goal.merge_groups-requires-clause-right
merge_groups-requires-clause-right g c =
    let t = c.args.self.now in
    subst (λ xs. EachFits g.B.Base.algebra t.ctx g.B.Base.CAP (each_abs xs)) (sym c.deref-2.ensures.value)
    (each_fits g.B.Base.algebra g.met.B.Base.laws t.ctx g.B.Base.CAP g.K.Specified.spec t.at (stamps_from g.B.Base.algebra t.at (all_abs t.origin)) t.group (each_abs c.args.y.now.items) c.requires.y_fits)
