use Rattle.std.proofs.Common.{sym, subst}
use Rattle.eval_group_turns.specs.Fitting.{EachFits}
use Rattle.eval_group_turns.specs.Turning.{stamps_from}
use Rattle.eval_group_turns.specs.Views.{all_abs, each_abs}
use Rattle.eval_group_turns.proofs.Turns.{each_fits}
use Rattle.eval_group_turns.proofs.turning.TurningTurn.absorbs.Goals as goal

pub groups_absorb-requires-clause-old : goal.groups_absorb-requires-clause-old
groups_absorb-requires-clause-old g c =
    let t = c.args.self.now in
    subst (λ xs. EachFits g.B.Base.algebra t.ctx g.B.Base.CAP (each_abs xs)) (sym c.deref.ensures.value)
    (each_fits g.B.Base.algebra g.met.B.Base.laws t.ctx g.B.Base.CAP g.K.Specified.spec t.at (stamps_from g.B.Base.algebra t.at (all_abs t.origin)) t.group (each_abs c.args.old.now.items) c.requires.old_fits)

pub groups_absorb-requires-clause-new : goal.groups_absorb-requires-clause-new
groups_absorb-requires-clause-new g c =
    let t = c.args.self.now in
    subst (λ xs. EachFits g.B.Base.algebra t.ctx g.B.Base.CAP (each_abs xs)) (sym c.deref-2.ensures.value)
    (each_fits g.B.Base.algebra g.met.B.Base.laws t.ctx g.B.Base.CAP g.K.Specified.spec t.at (stamps_from g.B.Base.algebra t.at (all_abs t.origin)) t.group (each_abs c.args.new.now.items) c.requires.new_fits)
