use Rattle.std.proofs.Common.{map, Option, option_map, refl, subst}
use Rattle.std.specs.Prelude.{All, IfSome}
use Rattle.eval_memo.specs.Ready.{YieldFits}
use Rattle.eval_memo.specs.Settings.{join_yields}
use Rattle.eval_activation.specs.Views.{yield}
use Rattle.eval_activation.specs.declared.turn_yield.TurnYield.{TurnYield}
use Rattle.evaluator.specs.Joins.{join_all}
use Rattle.evaluator.proofs.Joining.{all_before, join_done, join_step, last_of_all, shorter}
use Rattle.evaluator.proofs.joins.joined_all.Goals as goal

pub loop-first-init : goal.loop-first-init
loop-first-init g c = record { whole = refl; firsts = c.requires.firsts; fits = c.requires.last }

pub join_given-requires-clause-setting : goal.join_given-requires-clause-setting
join_given-requires-clause-setting g c = c.requires.setting

pub join_given-requires-clause-left : goal.join_given-requires-clause-left
join_given-requires-clause-left g c =
    let fits = λ (x : Option (TurnYield g.row.B.Denot g.row.B-Word.Denot g.row.B-Note.Denot g.row.B-Ctx.Denot)). IfSome x (λ v. YieldFits g.B.Base.algebra g.B.Base.CAP c.args.setting.now c.args.group (yield v)) in
    last_of_all fits c.pop.new.self.items c.in-Some.first (subst (All fits) c.in-Some.ensures.items c.loop-first.invariant.firsts)

pub join_given-requires-clause-right : goal.join_given-requires-clause-right
join_given-requires-clause-right g c = c.loop-first.invariant.fits

pub loop-first-smaller : goal.loop-first-smaller
loop-first-smaller g c = shorter c.loop-first.firsts.items c.pop.new.self.items c.in-Some.first c.in-Some.ensures.items

pub loop-first-preserved : goal.loop-first-preserved
loop-first-preserved g c =
    let s = c.args.setting.now in
    let j = join_yields g.B.Base.algebra g.B.Base.CAP (g.K.Known.calls s.ctx.now) s in
    let fits = λ (x : Option (TurnYield g.row.B.Denot g.row.B-Word.Denot g.row.B-Note.Denot g.row.B-Ctx.Denot)). IfSome x (λ v. YieldFits g.B.Base.algebra g.B.Base.CAP c.args.setting.now c.args.group (yield v)) in
    record {
      whole = join_step yield j (join_all j (map (option_map yield) c.args.firsts.items) (option_map yield c.args.last)) c.loop-first.firsts.items c.pop.new.self.items c.in-Some.first c.loop-first.out c.in_ok-out.out c.in-Some.ensures.items c.loop-first.invariant.whole c.in_ok-out.ensures.value;
      firsts = all_before fits c.pop.new.self.items c.in-Some.first (subst (All fits) c.in-Some.ensures.items c.loop-first.invariant.firsts);
      fits = c.in_ok-out.ensures.fits;
    }

pub returns-clause-value : goal.returns-clause-value
returns-clause-value g c =
    let s = c.args.setting.now in
    let j = join_yields g.B.Base.algebra g.B.Base.CAP (g.K.Known.calls s.ctx.now) s in
    join_done yield j (join_all j (map (option_map yield) c.args.firsts.items) (option_map yield c.args.last)) c.loop-first.firsts.items c.loop-first.firsts.len c.loop-first.out c.in_default.ensures.cases.0 c.loop-first.firsts.ok.0 c.loop-first.invariant.whole

pub returns-clause-fits : goal.returns-clause-fits
returns-clause-fits g c = c.loop-first.invariant.fits
