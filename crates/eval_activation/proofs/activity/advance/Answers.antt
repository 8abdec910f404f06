use Rattle.std.proofs.Common.{◌≡◌, option_map, ap, subst, rules}
use Rattle.abstract_value.specs.View.{abs}
use Rattle.eval_group_turns.specs.Views.{group_args}
use Rattle.support_tail_fixpoint.specs.declared.driver_request.DriverRequest.TheVariants as k
use Rattle.support_tail_fixpoint.specs.Activation.{Answers}
use Rattle.support_tail_fixpoint.specs.Measure.{CanEnd}
use Rattle.support_tail_fixpoint.specs.Views as view
use Rattle.eval_activation.specs.declared.activity.Activity.{Activity}
use Rattle.eval_activation.specs.Activities.{meaning, standing}
use Rattle.eval_activation.specs.Views.{yield}
use Rattle.eval_activation.proofs.Going.{again, answered, left_after, taken_ends, taken_falls, taken_next, taken_out, taken_stands}
use Rattle.eval_activation.proofs.activity.advance.Goals as goal

pub give-requires-clause-fits : goal.give-requires-clause-fits
give-requires-clause-fits g c =
    taken_stands g.B.Base.algebra g.met.B.Base.laws g.B.Base.CAP c.args.setting.now g.K.Specified.spec (g.K.Known.calls c.args.setting.now.ctx.now) c.requires.setting c.args.fun c.requires.there c.args.activity.now (option_map yield c.args.given) c.requires.taken

pub give-requires-clause-out_fits : goal.give-requires-clause-out_fits
give-requires-clause-out_fits g c =
    rw c.sides-out.ensures.out (taken_out g.B.Base.algebra g.met.B.Base.laws g.B.Base.CAP c.args.setting.now g.K.Specified.spec (g.K.Known.calls c.args.setting.now.ctx.now) c.requires.setting c.args.fun c.requires.there c.args.activity.now (option_map yield c.args.given) c.requires.taken)

pub give-requires-clause-next_fits : goal.give-requires-clause-next_fits
give-requires-clause-next_fits g c =
    rw c.sides-out.ensures.next (taken_next g.B.Base.algebra g.met.B.Base.laws g.B.Base.CAP c.args.setting.now g.K.Specified.spec (g.K.Known.calls c.args.setting.now.ctx.now) c.requires.setting c.args.fun c.requires.there c.args.activity.now (option_map yield c.args.given) c.requires.taken)

pub returns-in-Turn-clause-after : goal.returns-in-Turn-clause-after
returns-in-Turn-clause-after g c args before after goes gave =
    let b = g.B.Base.algebra in
    let cap = g.B.Base.CAP in
    let s = c.args.setting.now in
    let spec = g.K.Specified.spec in
    let old = c.args.activity.now in
    let given = option_map yield c.args.given in
    let is : c.in_ok-give.field-0 ≡ k.Turn = search rules in
    let ends : CanEnd (meaning b cap spec old) old.driver.left = taken_ends b g.met.B.Base.laws cap s spec (g.K.Known.calls c.args.setting.now.ctx.now) c.requires.setting c.args.fun c.requires.there old given c.requires.taken in
    again b g.met.B.Base.laws cap s spec (g.K.Known.calls c.args.setting.now.ctx.now) c.requires.setting c.args.fun c.requires.there old (record { driver = c.give.new.self; turns = c.give.new.turn }) given (view.asked abs c.in_ok-give.field-0)
    (answered b cap spec old (record { driver = c.give.new.self; turns = c.give.new.turn }) (option_map abs c.sides-out.result.0) (option_map group_args c.sides-out.result.1) given (view.asked abs c.in_ok-give.field-0) c.sides-out.ensures.out c.sides-out.ensures.next c.in_ok-give.ensures.answer)
    args before after goes gave (ap (view.asked abs) is) (c.in_ok-give.ensures.running.1 is) (c.in_ok-give.ensures.fits is) (c.in_ok-give.ensures.can_end is ends) c.in_ok-give.ensures.kept

pub returns-in-Turn-clause-falls : goal.returns-in-Turn-clause-falls
returns-in-Turn-clause-falls g c _ =
    let b = g.B.Base.algebra in
    let cap = g.B.Base.CAP in
    let s = c.args.setting.now in
    let spec = g.K.Specified.spec in
    let old = c.args.activity.now in
    let given = option_map yield c.args.given in
    let is : c.in_ok-give.field-0 ≡ k.Turn = search rules in
    let ends : CanEnd (meaning b cap spec old) old.driver.left = taken_ends b g.met.B.Base.laws cap s spec (g.K.Known.calls c.args.setting.now.ctx.now) c.requires.setting c.args.fun c.requires.there old given c.requires.taken in
    taken_falls b g.met.B.Base.laws cap s spec (g.K.Known.calls c.args.setting.now.ctx.now) c.requires.setting c.args.fun c.requires.there old given c.requires.taken (record { driver = c.give.new.self; turns = c.give.new.turn })
    c.in_ok-give.ensures.kept (c.in_ok-give.ensures.fits is) (c.in_ok-give.ensures.falls is ends)

pub returns-in-Out-clause-after : goal.returns-in-Out-clause-after
returns-in-Out-clause-after g c args before after goes gave =
    let b = g.B.Base.algebra in
    let cap = g.B.Base.CAP in
    let s = c.args.setting.now in
    let spec = g.K.Specified.spec in
    let old = c.args.activity.now in
    let given = option_map yield c.args.given in
    let new : Activity g.row.B.Denot g.row.K.Denot g.row.B-Word.Denot g.row.B-Note.Denot g.row.B-Ctx.Denot = record { driver = c.give.new.self; turns = c.give.new.turn } in
    let is : c.in_ok-give.field-0 ≡ k.Out c.in-Out.leaves = search rules in
    let answer = subst (λ z. Answers (meaning b cap spec old).moves (standing old) (option_map abs c.sides-out.result.0) (option_map group_args c.sides-out.result.1) (view.asked abs z) (standing new)) is c.in_ok-give.ensures.answer in
    left_after b g.met.B.Base.laws cap s spec (g.K.Known.calls c.args.setting.now.ctx.now) c.requires.setting c.args.fun c.requires.there old (record { driver = c.give.new.self; turns = c.give.new.turn }) given (k.Out (option_map abs c.in-Out.leaves))
    (answered b cap spec old (record { driver = c.give.new.self; turns = c.give.new.turn }) (option_map abs c.sides-out.result.0) (option_map group_args c.sides-out.result.1) given (k.Out (option_map abs c.in-Out.leaves)) c.sides-out.ensures.out c.sides-out.ensures.next answer)
    args before after goes gave

pub returns-in-OutOfFuel-clause-after : goal.returns-in-OutOfFuel-clause-after
returns-in-OutOfFuel-clause-after g c args before after goes gave =
    let b = g.B.Base.algebra in
    let cap = g.B.Base.CAP in
    let s = c.args.setting.now in
    let spec = g.K.Specified.spec in
    let old = c.args.activity.now in
    let given = option_map yield c.args.given in
    let new : Activity g.row.B.Denot g.row.K.Denot g.row.B-Word.Denot g.row.B-Note.Denot g.row.B-Ctx.Denot = record { driver = c.give.new.self; turns = c.give.new.turn } in
    let is : c.in_ok-give.field-0 ≡ k.OutOfFuel = search rules in
    let answer = subst (λ z. Answers (meaning b cap spec old).moves (standing old) (option_map abs c.sides-out.result.0) (option_map group_args c.sides-out.result.1) (view.asked abs z) (standing new)) is c.in_ok-give.ensures.answer in
    left_after b g.met.B.Base.laws cap s spec (g.K.Known.calls c.args.setting.now.ctx.now) c.requires.setting c.args.fun c.requires.there old (record { driver = c.give.new.self; turns = c.give.new.turn }) given k.OutOfFuel
    (answered b cap spec old (record { driver = c.give.new.self; turns = c.give.new.turn }) (option_map abs c.sides-out.result.0) (option_map group_args c.sides-out.result.1) given k.OutOfFuel c.sides-out.ensures.out c.sides-out.ensures.next answer)
    args before after goes gave
