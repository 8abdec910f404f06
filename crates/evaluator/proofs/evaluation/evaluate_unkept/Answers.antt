use Rattle.std.proofs.Common.{map, sym, ap, subst}
use Rattle.std.proofs.lemmas.List.Elements.{All-nil}
use Rattle.base_trait.specs.Uses.{uses_of}
use Rattle.abstract_value_laws.specs.Fits.{Fits}
use Rattle.abstract_value.specs.View.{abs}
use Rattle.abstract_semantics.specs.CallAnswers.{answers}
use Rattle.abstract_semantics.specs.Calls.{AreArguments}
use Rattle.eval_memo.specs.Settings.{spec_of}
use Rattle.eval_memo.proofs.Growth.{grown_itself}
use Rattle.evaluator.proofs.Starting.{alone_failed, alone_gave, is_there, no_function, not_there}
use Rattle.evaluator.proofs.evaluation.evaluate_unkept.Goals as goal

pub returns-then-function-len-clause-value : goal.returns-then-function-len-clause-value
returns-then-function-len-clause-value g c =
    let s = c.args.setting.now in
    no_function g.B.Base.algebra s.ctx.now g.B.Base.CAP g.K.Specified.spec g.K.Placed.at g.K.Placed.policy c.args.function (map abs c.args.args.items) (uses_of c.args.log.now)
    (not_there s g.K.Specified.spec c.len.result c.args.function c.requires.ready.spec_is c.len.ensures c.if-function-len.true)

pub returns-then-function-len-clause-fits : goal.returns-then-function-len-clause-fits
returns-then-function-len-clause-fits g c = tt

pub returns-then-function-len-clause-grown : goal.returns-then-function-len-clause-grown
returns-then-function-len-clause-grown g c = grown_itself (uses_of c.args.log.now)

pub evaluate_activation-result-requires-clause-known : goal.evaluate_activation-result-requires-clause-known
evaluate_activation-result-requires-clause-known g c = record { ready = c.requires.ready; fits = All-nil (λ v. Fits g.B.Base.algebra c.args.setting.now.ctx.now g.B.Base.CAP (abs v)); memo = c.requires.memo }

pub evaluate_activation-result-requires-clause-there : goal.evaluate_activation-result-requires-clause-there
evaluate_activation-result-requires-clause-there g c = is_there c.args.setting.now c.len.result c.args.function c.len.ensures c.if-function-len.false

pub evaluate_activation-result-requires-clause-args : goal.evaluate_activation-result-requires-clause-args
evaluate_activation-result-requires-clause-args g c =
    let s = c.args.setting.now in
    subst (λ xs. AreArguments g.B.Base.algebra s.ctx.now g.B.Base.CAP (spec_of s) c.args.function (map abs xs)) (sym c.deref.ensures.value) c.requires.args

pub evaluate_activation-result-requires-clause-own : goal.evaluate_activation-result-requires-clause-own
evaluate_activation-result-requires-clause-own g c = c.new-own.ensures

pub returns-in-Err-clause-value : goal.returns-in-Err-clause-value
returns-in-Err-clause-value g c =
    let on = answers g.B.Base.algebra c.args.setting.now.ctx.now g.B.Base.CAP g.K.Specified.spec g.K.Placed.at g.K.Placed.policy c.args.function in
    alone_failed g.row.B.Denot g.row.B-Word.Denot g.row.B-Note.Denot g.row.B-Ctx.Denot c.in-Err.error (uses_of c.args.log.now) (uses_of c.evaluate_activation-result.new.own) (on (map abs c.deref.result.now)) (on (map abs c.args.args.items)) (ap (λ xs. on (map abs xs)) c.deref.ensures.value) c.in-Err.ensures.value

pub returns-in-Err-clause-fits : goal.returns-in-Err-clause-fits
returns-in-Err-clause-fits g c = tt

pub returns-in-Err-clause-grown : goal.returns-in-Err-clause-grown
returns-in-Err-clause-grown g c = grown_itself (uses_of c.args.log.now)

pub returns-in_ok-add_reads-in-Ok-clause-value : goal.returns-in_ok-add_reads-in-Ok-clause-value
returns-in_ok-add_reads-in-Ok-clause-value g c =
    let on = answers g.B.Base.algebra c.args.setting.now.ctx.now g.B.Base.CAP g.K.Specified.spec g.K.Placed.at g.K.Placed.policy c.args.function in
    alone_gave g.row.B.Denot g.row.B-Word.Denot g.row.B-Note.Denot g.row.B-Ctx.Denot c.in-Ok.value c.in_ok-add_reads-in-Ok.field-0 (uses_of c.args.log.now) (uses_of c.evaluate_activation-result.new.own) (uses_of c.add_reads.new.log) (on (map abs c.deref.result.now)) (on (map abs c.args.args.items)) (ap (λ xs. on (map abs xs)) c.deref.ensures.value)
    c.in-Ok.ensures.value c.in_ok-add_reads-in-Ok.ensures.value c.in_ok-add_reads-in-Ok.ensures.log

pub returns-in_ok-add_reads-in-Ok-clause-grown : goal.returns-in_ok-add_reads-in-Ok-clause-grown
returns-in_ok-add_reads-in-Ok-clause-grown g c = c.add_reads.ensures.grown

pub returns-in_err-add_reads-in-Ok-clause-grown : goal.returns-in_err-add_reads-in-Ok-clause-grown
returns-in_err-add_reads-in-Ok-clause-grown g c = c.add_reads.ensures.grown
