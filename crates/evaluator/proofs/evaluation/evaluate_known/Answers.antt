use Rattle.std.proofs.Common.{◌<◌, length, map, refl}
use Rattle.std.proofs.lemmas.List.Elements.{All-nil}
use Rattle.base_trait.specs.Uses.{uses_of}
use Rattle.abstract_value_laws.specs.Fits.{Fits}
use Rattle.abstract_value.specs.View.{abs}
use Rattle.eval_memo.specs.Memos.{Holds, entries}
use Rattle.eval_memo.specs.Settings.{spec_of}
use Rattle.eval_memo.proofs.Growth.{grown_itself}
use Rattle.evaluator.proofs.Starting.{each_fits, held_by, is_there, never_there, no_function, not_there}
use Rattle.evaluator.proofs.evaluation.evaluate_known.Goals as goal

pub returns-then-function-len-clause-value : goal.returns-then-function-len-clause-value
returns-then-function-len-clause-value g c =
    let s = c.args.setting.now in
    no_function g.B.Base.algebra s.ctx.now g.B.Base.CAP g.K.Specified.spec g.K.Placed.at g.K.Placed.policy c.args.function (map abs c.args.args.items) (uses_of c.args.log.now)
    (not_there s g.K.Specified.spec c.len.result c.args.function c.requires.ready.spec_is c.len.ensures c.if-function-len.true)

pub returns-then-function-len-clause-fits : goal.returns-then-function-len-clause-fits
returns-then-function-len-clause-fits g c = tt

pub returns-then-function-len-clause-memo : goal.returns-then-function-len-clause-memo
returns-then-function-len-clause-memo g c = c.requires.memo

pub returns-then-function-len-clause-grown : goal.returns-then-function-len-clause-grown
returns-then-function-len-clause-grown g c = grown_itself (uses_of c.args.log.now)

pub returns-then-function-len-clause-kept : goal.returns-then-function-len-clause-kept
returns-then-function-len-clause-kept g c = grown_itself (entries c.args.memo.now)

pub returns-then-function-len-clause-held : goal.returns-then-function-len-clause-held
returns-then-function-len-clause-held g c = λ h. never_there c.args.setting.now c.len.result c.args.function c.len.ensures c.if-function-len.true h

pub returns-then-function-len-clause-known : goal.returns-then-function-len-clause-known
returns-then-function-len-clause-known g c = λ _. refl

pub value_of_call-requires-clause-known : goal.value_of_call-requires-clause-known
value_of_call-requires-clause-known g c = record { ready = c.requires.ready; fits = All-nil (λ v. Fits g.B.Base.algebra c.args.setting.now.ctx.now g.B.Base.CAP (abs v)); memo = c.requires.memo }

pub value_of_call-requires-clause-there : goal.value_of_call-requires-clause-there
value_of_call-requires-clause-there g c = is_there c.args.setting.now c.len.result c.args.function c.len.ensures c.if-function-len.false

pub value_of_call-requires-clause-args : goal.value_of_call-requires-clause-args
value_of_call-requires-clause-args g c = each_fits g.B.Base.algebra c.args.setting.now.ctx.now g.B.Base.CAP (map abs c.args.args.items) c.requires.args.fit

pub returns-clause-value : goal.returns-clause-value
returns-clause-value g c = c.value_of_call.ensures.runs.value

pub returns-clause-fits : goal.returns-clause-fits
returns-clause-fits g c = c.value_of_call.ensures.runs.fits

pub returns-clause-memo : goal.returns-clause-memo
returns-clause-memo g c = c.value_of_call.ensures.runs.memo

pub returns-clause-grown : goal.returns-clause-grown
returns-clause-grown g c = c.value_of_call.ensures.runs.grown.log

pub returns-clause-kept : goal.returns-clause-kept
returns-clause-kept g c = c.value_of_call.ensures.runs.grown.memo

pub returns-clause-held : goal.returns-clause-held
returns-clause-held g c =
    held_by (c.args.function < length (spec_of c.args.setting.now).funs) (Holds c.args.function (map abs c.args.args.items) (entries c.value_of_call.new.memo)) c.value_of_call.result c.requires.args.typed c.value_of_call.ensures.held

pub returns-clause-known : goal.returns-clause-known
returns-clause-known g c = c.value_of_call.ensures.known
