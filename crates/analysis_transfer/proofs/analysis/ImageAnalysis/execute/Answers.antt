use Rattle.std.proofs.Common.{◌∙◌, Ok, Err, map, sym, ap, subst}
use Rattle.abstract_value.specs.View.{abs}
use Rattle.base_trait.specs.Uses.{uses_of}
use Rattle.semantics_values.specs.Views.{val}
use Rattle.abstract_semantics.specs.Calls.{AreArguments}
use Rattle.analysis_transfer_laws.specs.Transfer.{outcome_of}
use Rattle.analysis_transfer_laws.proofs.Evaluated.{are_arguments}
use Rattle.analysis_transfer.specs.Analysis.{calls_of, problem}
use Rattle.analysis_transfer.specs.Instance.{is_analysed}
use Rattle.analysis_transfer.proofs.Evaluated.{counted_state, gave_deep, gave_none, gave_value, not_deep}
use Rattle.analysis_transfer.proofs.Outcomes.{instead}
use Rattle.analysis_transfer.proofs.analysis.ImageAnalysis.execute.Goals as goal

pub evaluate-requires : goal.evaluate-requires
evaluate-requires g c =
    let B = g.D.B.Base.algebra in
    let laws = g.met.D.B.Base.laws in
    let cap = g.D.B.Base.CAP in
    let it = c.args.self.now in
    let D = g.D.Domain.elements it.domain.now in
    let M = g.D.Domain.meaning it.domain.now in
    let p = problem it in
    let ready = c.requires.ready in
    let analysed = is_analysed B laws cap D M (g.D.Domain.is_for it.domain.now) it (g.met.D.Domain.laws it.domain.now p.spec ready.made) ready in
    record {
      ready = ready;
      context = c.in_ok-ctx.ensures.value;
      args = subst (AreArguments B M.context cap p.spec it.machine.interp) (sym c.in_ok-args.ensures)
          (are_arguments B laws cap D M p (calls_of B cap M p) analysed c.args.at c.ranges.at.fits (g.D.Domain.view c.args.x.now) c.requires.fits c.args.word (val c.args.instruction.now) c.requires.decoded);
      log = c.new-log.ensures;
    }

pub outcome_of_state-requires : goal.outcome_of_state-requires
outcome_of_state-requires g c =
    let B = g.D.B.Base.algebra in
    let laws = g.met.D.B.Base.laws in
    let cap = g.D.B.Base.CAP in
    let it = c.args.self.now in
    let D = g.D.Domain.elements it.domain.now in
    let M = g.D.Domain.meaning it.domain.now in
    let p = problem it in
    let ready = c.requires.ready in
    let calls = calls_of B cap M p c.args.at it.machine.interp in
    let log = uses_of c.evaluate.new.log in
    let analysed = is_analysed B laws cap D M (g.D.Domain.is_for it.domain.now) it (g.met.D.Domain.laws it.domain.now p.spec ready.made) ready in
    record {
      ready = ready;
      context = c.in_ok-ctx.ensures.value;
      fits = c.requires.fits;
      state = counted_state B laws cap D M p (calls_of B cap M p) analysed c.args.at (g.D.Domain.view c.args.x.now) c.args.word (val c.args.instruction.now) (abs c.in-Ok-Some.state) log
          c.requires.code c.requires.fits c.requires.decoded
          (ap calls (sym c.in_ok-args.ensures) ∙ gave_value abs c.evaluate.result log (calls (map abs c.in_ok-args.args.items)) c.in-Ok-Some.state (c.in-Ok-Some.is ∙ ap Ok c.in-Ok-Some.field-0-is) c.evaluate.ensures);
    }

pub returns-in-Ok-Some : goal.returns-in-Ok-Some
returns-in-Ok-Some g c =
    let B = g.D.B.Base.algebra in
    let it = c.args.self.now in
    let M = g.D.Domain.meaning it.domain.now in
    let p = problem it in
    let calls = calls_of B g.D.B.Base.CAP M p c.args.at it.machine.interp in
    let log = uses_of c.evaluate.new.log in
    instead (g.D.Domain.elements it.domain.now) g.D.Domain.view c.outcome_of_state.result _ _
    (sym (ap (outcome_of B M p (g.D.Domain.view c.args.x.now))
    (ap calls (sym c.in_ok-args.ensures) ∙ gave_value abs c.evaluate.result log (calls (map abs c.in_ok-args.args.items)) c.in-Ok-Some.state (c.in-Ok-Some.is ∙ ap Ok c.in-Ok-Some.field-0-is) c.evaluate.ensures)))
    c.outcome_of_state.ensures

pub returns-in-Ok-None : goal.returns-in-Ok-None
returns-in-Ok-None g c =
    let B = g.D.B.Base.algebra in
    let it = c.args.self.now in
    let M = g.D.Domain.meaning it.domain.now in
    let p = problem it in
    let calls = calls_of B g.D.B.Base.CAP M p c.args.at it.machine.interp in
    let log = uses_of c.evaluate.new.log in
    instead (g.D.Domain.elements it.domain.now) g.D.Domain.view c.outcome_without_state.result _ _
    (sym (ap (outcome_of B M p (g.D.Domain.view c.args.x.now))
    (ap calls (sym c.in_ok-args.ensures) ∙ gave_none abs c.evaluate.result log (calls (map abs c.in_ok-args.args.items)) (c.in-Ok-None.is ∙ ap Ok c.in-Ok-None.field-0-is) c.evaluate.ensures)))
    c.outcome_without_state.ensures

pub unreachable-requires : goal.unreachable-requires
unreachable-requires g c =
    let B = g.D.B.Base.algebra in
    let laws = g.met.D.B.Base.laws in
    let cap = g.D.B.Base.CAP in
    let it = c.args.self.now in
    let D = g.D.Domain.elements it.domain.now in
    let M = g.D.Domain.meaning it.domain.now in
    let p = problem it in
    let ready = c.requires.ready in
    let calls = calls_of B cap M p c.args.at it.machine.interp in
    let log = uses_of c.evaluate.new.log in
    let analysed = is_analysed B laws cap D M (g.D.Domain.is_for it.domain.now) it (g.met.D.Domain.laws it.domain.now p.spec ready.made) ready in
    not_deep B laws cap D M p (calls_of B cap M p) analysed c.args.at (g.D.Domain.view c.args.x.now) c.args.word (val c.args.instruction.now) c.in-Err-OutOfFuel._function
    c.ranges.at.fits c.requires.fits c.requires.decoded
    (ap calls (sym c.in_ok-args.ensures) ∙ gave_deep abs c.evaluate.result log (calls (map abs c.in_ok-args.args.items)) c.in-Err-OutOfFuel._function (c.in-Err-OutOfFuel.is ∙ ap Err c.in-Err-OutOfFuel.field-0-is) c.evaluate.ensures)
