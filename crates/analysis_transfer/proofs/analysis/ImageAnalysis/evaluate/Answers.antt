use Rattle.std.proofs.Common.{map, sym, ap, subst}
use Rattle.abstract_value.specs.View.{abs}
use Rattle.base_trait.specs.Uses.{uses_of}
use Rattle.base_trait.specs.Precision.{joined_turns, unrolled_turns}
use Rattle.support_tail_fixpoint.specs.declared.policy.Policy.TheVariants.{Widen}
use Rattle.abstract_semantics.specs.Calls.{AreArguments}
use Rattle.abstract_semantics.specs.CallAnswers.{answers}
use Rattle.analysis_transfer.specs.Analysis.{problem}
use Rattle.analysis_transfer.proofs.Evaluated.{from_none}
use Rattle.analysis_transfer.proofs.analysis.ImageAnalysis.evaluate.Goals as goal

pub eval_anew-requires : goal.eval_anew-requires
eval_anew-requires g c =
    let B = g.D.B.Base.algebra in
    let cap = g.D.B.Base.CAP in
    let it = c.args.self.now in
    let p = problem it in
    let ready = c.requires.ready in
    record {
      ready = record { accepted = ready.posed.accepted; code_is = ready.code_is; has_turn = tt; joins = ready.joins };
      args = subst (λ k. AreArguments B k cap p.spec it.machine.interp (map abs c.args.args.items)) (sym c.requires.context) c.requires.args;
    }

pub returns : goal.returns
returns g c =
    let B = g.D.B.Base.algebra in
    let cap = g.D.B.Base.CAP in
    let it = c.args.self.now in
    let p = problem it in
    let M = g.D.Domain.meaning it.domain.now in
    let answer = λ (k : g.row.D-B-Ctx.Denot). answers B k cap p.spec c.args.at (Widen unrolled_turns joined_turns) it.machine.interp (map abs c.args.args.items) in
    from_none abs c.eval_anew.result (uses_of c.eval_anew.new.log) (uses_of c.args.log.now) (answer c.args.ctx.now) (answer M.context) c.requires.log (ap answer (sym c.requires.context)) c.eval_anew.ensures.value
