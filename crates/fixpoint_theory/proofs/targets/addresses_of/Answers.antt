use Rattle.std.proofs.Common.{ap, sym, ◌∙◌, ◌∷◌, ◌++◌, []}
use Rattle.fixpoint_theory.specs.Outcome.{addresses}
use Rattle.fixpoint_theory.specs.Views.{arriving}
use Rattle.fixpoint_theory.proofs.Lists.{addresses_more, seen_more}
use Rattle.fixpoint_theory.proofs.targets.addresses_of.Goals as goal

pub loop-sent-preserved : goal.loop-sent-preserved
loop-sent-preserved g c =
    let view = arriving g.A.Analyser.view in let xs = c.args.arrivals.now in let i = c.loop-sent.sent-index in let x = c.sent-item.result in
    c.in_ok-push.ensures.items ∙ ap (λ l. l ++ x.to ∷ []) c.loop-sent.invariant
    ∙ sym (ap addresses (seen_more view xs i x c.loop-sent-test.true c.sent-item.is) ∙ addresses_more _ (view x))
