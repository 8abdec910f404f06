use Rattle.std.proofs.Common.{map, sym, subst}
use Rattle.base_trait.specs.Uses.{seen}
use Rattle.fixpoint_theory.specs.Outcome.{SameOutcome, sends}
use Rattle.fixpoint_theory.specs.Views.{arriving}
use Rattle.fixpoint_cases.specs.Sent.{merged, unless_many}
use Rattle.fixpoint_cases.proofs.Putting.{arrivals_itself}
use Rattle.fixpoint_case_leaves.specs.Views.{case_outcome}
use Rattle.fixpoint_case_leaves.proofs.leaves.unless_many.Goals as goal

pub returns-in_ok-uses-in-Sent-clause-value : goal.returns-in_ok-uses-in-Sent-clause-value
returns-in_ok-uses-in-Sent-clause-value g c =
    let A = g.A.SplitAnalyser.analysis c.args.analyser.now in
    let laws = g.met.A.SplitAnalyser.laws c.args.analyser.now c.requires.ready in
    let view = g.A.SplitAnalyser.view in
    let merge = g.A.SplitAnalyser.merge c.args.analyser.now in
    let whole = A.transfer c.args.at (view c.args.x.now) in
    let arrivals = map (arriving view) c.in-Sent.arrivals.items in
    subst (λ z. SameOutcome A.elements (sends arrivals (map seen c.in_ok-uses-in-Sent.uses.items)) (unless_many whole (merged merge (case_outcome view z)))) (sym c.in-Sent.is)
    (arrivals_itself A.elements laws.elements arrivals, c.in_ok-uses-in-Sent.ensures)
