use Rattle.fixpoint_theory.specs.Views.{outcome}
use Rattle.fixpoint_cases.specs.Sent.{and_case}
use Rattle.fixpoint_case_leaves.specs.Views.{case_outcome}
use Rattle.fixpoint_case_leaves.proofs.Outcomes.{if_same}
use Rattle.fixpoint_cases.proofs.Adding.{made_more}
use Rattle.fixpoint_case_leaves.proofs.leaves.add_transfer.Goals as goal

pub returns-clause-value : goal.returns-clause-value
returns-clause-value g c =
    let A = g.A.SplitAnalyser.analysis c.args.analyser.now in
    let laws = g.met.A.SplitAnalyser.laws c.args.analyser.now c.requires.ready in
    let view = g.A.SplitAnalyser.view in
    let before = case_outcome view c.args.so_far in
    let made = outcome view c.in_ok-made.made in
    let own = A.transfer c.args.at (view c.args.x.now) in
    if_same A.elements laws.elements (case_outcome view) c.add_case.result (and_case A.elements before made) (and_case A.elements before own) c.add_case.ensures.value
    (made_more A laws c.args.at c.requires.code before made (view c.args.x.now) c.requires.fits c.requires.so_far c.in_ok-made.ensures.fits c.in_ok-made.ensures.value)
