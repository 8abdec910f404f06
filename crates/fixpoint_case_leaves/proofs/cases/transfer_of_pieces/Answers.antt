use Rattle.std.proofs.Common.{Some, [], map}
use Rattle.std.proofs.lemmas.Result.{IfOk-weaker}
use Rattle.fixpoint_theory.specs.Outcome.{SameOutcome}
use Rattle.fixpoint_theory.specs.Views.{outcome}
use Rattle.fixpoint_cases.specs.Cases.{cases, cases_of_all}
use Rattle.fixpoint_cases.specs.Sent.{merged, sent_by_cases, unless_many}
use Rattle.fixpoint_cases.proofs.Sending.{merged_same, outcome_itself, outcome_on, split_same}
use Rattle.fixpoint_case_leaves.specs.Views.{case_outcome}
use Rattle.fixpoint_case_leaves.proofs.cases.transfer_of_pieces.Goals as goal

pub returns-clause-value : goal.returns-clause-value
returns-clause-value g c =
    let A = g.A.SplitAnalyser.analysis c.args.analyser.now in
    let laws = g.met.A.SplitAnalyser.laws c.args.analyser.now c.requires.ready in
    let split = g.A.SplitAnalyser.split c.args.analyser.now in
    let merge = g.A.SplitAnalyser.merge c.args.analyser.now in
    let view = g.A.SplitAnalyser.view in
    let at = c.args.at in
    let whole = A.transfer at (view c.args.x.now) in
    let sent = case_outcome view c.in_ok-sent.sent in
    let all = sent_by_cases A.elements (map (A.transfer at) (cases_of_all (cases split c.args.depth at) (map view c.args.pieces.now))) in
    let same : SameOutcome A.elements sent all = rw (c.new-arrivals.ensures.items, c.new-uses.ensures.items) at c.in_ok-sent.ensures.value in
    IfOk-weaker c.unless_many.result _ _
    (λ r e. outcome_on A.elements laws.elements (outcome view r) (unless_many whole (merged merge sent)) (unless_many whole (merged merge all)) e
    (split_same A.elements laws.elements whole whole (Some []) (Some []) (merged merge sent) (merged merge all) (outcome_itself A.elements laws.elements whole) tt
    (merged_same A.elements laws.elements merge sent all same)))
    c.unless_many.ensures.value
