use Rattle.std.proofs.Common.{◌≡◌, ◌-◌, None, Some, arith, map, suc, subst}
use Rattle.std.specs.Prelude.{IfSome, option_map}
use Rattle.std.proofs.lemmas.Result.{IfOk-weaker}
use Rattle.base_trait.specs.Lists.{Each}
use Rattle.fixpoint_theory.specs.Outcome.{SameOutcome}
use Rattle.fixpoint_theory.specs.Views.{outcome}
use Rattle.fixpoint_cases.specs.ByCases.{case_transfer}
use Rattle.fixpoint_cases.specs.Cases.{cases, cases_of_all}
use Rattle.fixpoint_cases.specs.Same.{AreSameSplits}
use Rattle.fixpoint_cases.specs.Sent.{merged, sent_by_cases, unless_many}
use Rattle.fixpoint_cases.proofs.Adding.{of_element}
use Rattle.fixpoint_case_leaves.proofs.cases.transfer_by_cases.Goals as goal

pub returns-in-None-clause-value : goal.returns-in-None-clause-value
returns-in-None-clause-value g c =
    let A = g.A.SplitAnalyser.analysis c.args.analyser.now in
    let laws = g.met.A.SplitAnalyser.laws c.args.analyser.now c.requires.ready in
    let splits = g.met.A.SplitAnalyser.splits c.args.analyser.now c.requires.ready in
    let alike = g.met.A.SplitAnalyser.alike c.args.analyser.now c.requires.ready in
    let split = g.A.SplitAnalyser.split c.args.analyser.now in
    let merge = g.A.SplitAnalyser.merge c.args.analyser.now in
    let view = g.A.SplitAnalyser.view in
    let at = c.args.at in
    let more = c.args.depth - 1 in
    let x = view c.args.x.now in
    let none = subst (λ o. AreSameSplits A.elements (option_map (λ v. map view v.items) o) (split at x)) c.in-None.is c.in_ok-split.ensures.value in
    let deep : suc more ≡ c.args.depth = omega (arith, c.if-depth-eq0.false) in
    IfOk-weaker c.transfer_once-in-None.result _ _
    (λ r e. subst (λ d. SameOutcome A.elements (outcome view r) (case_transfer A split merge d at x)) deep
    (of_element A laws split splits alike at c.requires.code merge (outcome view r) more x None c.requires.fits tt none e))
    c.transfer_once-in-None.ensures.value

pub returns-in-Some-clause-value : goal.returns-in-Some-clause-value
returns-in-Some-clause-value g c =
    let A = g.A.SplitAnalyser.analysis c.args.analyser.now in
    let laws = g.met.A.SplitAnalyser.laws c.args.analyser.now c.requires.ready in
    let splits = g.met.A.SplitAnalyser.splits c.args.analyser.now c.requires.ready in
    let alike = g.met.A.SplitAnalyser.alike c.args.analyser.now c.requires.ready in
    let split = g.A.SplitAnalyser.split c.args.analyser.now in
    let merge = g.A.SplitAnalyser.merge c.args.analyser.now in
    let view = g.A.SplitAnalyser.view in
    let at = c.args.at in
    let more = c.args.depth - 1 in
    let x = view c.args.x.now in
    let pieces = map view c.in-Some.pieces.items in
    let some = subst (λ o. AreSameSplits A.elements (option_map (λ v. map view v.items) o) (split at x)) c.in-Some.is c.in_ok-split.ensures.value in
    let fit = subst (λ o. IfSome o (λ v. Each A.elements.fits (map view v.items))) c.in-Some.is c.in_ok-split.ensures.fits in
    let deep : suc more ≡ c.args.depth = omega (arith, c.if-depth-eq0.false) in
    IfOk-weaker c.transfer_of_pieces.result _ _
    (λ r e. subst (λ d. SameOutcome A.elements (outcome view r) (case_transfer A split merge d at x)) deep
    (of_element A laws split splits alike at c.requires.code merge (outcome view r) more x (Some pieces) c.requires.fits fit some
    (subst (λ l. SameOutcome A.elements (outcome view r) (unless_many (A.transfer at x) (merged merge (sent_by_cases A.elements (map (A.transfer at) (cases_of_all (cases split more at) (map view l))))))) c.deref.ensures.value e)))
    c.transfer_of_pieces.ensures.value
