use Rattle.std.proofs.Common.{◌≡◌, ◌-◌, None, Some, arith, map, suc, sym, subst, take}
use Rattle.std.specs.Prelude.{IfSome, fold, option_map}
use Rattle.std.proofs.lemmas.Result.{IfOk-weaker}
use Rattle.base_trait.specs.Lists.{Each}
use Rattle.fixpoint_theory.specs.Outcome.{SameOutcome}
use Rattle.fixpoint_theory.proofs.Lists.{each_seen, each_taken, seen_more}
use Rattle.fixpoint_cases.specs.Cases.{cases, cases_of_all}
use Rattle.fixpoint_cases.specs.Same.{AreSameSplits}
use Rattle.fixpoint_cases.specs.Sent.{and_case}
use Rattle.fixpoint_cases.proofs.Adding.{element_more, of_split}
use Rattle.fixpoint_cases.proofs.Sending.{outcome_itself}
use Rattle.fixpoint_case_leaves.specs.Views.{case_outcome}
use Rattle.fixpoint_case_leaves.proofs.cases.+cases.Goals as goal

pub add_cases_of_all-loop-element-init : goal.add_cases_of_all-loop-element-init
add_cases_of_all-loop-element-init g t c =
    let A = g.A.SplitAnalyser.analysis c.args.analyser.now in
    let laws = g.met.A.SplitAnalyser.laws c.args.analyser.now c.requires.ready in
    record { value = outcome_itself A.elements laws.elements (case_outcome g.A.SplitAnalyser.view c.args.before); fits = c.requires.before }

pub add_cases_of_all-loop-element-preserved : goal.add_cases_of_all-loop-element-preserved
add_cases_of_all-loop-element-preserved g t c =
    let A = g.A.SplitAnalyser.analysis c.args.analyser.now in
    let laws = g.met.A.SplitAnalyser.laws c.args.analyser.now c.requires.ready in
    let splits = g.met.A.SplitAnalyser.splits c.args.analyser.now c.requires.ready in
    let alike = g.met.A.SplitAnalyser.alike c.args.analyser.now c.requires.ready in
    let split = g.A.SplitAnalyser.split c.args.analyser.now in
    let view = g.A.SplitAnalyser.view in
    let at = c.args.at in
    let depth = c.args.depth in
    let i = c.loop-element.element-index in
    let xs = c.args.elements.now in
    let x = c.element-item.result in
    let start = case_outcome view c.args.before in
    let later = case_outcome view c.in_ok-so_far.so_far in
    let fits = each_seen A.elements.fits view xs i x c.loop-element-test.true c.element-item.is c.requires.fits in
    record {
      value = subst (λ l. SameOutcome A.elements later (fold (and_case A.elements) start (map (A.transfer at) (cases_of_all (cases split depth at) l)))) (sym (seen_more view xs i x c.loop-element-test.true c.element-item.is))
          (element_more A laws split splits alike at c.requires.code start (case_outcome view c.loop-element.so_far) later depth (map view (take i xs)) (view x) c.requires.before c.loop-element.invariant.fits
          (each_taken A.elements.fits view xs i c.requires.fits) fits c.loop-element.invariant.value c.in_ok-so_far.ensures.value);
      fits = c.in_ok-so_far.ensures.fits;
    }

pub add_cases-returns-in-None-clause-value : goal.add_cases-returns-in-None-clause-value
add_cases-returns-in-None-clause-value g t c =
    let A = g.A.SplitAnalyser.analysis c.args.analyser.now in
    let laws = g.met.A.SplitAnalyser.laws c.args.analyser.now c.requires.ready in
    let splits = g.met.A.SplitAnalyser.splits c.args.analyser.now c.requires.ready in
    let alike = g.met.A.SplitAnalyser.alike c.args.analyser.now c.requires.ready in
    let split = g.A.SplitAnalyser.split c.args.analyser.now in
    let view = g.A.SplitAnalyser.view in
    let at = c.args.at in
    let more = c.args.depth - 1 in
    let x = view c.args.x.now in
    let before = case_outcome view c.args.before in
    let none = subst (λ o. AreSameSplits A.elements (option_map (λ v. map view v.items) o) (split at x)) c.in-None.is c.in_ok-split.ensures.value in
    let deep : suc more ≡ c.args.depth = omega (arith, c.if-depth-eq0.false) in
    IfOk-weaker c.add_transfer-in-None.result _ _
    (λ r e. subst (λ d. SameOutcome A.elements (case_outcome view r) (fold (and_case A.elements) before (map (A.transfer at) (cases split d at x)))) deep
    (of_split A laws split splits alike at c.requires.code (case_outcome view r) before more x None c.requires.fits tt c.requires.before none e))
    c.add_transfer-in-None.ensures.value

pub add_cases-returns-in-Some-clause-value : goal.add_cases-returns-in-Some-clause-value
add_cases-returns-in-Some-clause-value g t c =
    let A = g.A.SplitAnalyser.analysis c.args.analyser.now in
    let laws = g.met.A.SplitAnalyser.laws c.args.analyser.now c.requires.ready in
    let splits = g.met.A.SplitAnalyser.splits c.args.analyser.now c.requires.ready in
    let alike = g.met.A.SplitAnalyser.alike c.args.analyser.now c.requires.ready in
    let split = g.A.SplitAnalyser.split c.args.analyser.now in
    let view = g.A.SplitAnalyser.view in
    let at = c.args.at in
    let more = c.args.depth - 1 in
    let x = view c.args.x.now in
    let before = case_outcome view c.args.before in
    let pieces = map view c.in-Some.pieces.items in
    let some = subst (λ o. AreSameSplits A.elements (option_map (λ v. map view v.items) o) (split at x)) c.in-Some.is c.in_ok-split.ensures.value in
    let fit = subst (λ o. IfSome o (λ v. Each A.elements.fits (map view v.items))) c.in-Some.is c.in_ok-split.ensures.fits in
    let deep : suc more ≡ c.args.depth = omega (arith, c.if-depth-eq0.false) in
    IfOk-weaker c.add_cases_of_all.result _ _
    (λ r e. subst (λ d. SameOutcome A.elements (case_outcome view r) (fold (and_case A.elements) before (map (A.transfer at) (cases split d at x)))) deep
    (of_split A laws split splits alike at c.requires.code (case_outcome view r) before more x (Some pieces) c.requires.fits fit c.requires.before some
    (subst (λ l. SameOutcome A.elements (case_outcome view r) (fold (and_case A.elements) before (map (A.transfer at) (cases_of_all (cases split more at) (map view l))))) c.deref.ensures.value e)))
    c.add_cases_of_all.ensures.value

pub add_cases_of_all-add_cases-requires : goal.add_cases_of_all-add_cases-requires
add_cases_of_all-add_cases-requires g t c κs within =
    let A = g.A.SplitAnalyser.analysis c.args.analyser.now in
    let fits = each_seen A.elements.fits g.A.SplitAnalyser.view c.args.elements.now c.loop-element.element-index c.element-item.result c.loop-element-test.true c.element-item.is c.requires.fits in
    (omega (arith, c.decreases), (within.0, (within.1.0, (within.1.1, (c.requires.ready, (c.requires.code, (fits, c.loop-element.invariant.fits)))))))
