use Rattle.std.proofs.Common.{◌+◌, ◌*◌, map, take}
use Rattle.std.specs.Prelude.{fold}
use Rattle.fixpoint_theory.specs.Outcome.{IfPost, SameOutcome}
use Rattle.fixpoint_cases.specs.Cases.{cases, cases_of_all}
use Rattle.fixpoint_cases.specs.Sent.{and_case}
use Rattle.fixpoint_case_leaves.specs.Views.{case_outcome}
use Rattle.fixpoint_case_leaves.proofs.cases.+cases.Given as goal

abbrev pub decreases-add_cases : goal.decreases-add_cases
decreases-add_cases g l = 2 * l.depth

abbrev pub decreases-add_cases_of_all : goal.decreases-add_cases_of_all
decreases-add_cases_of_all g l = 2 * l.depth + 1

abbrev pub invariant-add_cases_of_all-loop-element : goal.invariant-add_cases_of_all-loop-element
invariant-add_cases_of_all-loop-element g l = let A = g.A.SplitAnalyser.analysis l.analyser in let view = g.A.SplitAnalyser.view in record {
  value : SameOutcome A.elements (case_outcome view l.so_far)
      (fold (and_case A.elements) (case_outcome view l.fn.before) (map (A.transfer l.at) (cases_of_all (cases (g.A.SplitAnalyser.split l.analyser) l.depth l.at) (map view (take l.element-index l.elements)))));
  fits : IfPost A.elements.fits (case_outcome view l.so_far);
}
