use Rattle.std.proofs.Common.{◌+◌, ◌*◌, ◌≤◌, map, take}
use Rattle.spec_match_compiler.specs.declared.match_error.MatchError.{MatchError}
use Rattle.spec_match_compiler.specs.Decisions.{Decision, trees}
use Rattle.spec_match_compiler.specs.Rule.{IsTree, AreTrees}
use Rattle.spec_match_compiler.specs.Steps.{asked_first}
use Rattle.spec_match_compiler.specs.Refusals.{FailsWith}
use Rattle.spec_match_compiler.specs.Limits.{RowsInLimits, InLimits, CanAll}
use Rattle.spec_match_compiler.specs.Views.{types, tree, knowledge, candidate, question}
use Rattle.spec_match_compiler.proofs.Weight.{total}
use Rattle.spec_match_compiler.proofs.compilation.+decide.Given as goal

abbrev pub decreases-decide : goal.decreases-decide
decreases-decide l = 5 * total (map candidate l.left.items) (knowledge l.known) + 4

abbrev pub decreases-first_step : goal.decreases-first_step
decreases-first_step l = 5 * total (map candidate l.left.now) (knowledge l.known.now) + 3

abbrev pub decreases-step_by : goal.decreases-step_by
decreases-step_by l = 5 * total (map candidate l.left.now) (knowledge l.known.now) + 2

abbrev pub decreases-step_by_word : goal.decreases-step_by_word
decreases-step_by_word l = 5 * total (map candidate l.left.now) (knowledge l.known.now) + 1

abbrev pub decreases-arms : goal.decreases-arms
decreases-arms l = 5 * total (map candidate l.left.now) (knowledge l.known.now) + 1

abbrev pub decreases-after : goal.decreases-after
decreases-after l = 5 * total (map candidate l.left.now) (knowledge l.known.now)

abbrev pub decreases-decide-loop-questions : goal.decreases-decide-loop-questions
decreases-decide-loop-questions l = total (map candidate l.rows.items) (knowledge l.now)

abbrev pub invariant-decide-loop-questions : goal.invariant-decide-loop-questions
invariant-decide-loop-questions l =
    record {
      trees : (t : Decision) → IsTree (types l.sig) (map candidate l.rows.items) (knowledge l.now) t
          → IsTree (types l.sig) (map candidate l.initial.rows.items) (knowledge l.initial.now) (asked_first (map question l.questions.items) t);
      fails : (e : MatchError) → FailsWith (types l.sig) (map candidate l.rows.items) (knowledge l.now) e
          → FailsWith (types l.sig) (map candidate l.initial.rows.items) (knowledge l.initial.now) e;
      limits : RowsInLimits (map candidate l.rows.items);
      known : InLimits (knowledge l.now);
      can : CanAll (map candidate l.rows.items) (knowledge l.now);
      less : total (map candidate l.rows.items) (knowledge l.now) ≤ total (map candidate l.initial.rows.items) (knowledge l.initial.now);
    }

abbrev pub invariant-arms-loop-there : goal.invariant-arms-loop-there
invariant-arms-loop-there l =
    AreTrees (types l.sig) (map candidate l.left) (knowledge l.known) l.at
    (take l.there-index (map knowledge l.outcomes)) (trees (map tree l.arms.items))
