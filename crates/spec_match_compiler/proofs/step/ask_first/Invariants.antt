use Rattle.std.proofs.Common.{◌≡◌, map, length}
use Rattle.spec_match_compiler.specs.Steps.{asked_first}
use Rattle.spec_match_compiler.specs.Views.{tree, question}
use Rattle.spec_match_compiler.proofs.step.ask_first.Given as goal

abbrev pub decreases-loop-question : goal.decreases-loop-question
decreases-loop-question l = length l.questions.items

abbrev pub invariant-loop-question : goal.invariant-loop-question
invariant-loop-question l = asked_first (map question l.questions.items) (tree l.decision)
    ≡ asked_first (map question l.initial.questions.items) (tree l.initial.decision)
