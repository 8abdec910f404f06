use Rattle.std.proofs.Common.{◌≡◌, length}
use Rattle.spec_match_compiler.specs.Views.{tree}
use Rattle.eval_code_lowering.specs.Asked.{asked_first}
use Rattle.eval_code_lowering.proofs.decisions.ask_first.Given as goal

abbrev pub decreases-loop-question : goal.decreases-loop-question
decreases-loop-question l = length l.asked.items

abbrev pub invariant-loop-question : goal.invariant-loop-question
invariant-loop-question l = asked_first l.asked.items (tree l.decision) ≡ asked_first l.initial.asked.items (tree l.initial.decision)
