use Rattle.std.proofs.Common.{◌≡◌, ◌≤◌, map, take}
use Rattle.spec_match_compiler.specs.declared.decision.Decision.{size-Decision}
use Rattle.spec_match_compiler.specs.Views.{tree}
use Rattle.eval_code_lowering.specs.Asked.{asked_first}
use Rattle.eval_code_lowering.proofs.decisions.+copy_decision.Given as goal

-- the decision asks what is copied, and goes on as what is left
abbrev pub invariant-copy_decision-loop-rest : goal.invariant-copy_decision-loop-rest
invariant-copy_decision-loop-rest l =
    record {
      whole : tree l.decision ≡ asked_first l.asked.items (tree l.rest);
      below : size-Decision l.rest ≤ size-Decision l.decision;
    }

abbrev pub invariant-copy_decisions-loop-decision : goal.invariant-copy_decisions-loop-decision
invariant-copy_decisions-loop-decision l = map tree l.out.items ≡ map tree (take l.decision-index l.decisions)
