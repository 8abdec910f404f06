use Rattle.std.proofs.Common.{◌≤◌}
use Rattle.spec_match_compiler.specs.declared.decision.Decision.{size-Decision}
use Rattle.test_match_compiler.proofs.writing.+tree.Given as goal

abbrev pub invariant-write_tree-loop-out : goal.invariant-write_tree-loop-out
invariant-write_tree-loop-out l = size-Decision l.rest ≤ size-Decision l.decision
