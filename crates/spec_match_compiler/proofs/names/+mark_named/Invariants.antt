use Rattle.std.proofs.Common.{◌≡◌, ℕ, ◌<◌, ◌≤◌, ◌||◌, false, length, map, drop, slice_index_or}
use Rattle.spec_match_compiler.specs.declared.decision.Decision.{size-Decision}
use Rattle.spec_match_compiler.specs.Decisions.{trees}
use Rattle.spec_match_compiler.specs.Views.{tree}
use Rattle.spec_match_compiler.specs.Names.{names, some_names}
use Rattle.spec_match_compiler.proofs.names.+mark_named.Given as goal

abbrev pub invariant-mark_named-loop-rest : goal.invariant-mark_named-loop-rest
invariant-mark_named-loop-rest l =
    record {
      marks : (r : ℕ) → r < length l.fn.marks
          → (slice_index_or l.marks r false || names (tree l.rest) r) ≡ (slice_index_or l.fn.marks r false || names (tree l.decision) r);
      below : size-Decision l.rest ≤ size-Decision l.decision;
    }

abbrev pub invariant-mark_some_named-loop-arm : goal.invariant-mark_some_named-loop-arm
invariant-mark_some_named-loop-arm l =
    (r : ℕ) → r < length l.fn.marks
    → (slice_index_or l.marks r false || some_names (trees (map tree (drop l.arm-index l.arms))) r) ≡ (slice_index_or l.fn.marks r false || some_names (trees (map tree l.arms)) r)
