use Rattle.std.proofs.Common.{◌≡◌, ℕ, ◌<◌, ◌≤◌, None, length, map, drop, slice_index_or}
use Rattle.spec_match_compiler.specs.Decisions.{trees}
use Rattle.spec_match_compiler.specs.declared.decision.Decision.{size-Decision}
use Rattle.spec_match_compiler.specs.Views.{tree}
use Rattle.eval_code.specs.Lowered.{first_some, named_first, named_first_in}
use Rattle.eval_code_lowering.proofs.named.+named.Given as goal

-- what is noted, and else what is left names, is what was noted, and else what the decision names
abbrev pub invariant-note_named-loop-rest : goal.invariant-note_named-loop-rest
invariant-note_named-loop-rest l =
    record {
      named : (r : ℕ) → r < length l.fn.named
          → first_some (slice_index_or l.named r None) (named_first r (tree l.rest)) ≡ first_some (slice_index_or l.fn.named r None) (named_first r (tree l.by));
      below : size-Decision l.rest ≤ size-Decision l.by;
    }

abbrev pub invariant-note_named_in-loop-arm : goal.invariant-note_named_in-loop-arm
invariant-note_named_in-loop-arm l =
    (r : ℕ) → r < length l.fn.named
    → first_some (slice_index_or l.named r None) (named_first_in r (trees (map tree (drop l.arm-index l.arms)))) ≡ first_some (slice_index_or l.fn.named r None) (named_first_in r (trees (map tree l.arms)))
