use Rattle.std.proofs.Common.{◌≡◌, ℕ, ◌<◌, true}
use Rattle.spec_match_compiler.specs.Views.{tree}
use Rattle.spec_match_compiler.specs.Names.{names}
use Rattle.spec_match_compiler.proofs.names.first_unnamed.Given as goal

abbrev pub invariant-loop-row : goal.invariant-loop-row
invariant-loop-row l = (r : ℕ) → r < l.row → names (tree l.decision) r ≡ true
