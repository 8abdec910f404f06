use Rattle.std.proofs.Common.{◌≡◌, ◌++◌}
use Rattle.state_text.proofs.single_state.listed_entries.Given as goal

abbrev pub invariant-loop-key : goal.invariant-loop-key
invariant-loop-key l = l.out.items ++ l.key-iterator ≡ l.cells.entries
