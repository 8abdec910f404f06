use Rattle.std.proofs.Common.{◌≡◌, drop}
use Rattle.state_text.specs.OneState.{first_open}
use Rattle.state_text.proofs.single_state.first_open.Given as goal

abbrev pub invariant-loop-line : goal.invariant-loop-line
invariant-loop-line l = first_open l.lines ≡ first_open (drop l.line-index l.lines)
