use Rattle.std.proofs.Common.{◌≡◌, drop}
use Rattle.semantics.specs.Entries.{given_at}
use Rattle.state_text.proofs.single_state.number_at.Given as goal

abbrev pub invariant-loop-line : goal.invariant-loop-line
invariant-loop-line l = given_at l.lines l.field l.key ≡ given_at (drop l.line-index l.lines) l.field l.key
