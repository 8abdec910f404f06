use Rattle.std.proofs.Common.{◌≡◌, drop}
use Rattle.state_text.specs.Reading.{is_given}
use Rattle.state_text.proofs.given_cells.is_among.Given as goal

abbrev pub invariant-loop-line : goal.invariant-loop-line
invariant-loop-line l = is_given l.lines l.field l.key ≡ is_given (drop l.line-index l.lines) l.field l.key
