use Rattle.std.proofs.Common.{◌≡◌, drop}
use Rattle.semantics.specs.Entries.{given_at}
use Rattle.domain_cells.proofs.entry.given_at.Given as goal

abbrev pub invariant-loop-l : goal.invariant-loop-l
invariant-loop-l l = given_at l.lines l.field l.key ≡ given_at (drop l.l-index l.lines) l.field l.key
