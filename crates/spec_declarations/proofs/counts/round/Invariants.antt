use Rattle.std.proofs.Common.{map}
use Rattle.spec_declarations.proofs.Rounds.{IsRound}
use Rattle.spec_declarations.proofs.counts.round.Given as goal

abbrev pub invariant-loop-d : goal.invariant-loop-d
invariant-loop-d l = IsRound (map (λ row. row.items) l.graph) l.own l.initial.counts.items l.d l.is_more l.counts.items
