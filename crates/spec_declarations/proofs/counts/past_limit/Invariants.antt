use Rattle.std.proofs.Common.{◌≡◌, ◌++◌, map, drop}
use Rattle.spec_declarations.specs.Counts.{is_past}
use Rattle.spec_declarations.proofs.counts.past_limit.Given as goal

abbrev pub invariant-loop-count : goal.invariant-loop-count
invariant-loop-count l = l.large.items ++ map is_past (drop l.count-index l.counts) ≡ map is_past l.counts
