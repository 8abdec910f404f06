use Rattle.std.proofs.Common.{◌≡◌, drop, Some}
use Rattle.spec_declarations.specs.Counts.{capped_sum, total}
use Rattle.spec_declarations.proofs.counts.sum.Given as goal

abbrev pub invariant-loop-d : goal.invariant-loop-d
invariant-loop-d l = total l.n l.counts (drop l.d-index l.held) ≡ total (capped_sum (Some 0) l.fn.own) l.counts l.held
