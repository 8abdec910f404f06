use Rattle.std.proofs.Common.{◌≡◌, ℕ, ◌*◌, ◌^◌, ◌<◌}
use Rattle.support_modular_rows.proofs.numbers.odd_part.Given as goal

abbrev pub invariant-loop-odd : goal.invariant-loop-odd
invariant-loop-odd l = (0 < l.odd) × ((v : ℕ) × (l.odd * 2 ^ v ≡ l.fn.a))

abbrev pub decreases-loop-odd : goal.decreases-loop-odd
decreases-loop-odd l = l.odd
