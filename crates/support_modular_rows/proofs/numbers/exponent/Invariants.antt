use Rattle.std.proofs.Common.{◌≡◌, ℕ, ◌+◌, ◌*◌, ◌^◌, ◌≤◌}
use Rattle.support_modular_rows.proofs.numbers.exponent.Given as goal

abbrev pub invariant-loop-rest : goal.invariant-loop-rest
invariant-loop-rest l = (w : ℕ) × (l.rest ≡ 2 ^ w) × (l.count + w ≤ 32) × (l.fn.power ≡ l.rest * 2 ^ l.count)

abbrev pub decreases-loop-rest : goal.decreases-loop-rest
decreases-loop-rest l = l.rest
