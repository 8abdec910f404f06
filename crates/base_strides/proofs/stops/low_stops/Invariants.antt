use Rattle.std.proofs.Common.{◌≡◌, ◌≤◌, ◌+◌, ◌∷◌, drop}
use Rattle.std.specs.Prelude.{nat_le}
use Rattle.base_strides.specs.Meaning.{how_many}
use Rattle.base_strides.proofs.stops.low_stops.Given as goal

abbrev pub invariant-loop-stop : goal.invariant-loop-stop
invariant-loop-stop l = record {
  whole : how_many (λ t. nat_le (t + l.x.step) l.x.lo) (0 ∷ l.stops) ≡ l.count + how_many (λ t. nat_le (t + l.x.step) l.x.lo) (drop l.stop-index l.stops);
  few : l.count ≤ l.stop-index + 1;
}
