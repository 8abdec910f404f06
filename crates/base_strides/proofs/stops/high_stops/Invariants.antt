use Rattle.std.proofs.Common.{◌≡◌, ◌≤◌, ◌+◌, ◌-◌, ◌^◌, ◌∷◌, drop}
use Rattle.std.specs.Prelude.{nat_le}
use Rattle.base_strides.specs.Meaning.{how_many}
use Rattle.base_strides.proofs.stops.high_stops.Given as goal

abbrev pub invariant-loop-stop : goal.invariant-loop-stop
invariant-loop-stop l = record {
  whole : how_many (λ t. nat_le l.least t) ((2 ^ l.w - 1) ∷ l.stops) ≡ l.count + how_many (λ t. nat_le l.least t) (drop l.stop-index l.stops);
  few : l.count ≤ l.stop-index + 1;
}
