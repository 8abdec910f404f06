use Rattle.std.proofs.Common.{◌≡◌, length, map}
use Rattle.abstract_value_laws.specs.Abs.{parts}
use Rattle.abstract_value.specs.View.{abs}
use Rattle.domain_product_states.specs.Alike.{AreAlike}
use Rattle.domain_product_states.proofs.Alike.{Left}
use Rattle.domain_product_states.proofs.together.are_alike.Given as goal

abbrev pub invariant-loop-i : goal.invariant-loop-i
invariant-loop-i g l = record {
  count : length l.xs ≡ length l.ys;
  more : Left l.xs l.ys l.i → AreAlike (parts (map abs l.xs)) (parts (map abs l.ys));
}
