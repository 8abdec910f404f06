use Rattle.std.proofs.Common.{◌≡◌, length, take}
use Rattle.abstract_map_laws.specs.Maps.{keys}
use Rattle.domain_product_states.proofs.together.list_alike.Given as goal

abbrev pub invariant-loop-place : goal.invariant-loop-place
invariant-loop-place g l = record {
  count : length l.x.cells ≡ length l.y.cells;
  same : take l.place (keys l.x) ≡ take l.place (keys l.y);
}
