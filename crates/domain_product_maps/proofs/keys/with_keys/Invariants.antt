use Rattle.std.proofs.Common.{◌≡◌, ◌++◌, drop}
use Rattle.abstract_map_laws.specs.Maps.{keys}
use Rattle.domain_product_maps.proofs.keys.with_keys.Given as goal

abbrev pub invariant-loop-place : goal.invariant-loop-place
invariant-loop-place g l = l.numbers.items ++ drop l.place (keys l.m) ≡ l.initial.numbers.items ++ keys l.m
