use Rattle.std.proofs.Common.{◌≡◌, drop}
use Rattle.std.specs.List.{list_all}
use Rattle.abstract_map_laws.specs.Keys.{has_key}
use Rattle.abstract_map_laws.specs.Maps.{keys}
use Rattle.eval_operations.proofs.keys.all_are_listed.Given as goal

abbrev pub invariant-loop-number : goal.invariant-loop-number
invariant-loop-number g l = list_all (has_key (keys l.m)) l.numbers ≡ list_all (has_key (keys l.m)) (drop l.number-index l.numbers)
