use Rattle.std.proofs.Common.{◌≡◌, ◌++◌, drop}
use Rattle.std.specs.List.{filter}
use Rattle.abstract_map_laws.specs.Keys.{has_key}
use Rattle.abstract_map_laws.specs.Maps.{keys}
use Rattle.eval_operations.proofs.keys.listed_among.Given as goal

abbrev pub invariant-loop-place : goal.invariant-loop-place
invariant-loop-place g l = filter (has_key l.others) (keys l.m) ≡ l.listed.items ++ filter (has_key l.others) (drop l.place (keys l.m))
