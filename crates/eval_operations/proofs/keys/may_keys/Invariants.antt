use Rattle.std.proofs.Common.{◌≡◌, ◌++◌, drop}
use Rattle.std.specs.List.{filter}
use Rattle.abstract_map_laws.specs.Maps.{keys}
use Rattle.eval_operations.proofs.keys.may_keys.Given as goal

abbrev pub invariant-loop-place : goal.invariant-loop-place
invariant-loop-place g l =
    let may = g.B.Base.algebra.words.may l.ctx l.w l.x in
    filter may (keys l.m) ≡ l.listed.items ++ filter may (drop l.place (keys l.m))
