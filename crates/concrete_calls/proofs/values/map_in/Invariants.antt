use Rattle.std.proofs.Common.{◌≡◌, take}
use Rattle.concrete_calls.specs.Values.{cells_in}
use Rattle.concrete_calls.proofs.values.map_in.Given as goal

abbrev pub invariant-loop-place : goal.invariant-loop-place
invariant-loop-place l = l.cells.items ≡ cells_in (take l.place l.m.cells)
